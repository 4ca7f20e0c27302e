-- Classes that a test refuses aren't linked, and classes that pass all tests are.
use Rattle.std.proofs.Common.{◌≡◌, List, ◌++◌, Result, Ok, Err, map, refl, sym, subst, ap, ◌∙◌}
use Rattle.std.specs.Prelude.{MatchResult}
use Rattle.jvms_file.specs.declared.class_file.ClassFile.{ClassFile}
use Rattle.jvms_program.specs.declared.program.Class.{Class}
use Rattle.jvms_program.specs.BuiltIn.{built_in_classes}
use Rattle.jvms_program.specs.Meaning.{meaning}
use Rattle.jvms_program.specs.Program.{program_of}
use Rattle.linker.specs.declared.fault.LinkFault.{LinkFault}
use Rattle.linker.specs.declared.fault.LinkFault.TheVariants as fault
use Rattle.linker.specs.Linking.{Answers, link_result, refusal}

module _ (classes : List Class) (files : List ClassFile) (same : classes ≡ map meaning files) where
  refused : (f : LinkFault) → refusal classes ≡ Err f → link_result files ≡ Err f
  unfolding link_result
  refused f is = rw (sym (ap refusal same) ∙ is) refl

  pub refused_too : (f : LinkFault) → Answers {X = Unit {0}} (Err f) (refusal classes) → Answers {X = List Class} (Err f) (link_result files)
  refused_too fault.Memory is = tt
  refused_too (fault.BuiltInName n) is = refused (fault.BuiltInName n) is
  refused_too (fault.RepeatedClass n) is = refused (fault.RepeatedClass n) is
  refused_too (fault.MissingSuper n) is = refused (fault.MissingSuper n) is
  refused_too (fault.SuperKind n) is = refused (fault.SuperKind n) is
  refused_too (fault.Circular n) is = refused (fault.Circular n) is

  linked_by : (r : Result (List Class) LinkFault) (list : List Class) → list ≡ program_of files → link_result files ≡ Ok (program_of files) → MatchResult r (λ p. p ≡ list) (λ e. e ≡ fault.Memory) → Answers r (link_result files)
  linked_by (Ok p) list whole ok is = ok ∙ ap (λ (p : List Class). Ok p) (sym (is ∙ whole))
  linked_by (Err e) list whole ok is = subst (λ (f : LinkFault). Answers {X = List Class} (Err f) (link_result files)) (sym is) tt

  linked_ok : refusal classes ≡ Ok tt → link_result files ≡ Ok (program_of files)
  unfolding link_result
  linked_ok passes = rw (sym (ap refusal same) ∙ passes) refl

  whole_is : (list : List Class) → list ≡ built_in_classes ++ classes → list ≡ program_of files
  unfolding program_of
  whole_is list whole = whole ∙ ap (λ (cs : List Class). built_in_classes ++ cs) same

  -- Classes that pass all tests are linked, if there is memory.
  pub linked_too : (r : Result (List Class) LinkFault) (list : List Class) → list ≡ built_in_classes ++ classes → refusal classes ≡ Ok tt → MatchResult r (λ p. p ≡ list) (λ e. e ≡ fault.Memory) → Answers r (link_result files)
  linked_too r list whole passes is = linked_by r list (whole_is list whole) (linked_ok passes) is
