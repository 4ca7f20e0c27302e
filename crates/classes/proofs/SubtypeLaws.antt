-- No class of an ancestry has a name that no class has.
use Rattle.std.proofs.Common.{◌≡◌, ℕ, Bool, true, false, List, [], ◌∷◌, length, None, refl, sym, ap, ◌∙◌}
use Rattle.std.specs.Cmp.Lexicographic.{same_text as texts_are_same}
use Rattle.std.specs.List.{AllByRecursion}
use Rattle.std.proofs.lemmas.Option.{none-some}
use Rattle.jvms_file.specs.Names.{same_text}
use Rattle.jvms_program.specs.declared.program.Class.{Class}
use Rattle.jvms_program.specs.Program.{class_named}
use Rattle.jvms_program.specs.Resolution.{ancestry, names_class}
use Rattle.classes.proofs.PlaceLaws.{IsNamed, ancestry_named}

differs : (program : List Class) (name : List ℕ) (c : Class) (b : Bool) → class_named program name ≡ None → IsNamed program c → same_text c.name name ≡ b → b ≡ false
differs program name c false none named test = refl
differs program name c true none named test =
    absurd (none-some c (sym none ∙ ap (class_named program) (sym (texts_are_same c.name name (sym test))) ∙ named))

none_of : (program : List Class) (name : List ℕ) → class_named program name ≡ None → (cs : List Class) → AllByRecursion (IsNamed program) cs → names_class name cs ≡ false
none_of program name none [] named = refl
none_of program name none (c ∷ cs) named =
    rw (differs program name c (same_text c.name name) none named.0 refl) (none_of program name none cs named.1)

pub none_named : (program : List Class) (name class : List ℕ) → class_named program name ≡ None → names_class name (ancestry program class) ≡ false
none_named program name class none = none_of program name none (ancestry program class) (ancestry_named (length program) program class)
