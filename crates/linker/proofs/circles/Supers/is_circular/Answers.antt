use Rattle.std.proofs.Common.{◌≡◌, ℕ, List, Some, None, true, length, ltb, sym, ap, subst, ◌∙◌}
use Rattle.std.specs.List.{list_all}
use Rattle.jvms_program.specs.declared.program.Class.{Class}
use Rattle.jvms_program.specs.Program.{class_number}
use Rattle.jvms_program.specs.Resolution.{supers_of}
use Rattle.classes.specs.Hierarchy.{super_numbers}
use Rattle.linker.proofs.AncestryLaws.{none_is_above, numbers_within}
use Rattle.linker.proofs.circles.Supers.is_circular.Goals as goal

pub returns-in_default : goal.returns-in_default
returns-in_default c =
    let program = c.args.self.now in
    let absent : class_number program c.args.class.now.name ≡ None =
    ap (class_number program) (sym c.as_slice.ensures) ∙ ap (λ (p : List Class). class_number p c.as_slice.result.now) (sym c.program-program.ensures) ∙ sym c.in_default.ensures in
    sym (none_is_above program (length program) c.args.class.now.name (supers_of c.args.class.now) absent)

pub returns-then-is_not_above : goal.returns-then-is_not_above
returns-then-is_not_above c =
    let program = c.args.self.now in
    let there : class_number program c.args.class.now.name ≡ Some c.in-Some.number =
    ap (class_number program) (sym c.as_slice.ensures) ∙ ap (λ (p : List Class). class_number p c.as_slice.result.now) (sym c.program-program.ensures) ∙ sym c.in-Some.ensures in
    let are : c.in_ok-supers.supers ≡ super_numbers program c.args.class.now = c.in_ok-supers.ensures ∙ ap (λ (p : List Class). super_numbers p c.args.class.now) c.program-program.ensures in
    sym (c.is_not_above.ensures c.if-is_not_above.true c.args.class.now.name (supers_of c.args.class.now) there (c.as_slice-2.ensures ∙ are))

pub all_above-requires : goal.all_above-requires
all_above-requires c =
    let program = c.args.self.now in
    let are : c.in_ok-supers.supers ≡ super_numbers program c.args.class.now = c.in_ok-supers.ensures ∙ ap (λ (p : List Class). super_numbers p c.args.class.now) c.program-program.ensures in
    subst (λ (ns : List ℕ). list_all (λ n. ltb n (length program)) ns ≡ true) (sym (c.as_slice-3.ensures ∙ are)) (numbers_within program (supers_of c.args.class.now))

pub returns : goal.returns
returns c =
    let program = c.args.self.now in
    let there : class_number program c.args.class.now.name ≡ Some c.in-Some.number =
    ap (class_number program) (sym c.as_slice.ensures) ∙ ap (λ (p : List Class). class_number p c.as_slice.result.now) (sym c.program-program.ensures) ∙ sym c.in-Some.ensures in
    let are : c.in_ok-supers.supers ≡ super_numbers program c.args.class.now = c.in_ok-supers.ensures ∙ ap (λ (p : List Class). super_numbers p c.args.class.now) c.program-program.ensures in
    let above = c.in_ok-all_above.ensures (supers_of c.args.class.now) (c.as_slice-3.ensures ∙ are) in
    c.has-2.ensures ∙ above.all c.args.class.now.name c.in-Some.number there
