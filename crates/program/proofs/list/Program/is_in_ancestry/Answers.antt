use Rattle.std.proofs.Common.{◌≡◌, ℕ, List, Some, subst}
use Rattle.std.specs.Prelude.{IfSome, slice_get}
use Rattle.jvms_program.specs.declared.program.Class.{Class}
use Rattle.jvms_program.specs.Program.{class_number}
use Rattle.jvms_program.specs.Resolution.{ancestry, names_class}
use Rattle.program.proofs.SubclassLaws.{is_in_set}
use Rattle.program.proofs.list.Program.is_in_ancestry.Goals as goal

pub returns : goal.returns
returns c =
    subst
    (λ (p : List Class). (d : Class) (name : List ℕ) → slice_get p c.args.class ≡ Some d → class_number p d.name ≡ Some c.args.class → class_number p name ≡ Some c.args.above
    → IfSome c.has.result (λ is. is ≡ names_class name (ancestry p d.name)))
    c.self.view_is
    (is_in_set c.self.inside.by_name c.self.inside.tables.ancestors c.args.class c.args.above c.has.result c.self.invariant.ancestors c.has.ensures)
