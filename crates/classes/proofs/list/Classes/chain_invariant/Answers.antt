use Rattle.std.proofs.Common.{◌≡◌, List, ◌∷◌, Some, subst}
use Rattle.std.specs.Prelude.{slice_get}
use Rattle.jvms_program.specs.declared.program.Class.{Class}
use Rattle.jvms_program.specs.Program.{class_number}
use Rattle.jvms_program.specs.Resolution.{chain}
use Rattle.classes.specs.Hierarchy.{chain_up}
use Rattle.classes.proofs.StartLaws.{chain_is}
use Rattle.classes.proofs.list.Classes.chain_invariant.Goals as goal

pub returns : goal.returns
returns c =
    let inside = c.self.inside in
    let n = c.args.number in
    let class = c.args.class.now in
    subst (λ (p : List Class). slice_get p n ≡ Some class → class_number p class.name ≡ Some n → chain p class.name ≡ class ∷ chain_up p class.superclass) c.self.view_is
    (λ at number. chain_is inside.list inside.hierarchy.supers.items inside.hierarchy.ranks.items inside.hierarchy.order.items c.self.invariant.0 n class at number)
    c.requires.there c.requires.named
