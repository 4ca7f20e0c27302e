use Rattle.std.proofs.Common.{◌≡◌, ℕ, List, [], true, get_or, length, ltb, sym, subst, arith}
use Rattle.std.specs.List.{list_all}
use Rattle.std.proofs.lemmas.Grind.{common_steps}
use Rattle.classes.specs.Hierarchy.{super_rows}
use Rattle.linker.proofs.AncestryLaws.{row_within}
use Rattle.linker.proofs.circles.Supers.row.Goals as goal

pub returns-clause-below : goal.returns-clause-below
returns-clause-below c =
    let value : c.as_slice.result.now ≡ get_or (super_rows c.args.self.now) c.args.number [] = grind (arith, common_steps) in
    subst (λ (ns : List ℕ). list_all (λ n. ltb n (length c.args.self.now)) ns ≡ true) (sym value) (row_within c.args.self.now c.args.number)
