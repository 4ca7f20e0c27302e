use Rattle.std.proofs.Common.{List, subst, sym}
use Rattle.accesses.specs.Tables.{IsIndexed}
use Rattle.accesses.specs.declared.lasts.PlaceAccesses.{PlaceAccesses}
use Rattle.accesses.specs.declared.place.Place.{Place as Key}
use Rattle.accesses.proofs.Tabled.{indexed_none}
use Rattle.accesses.proofs.table.Table.new.Goals as goal

pub invariant_of-result : goal.invariant_of-result
invariant_of-result c = subst (λ (es : List (Key × PlaceAccesses)). IsIndexed c.new.result es) (sym c.new-2.ensures.items) (indexed_none c.new.result c.new.ensures.empty)
