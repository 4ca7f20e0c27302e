-- Entries that are tried by their index.
use Rattle.std.proofs.Common.{◌≡◌, true, [], ◌∷◌, sym, ap, true≢false}
use Rattle.jvms_machine.specs.declared.trace.Item.{Item}
use Rattle.jvms_machine.specs.declared.trace.Item.TheVariants as item
use Rattle.accesses.specs.Accesses.{OfMonitor, OfThread, OfVariable, Place, accesses_beside, beside_at, main_at}
use Rattle.accesses.specs.OnePlace.{one_place}
use Rattle.accesses.specs.Touches.{touched_at, touches_at}

-- A place that an item touches is all that it touches.
pub touched_is : (i : Item) (p : Place) → touches_at i p ≡ true → accesses_beside i ≡ touched_at i p ∷ []
touched_is (item.Read t v) p is = ap (λ (q : Place). beside_at q ∷ []) (one_place (OfVariable v) p is)
touched_is (item.Write t v) p is = ap (λ (q : Place). main_at q ∷ []) (one_place (OfVariable v) p is)
touched_is (item.Acquire t r) p is = ap (λ (q : Place). main_at q ∷ []) (one_place (OfMonitor r) p is)
touched_is (item.Release t r) p is = ap (λ (q : Place). main_at q ∷ []) (one_place (OfMonitor r) p is)
touched_is (item.Fork t u) p is = ap (λ (q : Place). beside_at q ∷ []) (one_place (OfThread u) p is)
touched_is (item.Join t u) p is = ap (λ (q : Place). beside_at q ∷ []) (one_place (OfThread u) p is)
touched_is (item.Enter t m) p is = absurd (true≢false (sym is))
touched_is (item.Exit t m) p is = absurd (true≢false (sym is))
