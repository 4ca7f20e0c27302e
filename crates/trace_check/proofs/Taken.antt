-- Items that are fed one after another.
use Rattle.std.proofs.Common.{◌≡◌, ℕ, ◌+◌, ◌<◌, List, [], ◌∷◌, ◌++◌, length, get_or, take, drop, refl, sym, ◌∙◌, ap}
use Rattle.std.specs.Prelude.{Option, Some, None, Err}
use Rattle.std.proofs.lemmas.List.{drop_more, take_more}
use Rattle.jvms_machine.specs.declared.trace.Item.{Item}
use Rattle.velodrome.specs.Specification.{Specification}
use Rattle.atom_graph.specs.declared.fault.FeedFault.{FeedFault}
use Rattle.atom_graph.specs.declared.fault.FeedFault.TheVariants as feed
use Rattle.atom_graph.specs.Checking.{Fed, IsFeeding, fault_of, with_item}
use Rattle.trace_check.specs.Checks.{IsRefused, first_refused, refusal_of, refused_or}

-- The items from a place on begin with the one at the place.
left_from : (items : List Item) (n : ℕ) (i : Item) → n < length items → i ≡ get_or items n i → drop n items ≡ i ∷ drop (n + 1) items
left_from items n i here is = drop_more items n i here ∙ ap (λ j. j ∷ drop (n + 1) items) (sym is)

-- One more item was accepted.
pub fed_more : (lines : Specification) (items : List Item) (n : ℕ) (i : Item) → n < length items → i ≡ get_or items n i →
    with_item i (record { lines = lines; items = take n items }) ≡ record { lines = lines; items = take (n + 1) items }
fed_more lines items n i here is =
    let fed : List Item → Fed = λ taken. record { lines = lines; items = taken } in
    ap fed (ap (λ j. take n items ++ j ∷ []) is ∙ sym (take_more items n i here))

-- The first refused item is after one that is accepted.
pub left_more : (fed : Fed) (items : List Item) (n line : ℕ) (i : Item) → n < length items → i ≡ get_or items n i → fault_of fed i ≡ None →
    first_refused (with_item i fed) (line + 1) (drop (n + 1) items) ≡ first_refused fed line (drop n items)
left_more fed items n line i here is taken =
    let behind = first_refused (with_item i fed) (line + 1) (drop (n + 1) items) in
    rw (left_from items n i here is) (sym (ap (λ why. refused_or line why behind) taken))

-- An item that is refused is the first.
left_refused : (fed : Fed) (items : List Item) (n line : ℕ) (i : Item) (why : FeedFault) → n < length items → i ≡ get_or items n i → fault_of fed i ≡ Some why →
    first_refused fed line (drop n items) ≡ Some (line, why)
left_refused fed items n line i why here is refused =
    rw (left_from items n i here is) (ap (λ said. refused_or line said (first_refused (with_item i fed) (line + 1) (drop (n + 1) items))) refused)

-- The result for a refused item, if the remaining items yield this one.
pub refused_so : (fed new : Fed) (items : List Item) (n line : ℕ) (i : Item) (whole : Option (ℕ × FeedFault)) (why : FeedFault) →
    n < length items → i ≡ get_or items n i → first_refused fed line (drop n items) ≡ whole → IsFeeding fed i (Err why) new →
    IsRefused whole (refusal_of line why)
refused_so fed new items n line i whole feed.Unmatched here is left refused =
    (line, feed.Unmatched, sym left ∙ left_refused fed items n line i feed.Unmatched here is refused.0, refl)
refused_so fed new items n line i whole feed.TooMany here is left refused =
    (line, feed.TooMany, sym left ∙ left_refused fed items n line i feed.TooMany here is refused.0, refl)
refused_so fed new items n line i whole feed.Memory here is left refused = tt
