use Rattle.std.proofs.Common.{◌≡◌, ◌∙◌, ◌++◌, ◌∷◌, [], ℕ, List, Some, length, ap, subst, sym, arith}
use Rattle.std.proofs.lemmas.Grind.{common_steps}
use Rattle.std.specs.BTreeMap.{Updates}
use Rattle.accesses.specs.Kept.{kept_in}
use Rattle.accesses.specs.Ordered.{place_cmp}
use Rattle.accesses.specs.Places.{place_of}
use Rattle.accesses.specs.Rooms.{IsEntryOf}
use Rattle.accesses.specs.Tables.{IsIndexed}
use Rattle.accesses.specs.declared.lasts.PlaceAccesses.{PlaceAccesses}
use Rattle.accesses.specs.declared.place.Place.{Place as Key}
use Rattle.accesses.proofs.Entries.{kept_with_new, stays_found}
use Rattle.accesses.proofs.Tabled.{indexed_pushed, pushed_at}
use Rattle.accesses.proofs.table.add_in.Goals as goal

pub returns-clause-indexed : goal.returns-clause-indexed
returns-clause-indexed c =
    let es = c.args.entries.now.items in
    let whole = c.push_reserved.ensures.items ∙ ap (λ (fs : List (Key × PlaceAccesses)). fs ++ (c.args.place, c.new.result) ∷ []) c.reserve.ensures.items in
    let long : c.len-count.result ≡ length es = grind (arith, common_steps) in
    let updates = subst (λ (k : ℕ). Updates place_cmp c.args.index.now c.note_index.new.index c.args.place (Some k)) long c.in_ok-note_index.ensures.ok in
    subst (λ (fs : List (Key × PlaceAccesses)). IsIndexed c.note_index.new.index fs) (sym whole)
    (indexed_pushed c.args.index.now c.note_index.new.index es c.args.place c.new.result c.requires.indexed c.requires.none updates)

pub returns-clause-same : goal.returns-clause-same
returns-clause-same c =
    let whole = c.push_reserved.ensures.items ∙ ap (λ (fs : List (Key × PlaceAccesses)). fs ++ (c.args.place, c.new.result) ∷ []) c.reserve.ensures.items in
    ap kept_in whole ∙ kept_with_new c.args.entries.now.items c.args.place c.new.result c.new.ensures.main c.new.ensures.beside

pub returns-clause-at : goal.returns-clause-at
returns-clause-at c =
    let es = c.args.entries.now.items in
    let p = place_of c.args.place in
    let whole = c.push_reserved.ensures.items ∙ ap (λ (fs : List (Key × PlaceAccesses)). fs ++ (c.args.place, c.new.result) ∷ []) c.reserve.ensures.items in
    let long : c.len-count.result ≡ length es = grind (arith, common_steps) in
    subst (λ (n : ℕ). IsEntryOf c.push_reserved.new.self.items n p) (sym long)
    (subst (λ (fs : List (Key × PlaceAccesses)). IsEntryOf fs (length es) p) (sym whole) (pushed_at es c.args.place c.new.result))

pub returns-clause-places : goal.returns-clause-places
returns-clause-places c n p is =
    let whole = c.push_reserved.ensures.items ∙ ap (λ (fs : List (Key × PlaceAccesses)). fs ++ (c.args.place, c.new.result) ∷ []) c.reserve.ensures.items in
    subst (λ (fs : List (Key × PlaceAccesses)). IsEntryOf fs n p) (sym whole) (stays_found (λ e. place_of e.0 ≡ p) c.args.entries.now.items ((c.args.place, c.new.result) ∷ []) n is)
