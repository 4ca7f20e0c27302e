use Rattle.std.proofs.Common.{◌≡◌, ◌<◌, ℕ, [], length, get_or, refl, sym, ap, ◌∙◌, arith}
use Rattle.std.proofs.lemmas.Option.{get_or_from_slice_get, slice_get_within}
use Rattle.classes.specs.Hierarchy.{super_rows}
use Rattle.linker.specs.Supers.{with_numbers, Numbers}
use Rattle.linker.proofs.AncestryLaws.{closed_none, closed_next, reached_first, reached_next, whole}
use Rattle.linker.proofs.SetLaws.{all_in, past_place, still_all_in}
use Rattle.linker.proofs.circles.Supers.all_above.Goals as goal

pub loop-place-init : goal.loop-place-init
loop-place-init c =
    let made : c.add_all.new.self ≡ record { limit = length c.args.self.now; numbers = with_numbers [] c.args.numbers.now } =
    c.in_ok-add_all.ensures
    ∙ ap (λ (s : Numbers). record { limit = s.limit; numbers = with_numbers s.numbers c.args.numbers.now }) c.in_ok-met.ensures
    ∙ ap (λ (n : ℕ). record { limit = n; numbers = with_numbers [] c.args.numbers.now }) c.len.ensures in
    rw made (record {
      limit = refl;
      begun = all_in [] c.args.numbers.now;
      closed = closed_none c.args.self.now (with_numbers [] c.args.numbers.now);
      reached = λ names are. reached_first c.args.self.now names c.args.numbers.now are;
    })

pub returns-in_default : goal.returns-in_default
returns-in_default c =
    λ names is.
    let done = past_place c.loop-place.met.numbers c.loop-place.place c.in_default.ensures.value in
    whole c.args.self.now c.args.numbers.now c.loop-place.met.numbers c.loop-place.place c.loop-place.invariant.begun c.loop-place.invariant.closed done (omega arith)
    names is (c.loop-place.invariant.reached names is)

pub loop-place-preserved : goal.loop-place-preserved
loop-place-preserved c =
    let met = c.loop-place.met.numbers in
    let place = c.loop-place.place in
    let it : get_or met place 0 ≡ c.in-Some.number = get_or_from_slice_get met place c.in-Some.number 0 (sym c.in-Some.ensures.value) in
    let there : place < length met = slice_get_within met place c.in-Some.number (sym c.in-Some.ensures.value) in
    let more = get_or (super_rows c.args.self.now) (get_or met place 0) [] in
    let made : c.add_all-in-loop-place.new.self ≡ record { limit = c.loop-place.met.limit; numbers = with_numbers met more } =
    c.in_ok-add_all-2.ensures
    ∙ ap (λ ns. record { limit = c.loop-place.met.limit; numbers = with_numbers met ns }) (c.row.ensures.value ∙ ap (λ n. get_or (super_rows c.args.self.now) n []) (sym it)) in
    rw made (record {
      limit = c.loop-place.invariant.limit;
      begun = still_all_in met more c.args.numbers.now c.loop-place.invariant.begun;
      closed = closed_next c.args.self.now met place there c.loop-place.invariant.closed;
      reached = λ names are. reached_next c.args.self.now names met place there (c.loop-place.invariant.reached names are);
    })

pub returns : goal.returns
returns c =
    λ names is.
    whole c.args.self.now c.args.numbers.now c.loop-place.met.numbers c.loop-place.place c.loop-place.invariant.begun c.loop-place.invariant.closed (omega arith) (omega arith)
    names is (c.loop-place.invariant.reached names is)
