use Rattle.std.proofs.Common.{◌≡◌, refl, sym, ◌∙◌}
use Rattle.accesses.specs.Places.{place_of}
use Rattle.accesses.proofs.ByIndex.{touched_is}
use Rattle.accesses.proofs.Entries.{found_in}
use Rattle.accesses.proofs.indexed.of_touched.Goals as goal

pub returns-then-is_touched : goal.returns-then-is_touched
returns-then-is_touched c =
    let es = c.args.lasts.now.entries in
    let key = c.in_ok-place.place.now in
    let here = c.in_ok-place.found.now in
    record {
      place = place_of key;
      touched = touched_is c.args.item.now (place_of key) (sym c.is_touched.ensures ∙ c.if-is_touched.true);
      entry = found_in (λ e. place_of e.0 ≡ place_of key) es c.args.index (key, here) c.in_ok-place.ensures.entry refl;
      kept = c.in_ok-place.ensures.kept;
    }
