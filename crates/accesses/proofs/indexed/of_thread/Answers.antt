use Rattle.std.proofs.Common.{sym, ◌∙◌, subst}
use Rattle.accesses.specs.Accesses.{OfThread, Place}
use Rattle.accesses.specs.Kept.{kept_at, kept_in}
use Rattle.accesses.specs.Links.{AreAt}
use Rattle.accesses.specs.OnePlace.{one_place}
use Rattle.accesses.specs.Places.{place_of}
use Rattle.accesses.proofs.indexed.of_thread.Goals as goal

pub returns-then-is_thread-clause-kept : goal.returns-then-is_thread-clause-kept
returns-then-is_thread-clause-kept c =
    let key = c.in_ok-place.place.now in
    let here = c.in_ok-place.found.now in
    let one = one_place (OfThread c.args.thread) (place_of key) (sym c.is_thread.ensures ∙ c.if-is_thread.true) in
    subst (λ (p : Place). AreAt (kept_in c.args.lasts.now.entries) p (kept_at p here)) (sym one)
    c.in_ok-place.ensures.kept
