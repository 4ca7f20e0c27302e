use Rattle.std.proofs.Common.{◌≡◌, ◌<◌, [], length, get_or, ◌∙◌, sym, below_more}
use Rattle.std.proofs.lemmas.Bool.{not-true, not-false}
use Rattle.linker.specs.Linking.{names_of}
use Rattle.linker.proofs.RepeatedNames.{name_at, names_within, repeats_when, seen_more, first_repeated, none_repeated}
use Rattle.linker.proofs.refusals.repeated_name.Goals as goal

pub loop-place-preserved : goal.loop-place-preserved
loop-place-preserved c =
    let within : c.loop-place.place < length (names_of c.args.classes.now) = names_within _ _ c.loop-place-test.true in
    let here : get_or (names_of c.args.classes.now) c.loop-place.place [] ≡ c.as_slice.result.now = name_at c.args.classes.now c.loop-place.place c.index-classes-place.result c.loop-place-test.true c.index-classes-place.is ∙ sym c.as_slice.ensures in
    record {
      seen = λ q. c.in_ok-insert.ensures.updates.0 q ∙ seen_more (names_of c.args.classes.now) c.loop-place.place c.as_slice.result.now q.now _ within here (c.loop-place.invariant.seen q);
      fresh = below_more _ _ c.loop-place.invariant.fresh (repeats_when _ _ _ _ here (c.loop-place.invariant.seen c.as_slice.result) ∙ not-true _ (sym c.in_ok-insert.ensures.added ∙ c.if-not-branch.false));
    }

pub returns-then-not-branch : goal.returns-then-not-branch
returns-then-not-branch c =
    let within : c.loop-place.place < length (names_of c.args.classes.now) = names_within _ _ c.loop-place-test.true in
    let here : get_or (names_of c.args.classes.now) c.loop-place.place [] ≡ c.as_slice.result.now = name_at c.args.classes.now c.loop-place.place c.index-classes-place.result c.loop-place-test.true c.index-classes-place.is ∙ sym c.as_slice.ensures in
    sym (first_repeated _ _ within c.loop-place.invariant.fresh (repeats_when _ _ _ _ here (c.loop-place.invariant.seen c.as_slice.result) ∙ not-false _ (sym c.in_ok-insert.ensures.added ∙ c.if-not-branch.true)))

pub returns : goal.returns
returns c = sym (none_repeated _ _ c.loop-place-test.false c.loop-place.invariant.fresh)
