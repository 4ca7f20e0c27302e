use Rattle.std.proofs.Common.{◌≡◌, ap, arith, sym, ◌∙◌}
use Rattle.rand_pcg.specs.Pcg.{pcg32}
use Rattle.schedule.proofs.Priorities.{drawn_more, no_word_left, one_word_less}
use Rattle.schedule.proofs.ranked.draw.Goals as goal

pub loop-place-preserved : goal.loop-place-preserved
loop-place-preserved c =
    let word : (c.from.result, c.next_word.new.self) ≡ pcg32 c.loop-place.generator = ap (λ w. (w, c.next_word.new.self)) c.from.ensures ∙ c.next_word.ensures in (
      drawn_more c.args.turns c.loop-place.changes c.loop-place.place _ c.from.result c.loop-place.generator c.next_word.new.self _
          word (omega arith) (omega arith) c.loop-place.invariant.0,
      sym (one_word_less _ c.loop-place.place c.from.result c.loop-place.generator c.next_word.new.self word (omega arith)) ∙ c.loop-place.invariant.1,
    )

pub returns-clause-generator : goal.returns-clause-generator
returns-clause-generator c = sym (no_word_left _ c.loop-place.place c.loop-place.generator (omega arith)) ∙ c.loop-place.invariant.1
