use Rattle.std.proofs.Common.{◌≡◌, ◌+◌, ◌-◌, get_or, ap, ◌∙◌, subst, arith}
use Rattle.exploration_joins.specs.Numbers.{IsFirstTwice}
use Rattle.exploration_joins.proofs.Sorted.{once, twice}
use Rattle.exploration_joins.proofs.numbers.first_twice.Goals as goal

pub returns-then-numbers-place : goal.returns-then-numbers-place
returns-then-numbers-place c =
    let xs = c.args.numbers.now in
    let place = c.loop-place.place in
    let next : place - 1 + 1 ≡ place = omega (arith, c.loop-place.auto.place) in
    subst (λ n. IsFirstTwice xs (get_or xs n 0)) next
    (twice xs (place - 1) (omega (arith, next, c.loop-place-test.true)) c.requires (λ k less. c.loop-place.invariant k (omega (arith, less, next)))
    (ap (λ n. get_or xs n 0) next ∙ c.if-numbers-place.true))

pub returns : goal.returns
returns c = λ number. once c.args.numbers.now c.loop-place.place c.loop-place-test.false c.loop-place.invariant number
