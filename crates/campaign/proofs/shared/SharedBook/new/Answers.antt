use Rattle.std.proofs.Common.{◌≡◌, ℕ, ◌+◌, ◌-◌, [], ◌∷◌, ◌++◌, replicate, sym, ap, ◌∙◌, arith}
use Rattle.std.proofs.lemmas.Grind.{replicate_next}
use Rattle.campaign.proofs.shared.SharedBook.new.Goals as goal

pub returns : goal.returns
returns g c =
    let i = c.loop.invariant in
    let k = c.loop.counter in
    let far = c.loop.auto.counter-end in
    let near = c.loop.auto.counter in
    let end = c.loop-test.false in
    let some_workers = c.requires.blank.3 in
    let m : k - 1 + 1 ≡ c.args.workers = omega arith in
    let all : ℕ = c.loop.all.amount in
    let zero : all ≡ 0 = i.amount in
    c.push_reserved-2.ensures.items ∙ ap (λ xs. xs ++ all ∷ []) i.shares ∙ ap (λ (a : ℕ). replicate (k - 1) 0 ++ a ∷ []) zero ∙ sym (replicate_next (k - 1) 0) ∙ ap (λ (n : ℕ). replicate n 0) m
