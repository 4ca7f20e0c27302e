use Rattle.std.proofs.Common.{◌≡◌, ◌+◌, ◌<◌, List, ℕ, [], ◌∷◌, ◌++◌, get_or, length, take, flat_map, append-nil, refl, sym, ap, ◌∙◌}
use Rattle.std.proofs.lemmas.List.{append_assoc, take_more}
use Rattle.std.proofs.lemmas.Grind.{flat_map-append}
use Rattle.std.specs.String.{string_bytes}
use Rattle.report.specs.CycleTexts.{transaction_line}
use Rattle.report.proofs.cycle.put_transactions.Goals as goal

-- The lines of one more transaction.
one_more : (f : ℕ → List ℕ) (xs : List ℕ) (k : ℕ) → k < length xs → flat_map f (take (k + 1) xs) ≡ flat_map f (take k xs) ++ f (get_or xs k 0)
one_more f xs k below =
    ap (flat_map f) (take_more xs k 0 below) ∙ flat_map-append f (take k xs) (get_or xs k 0 ∷ [])
    ∙ ap (λ l. flat_map f (take k xs) ++ l) (append-nil (f (get_or xs k 0)))

pub loop-transaction-preserved : goal.loop-transaction-preserved
loop-transaction-preserved c =
    let f = transaction_line c.args.trace.now in
    let xs = c.args.transactions.now in
    let k = c.loop-transaction.transaction-index in
    c.in_ok-put_transaction.ensures ∙ ap (λ out. out ++ f (get_or xs k 0)) c.loop-transaction.invariant
    ∙ append_assoc (string_bytes c.args.out.now) (flat_map f (take k xs)) (f (get_or xs k 0))
    ∙ ap (λ lines. string_bytes c.args.out.now ++ lines) (sym (one_more f xs k c.loop-transaction-test.true))
