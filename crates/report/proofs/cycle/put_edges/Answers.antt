use Rattle.std.proofs.Common.{◌≡◌, ℕ, suc, ◌+◌, ◌-◌, ◌<◌, List, ◌++◌, flat_map, sym, ap, ◌∙◌, arith}
use Rattle.std.proofs.lemmas.List.{append_assoc}
use Rattle.std.specs.List.{range_with_len}
use Rattle.std.specs.String.{string_bytes}
use Rattle.report.specs.CycleTexts.{edge_at}
use Rattle.report.proofs.cycle.put_edges.Goals as goal

-- The first of the edges that are left.
next_edge : (f : ℕ → List ℕ) (k end : ℕ) → k < end
    → flat_map f (range_with_len k (end - k)) ≡ f k ++ flat_map f (range_with_len (k + 1) (end - (k + 1)))
next_edge f k end below =
    let more : end - k ≡ suc (end - (k + 1)) = omega arith in ap (λ n. flat_map f (range_with_len k n)) more

pub loop-place-preserved : goal.loop-place-preserved
loop-place-preserved c =
    let f = edge_at c.args.trace.now c.args.transactions.now c.args.pairs.now in
    let k = c.loop-place.place in
    let end = c.min-place-end.result in
    let rest = flat_map f (range_with_len (k + 1) (end - (k + 1))) in
    ap (λ out. out ++ rest) c.in_ok-put_edge_at.ensures ∙ append_assoc (string_bytes c.loop-place.out) (f k) rest
    ∙ ap (λ edges. string_bytes c.loop-place.out ++ edges) (sym (next_edge f k end c.loop-place-test.true)) ∙ c.loop-place.invariant
