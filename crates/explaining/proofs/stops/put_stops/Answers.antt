use Rattle.std.proofs.Common.{◌≡◌, ℕ, suc, ◌+◌, ◌-◌, ◌<◌, List, ◌++◌, flat_map, sym, ap, ◌∙◌, arith, append_assoc}
use Rattle.std.specs.List.{range_with_len}
use Rattle.std.specs.String.{string_bytes}
use Rattle.explaining.specs.Stops.{stop_line}
use Rattle.explaining.proofs.stops.put_stops.Goals as goal

-- The first of the threads that are left.
next_thread : (f : ℕ → List ℕ) (k end : ℕ) → k < end
    → flat_map f (range_with_len k (end - k)) ≡ f k ++ flat_map f (range_with_len (k + 1) (end - (k + 1)))
next_thread f k end below =
    let more : end - k ≡ suc (end - (k + 1)) = omega arith in ap (λ n. flat_map f (range_with_len k n)) more

pub loop-thread-preserved : goal.loop-thread-preserved
loop-thread-preserved c =
    let f = stop_line c.args.sources.now.first c.args.sources.now.files.now c.args.machine.now in
    let k = c.loop-thread.thread in
    let end = c.thread_count-thread-end.result in
    let rest = flat_map f (range_with_len (k + 1) (end - (k + 1))) in
    ap (λ out. out ++ rest) c.in_ok-put_thread.ensures ∙ append_assoc (string_bytes c.loop-thread.out) (f k) rest
    ∙ ap (λ lines. string_bytes c.loop-thread.out ++ lines) (sym (next_thread f k end c.loop-thread-test.true)) ∙ c.loop-thread.invariant
