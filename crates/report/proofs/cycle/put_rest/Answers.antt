use Rattle.std.proofs.Common.{◌≡◌, ℕ, zero, suc, ◌-◌, ◌<◌, List, ◌++◌, codes, refl, sym, ap, ◌∙◌, arith}
use Rattle.std.specs.Fmt.{decimal}
use Rattle.std.specs.String.{string_bytes}
use Rattle.std.proofs.lemmas.List.{append_assoc}
use Rattle.report.specs.CycleTexts.{rest_line}
use Rattle.report.proofs.cycle.put_rest.Goals as goal

-- The line of some transactions that are left.
some_rest : (n : ℕ) → 0 < n → rest_line n ≡ codes "and " ++ decimal n ++ codes " more transactions\n"
some_rest zero below = absurd (omega arith)
some_rest (suc n) below = refl

pub returns : goal.returns
returns c =
    let more : 0 < c.args.count - 64 = omega (arith, c.if-count-le-MOST_EXPLAINED.false) in
    rw (some_rest (c.args.count - 64) more, c.in_ok-push_str.ensures.bytes, c.in_ok-put_counted.ensures) (simp append_assoc)
