use Rattle.std.proofs.Common.{◌≡◌, ℕ, List, ◌++◌, codes}
use Rattle.std.specs.Fmt.{decimal}
use Rattle.std.specs.List.{flat_map}
use Rattle.std.specs.String.{string_bytes}
use Rattle.std.proofs.lemmas.List.{append_assoc}
use Rattle.report.specs.VerdictTexts.{counts_text, number_text}
use Rattle.report.proofs.verdict.put_cycle.Goals as goal

joined : (out word first space counts colon numbers end : List ℕ) →
    out ++ (word ++ first) ++ space ++ counts ++ colon ++ numbers ++ end
    ≡ out ++ (word ++ first ++ space ++ counts ++ colon ++ numbers ++ end)
joined out word first space counts colon numbers end = simp append_assoc

pub returns : goal.returns
returns c =
    rw (
      c.in_ok-push_str-3.ensures.bytes,
      c.in_ok-put_numbers.ensures,
      c.in_ok-push_str-2.ensures.bytes,
      c.in_ok-put_counts.ensures,
      c.in_ok-push_str.ensures.bytes,
      c.in_ok-put_counted.ensures,
    )
    (joined (string_bytes c.args.out.now) (codes "cycle at ") (decimal c.args.first_at) (codes " ")
    (counts_text c.args.counts) (codes ":") (flat_map number_text c.args.transactions.now) (codes "\n"))
