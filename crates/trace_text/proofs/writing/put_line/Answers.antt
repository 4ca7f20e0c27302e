-- A text may be truncated to the text that it begins with.
use Rattle.std.proofs.Common.{◌≡◌, ℕ, List, length, take, IsUtf8, sym, ap, subst, ◌∙◌, rules, arith}
use Rattle.std.specs.Io.{StartsWith}
use Rattle.std.specs.String.{string_bytes}
use Rattle.std.specs.String.Boundary.{IsSplitPoint}
use Rattle.std.proofs.Transfers.{starts_with_length}
use Rattle.std.proofs.lemmas.Str.{IsUtf8-string_bytes, IsCharBoundary-from_take}
use Rattle.trace_text.proofs.writing.put_line.Goals as goal

may_be_truncated : (before now : List ℕ) (n : ℕ) → n ≡ length before → IsUtf8 before → IsUtf8 now → StartsWith now before → IsSplitPoint now n
may_be_truncated before now n size text more begins =
    let within = starts_with_length now before begins in
    let front = subst IsUtf8 (sym (ap (λ (k : ℕ). take k now) size ∙ begins)) text in
    let boundary = IsCharBoundary-from_take now n more (omega arith) front in
    (boundary.0, λ some. boundary.1)

pub truncate-requires : goal.truncate-requires
truncate-requires c within =
    let old = c.args.out.now in
    let new = c.put_parts.new.out in
    may_be_truncated (string_bytes old) (string_bytes new) c.len-before.result (search rules) (IsUtf8-string_bytes old) (IsUtf8-string_bytes new) c.in-Err.ensures.appended
