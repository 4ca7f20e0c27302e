-- Look-ups by text (own).
use Rattle.std.specs.Prelude.{ℕ, List, Option}
use Rattle.std.specs.Map.{lookup}
use Rattle.std.specs.Ordering.{is_eq, nat_cmp}
use Rattle.std.specs.Cmp.Lexicographic.{slice_cmp}

-- Returns the reference of a text among texts and references.
abbrev pub indexed_reference : List (List ℕ × ℕ) → List ℕ → Option ℕ
indexed_reference entries units = lookup (λ k. is_eq (slice_cmp nat_cmp units k)) entries
