-- Proves that texts of different lengths differ.
use Rattle.std.proofs.Common.{◌≡◌, ◌≢◌, ℕ, Bool, true, false, List, length, refl, ap}
use Rattle.std.specs.Cmp.Lexicographic.{bytes_decides}
use Rattle.jvms_file.specs.Names.{same_text}

pub not_same : (a b : List ℕ) → length a ≢ length b → false ≡ same_text a b
not_same a b other = by (same_text a b) refl
  where
    by : (s : Bool) → same_text a b ≡ s → false ≡ s
    by true same = absurd (other (ap length ((bytes_decides a b).0 same)))
    by false same = refl
