-- Texts with the number of their first entry (own).
use Rattle.std.specs.Prelude.{ℕ, ◌*◌, ◌%◌, ◌^◌, List, [], ◌∷◌, Option, bit_xor}
use Rattle.std.specs.BTreeMap as tree
use Rattle.std.specs.Cmp.Lexicographic.{slice_cmp}
use Rattle.std.specs.Ordering.{nat_cmp, ordering_then}
use Rattle.const_pool.specs.declared.firsts.Firsts.{Firsts}

-- Returns the fingerprint of a text that follows one of this fingerprint.
abbrev pub fingerprint_from : ℕ → List ℕ → ℕ
fingerprint_from n [] = n
fingerprint_from n (u ∷ us) = fingerprint_from ((bit_xor n u * 0x100000001b3) % 2 ^ 64) us

unfoldable pub fingerprint_of : List ℕ → ℕ
fingerprint_of text = fingerprint_from 0xcbf29ce484222325 text

-- Returns the number of a text, if it is there.
abbrev pub number_at : Firsts → List ℕ → Option ℕ
number_at firsts text =
    tree.get_by (λ key. ordering_then (nat_cmp (fingerprint_of text) key.0) (slice_cmp nat_cmp text key.1.now)) firsts.numbers
