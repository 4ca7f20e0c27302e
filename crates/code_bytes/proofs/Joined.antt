-- Joins the parts of a switch's bytes.
use Rattle.std.proofs.Common.{◌≡◌, ℕ, List, ◌++◌, ap, ◌∙◌, append_assoc}

pub lookup_joined : (old head default count last one two three : List ℕ) → one ≡ old ++ head → two ≡ one ++ default → three ≡ two ++ count → three ++ last ≡ old ++ (head ++ (default ++ (count ++ last)))
lookup_joined old head default count last one two three first second third =
    ap (λ (xs : List ℕ). xs ++ last) (third ∙ ap (λ (xs : List ℕ). xs ++ count) (second ∙ ap (λ (xs : List ℕ). xs ++ default) first)) ∙ simp append_assoc

pub table_joined : (old head default low most last one two three : List ℕ) → one ≡ old ++ head → two ≡ one ++ default → three ≡ two ++ (low ++ most) → three ++ last ≡ old ++ (head ++ (default ++ (low ++ (most ++ last))))
table_joined old head default low most last one two three first second third =
    lookup_joined old head default (low ++ most) last one two three first second third ∙ simp append_assoc
