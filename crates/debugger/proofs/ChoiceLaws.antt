-- Choices and their prefixes.
use Rattle.std.proofs.Common.{◌≡◌, ℕ, ◌+◌, ◌<◌, ◌≤◌, List, [], ◌∷◌, ◌++◌, length, take, replicate, get_or, sym, ap, ◌∙◌, arith}
use Rattle.std.proofs.lemmas.List.{append-nil, append_assoc, length-take-le, replicate-append-replicate, take-take, take_more}
use Rattle.std.proofs.Math.Seq.{take-append_seam}

-- No more choices.
pub none_more : (cs : List ℕ) (p t : ℕ) → take (p + 0) cs ≡ take p cs ++ replicate 0 t
none_more cs p t =
    let same : p + 0 ≡ p = omega arith in
    ap (λ n. take n cs) same ∙ sym (append-nil (take p cs))

-- One more choice of the same thread.
pub one_more : (cs : List ℕ) (p n t : ℕ) → p + n < length cs → get_or cs (p + n) 0 ≡ t → take (p + n) cs ≡ take p cs ++ replicate n t → take (p + (n + 1)) cs ≡ take p cs ++ replicate (n + 1) t
one_more cs p n t within is same =
    let next : p + (n + 1) ≡ p + n + 1 = omega arith in
    ap (λ k. take k cs) next ∙ take_more cs (p + n) 0 within ∙ ap (λ x. take (p + n) cs ++ x ∷ []) is ∙ ap (λ l. l ++ t ∷ []) same
    ∙ append_assoc (take p cs) (replicate n t) (t ∷ []) ∙ ap (λ l. take p cs ++ l) (replicate-append-replicate n 1 t)

-- Two lists with the same first n elements have the same first elements for any smaller number.
pub take_less : (xs ys : List ℕ) (n k : ℕ) → k ≤ n → take n xs ≡ take n ys → take k xs ≡ take k ys
take_less xs ys n k less same = sym (take-take k n xs less) ∙ ap (take k) same ∙ take-take k n ys less

-- A list that begins with the first n elements of another has the same first n elements.
pub take_front : (xs ys more : List ℕ) (n : ℕ) → n ≤ length xs → ys ≡ take n xs ++ more → take n xs ≡ take n ys
take_front xs ys more n h is =
    let seam : take (length (take n xs)) (take n xs ++ more) ≡ take n xs = take-append_seam (take n xs) more in
    sym seam ∙ ap (λ k. take k (take n xs ++ more)) (length-take-le n xs h) ∙ ap (take n) (sym is)
