-- Decoding unit after unit, as a loop does.
use Rattle.std.proofs.Common.{◌≡◌, ℕ, suc, ◌+◌, ◌-◌, ◌<◌, ◌≤◌, List, [], ◌∷◌, ◌++◌, length, Some, None, Result, Ok, Err, refl, sym, ap, ◌∙◌, append_assoc, arith}
use Rattle.std.proofs.lemmas.List.{append-nil, length-append}
use Rattle.jvms_file.specs.Results.{◌>>=◌}
use Rattle.jvms_file.specs.Texts.{unit_at, decoded_from}
use Rattle.jvms_file.proofs.TextLaws.{decoded_from-unit, decoded_from-bad, decoded_from-nil, shorter_behind}

-- The units that were decoded before, followed by those of a reading.
abbrev pub with_front : List ℕ → Result (List ℕ) ℕ → Result (List ℕ) ℕ
with_front front read = read >>= λ us. Ok (front ++ us)

-- A decoded unit joins those before it.
regroup : (front : List ℕ) (u : ℕ) (read : Result (List ℕ) ℕ) → with_front front (read >>= λ us. Ok (u ∷ us)) ≡ with_front (front ++ u ∷ []) read
regroup front u (Ok us) = ap (λ (vs : List ℕ). Ok vs) (simp append_assoc)
regroup front u (Err at) = refl

-- The result of a decoding in progress: `rest` is left of `size` bytes, and `front` was decoded before it.
abbrev pub still : ℕ → List ℕ → List ℕ → Result (List ℕ) ℕ
still size front rest = with_front front (decoded_from (size - length front) (size - length rest) rest)

-- A unit is decoded, and decoding continues after it.
pub goes_on : (size : ℕ) (front rest : List ℕ) (u : ℕ) (behind : List ℕ) (total : Result (List ℕ) ℕ) → length front + length rest ≤ size → unit_at rest ≡ Some (u, behind)
    → still size front rest ≡ total → still size (front ++ u ∷ []) behind ≡ total
goes_on size front rest u behind total fits e so_far =
    let less : length behind < length rest = shorter_behind rest (u, behind) e in
    let longer : length (front ++ u ∷ []) ≡ length front + 1 = length-append front (u ∷ []) in
    let steps : size - length front ≡ suc (size - length (front ++ u ∷ [])) = omega arith in
    let place : size - length rest + (length rest - length behind) ≡ size - length behind = omega arith in
    let one : decoded_from (size - length front) (size - length rest) rest ≡ (decoded_from (size - length (front ++ u ∷ [])) (size - length behind) behind >>= λ us. Ok (u ∷ us)) =
    ap (λ (n : ℕ). decoded_from n (size - length rest) rest) steps
    ∙ decoded_from-unit (size - length (front ++ u ∷ [])) (size - length rest) rest u behind e
    ∙ ap (λ (n : ℕ). decoded_from (size - length (front ++ u ∷ [])) n behind >>= λ us. Ok (u ∷ us)) place in
    sym (regroup front u (decoded_from (size - length (front ++ u ∷ [])) (size - length behind) behind)) ∙ sym (ap (with_front front) one) ∙ so_far

-- No unit is decoded, and that is the fault.
pub ends_badly : (size : ℕ) (front rest : List ℕ) (total : Result (List ℕ) ℕ) → 0 < length rest → unit_at rest ≡ None → still size front rest ≡ total → total ≡ Err (size - length rest)
ends_badly size front rest total some e so_far =
    sym so_far ∙ ap (with_front front) (decoded_from-bad (size - length front) (size - length rest) rest some e)

-- No bytes are left, so the text is complete.
pub ends_well : (size : ℕ) (front rest : List ℕ) (total : Result (List ℕ) ℕ) → rest ≡ [] → still size front rest ≡ total → total ≡ Ok front
ends_well size front rest total e so_far =
    let nothing : decoded_from (size - length front) (size - length rest) rest ≡ Ok [] = ap (λ (w : List ℕ). decoded_from (size - length front) (size - length rest) w) e ∙ decoded_from-nil (size - length front) (size - length rest) in
    sym so_far ∙ ap (with_front front) nothing ∙ ap (λ (us : List ℕ). Ok us) (append-nil front)
