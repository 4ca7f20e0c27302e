-- Bytes are the lines of one list.
use Rattle.std.proofs.Common.{◌≡◌, ℕ, ◌==◌, ◌||◌, Bool, true, false, List, [], ◌∷◌, ◌++◌, refl, sym, ap, ◌∙◌, append_assoc}
use Rattle.std.proofs.lemmas.Bool.{false≢true}
use Rattle.std.specs.List.{AllByRecursion, flat_map, list_any}
use Rattle.debugger_script.specs.Scripts.{AreLines, HasNoEnd, with_lf}

is_end : ℕ → Bool
is_end b = b == 10

-- ---- Ends

later : (b c : Bool) → b || c ≡ false → c ≡ false
later true c none = absurd (false≢true (sym none))
later false c none = none

now : (b c : Bool) → b || c ≡ false → b ≡ false
now true c none = none
now false c none = refl

no_end_later : (b : ℕ) (bytes : List ℕ) → HasNoEnd (b ∷ bytes) → HasNoEnd bytes
no_end_later b bytes none = later (b == 10) (list_any (λ x. x == 10) bytes) none

no_end_now : (b : ℕ) (bytes : List ℕ) → HasNoEnd (b ∷ bytes) → (b == 10) ≡ false
no_end_now b bytes none = now (b == 10) (list_any (λ x. x == 10) bytes) none

not_end : (b : ℕ) (bytes : List ℕ) → HasNoEnd (b ∷ bytes) → b ≡ 10 → ⊥
not_end b bytes none is = let no : true ≡ false → ⊥ = λ h. cc in no (ap (λ x. x == 10) (sym is) ∙ no_end_now b bytes none)

-- Bytes with an LF have an end.
has_end : (line rest : List ℕ) → HasNoEnd (line ++ 10 ∷ rest) → ⊥
has_end [] rest none = not_end 10 rest none refl
has_end (b ∷ line) rest none = has_end line rest (no_end_later b (line ++ 10 ∷ rest) none)

-- ---- The first line

first_line : (l m x y : List ℕ) → HasNoEnd l → HasNoEnd m → l ++ 10 ∷ x ≡ m ++ 10 ∷ y → (l ≡ m) × (x ≡ y)
first_line [] [] x y p q is = (refl, cc)
first_line [] (b ∷ m) x y p q is = absurd (not_end b m q (cc))
first_line (a ∷ l) [] x y p q is = absurd (not_end a l p (cc))
first_line (a ∷ l) (b ∷ m) x y p q is =
    let head : a ≡ b = cc in
    let tail : l ++ 10 ∷ x ≡ m ++ 10 ∷ y = cc in
    let rest = first_line l m x y (no_end_later a l p) (no_end_later b m q) tail in
    (ap (λ c. c ∷ l) head ∙ ap (λ k. b ∷ k) rest.0, rest.1)

-- ---- All lines

seam : (line : List ℕ) (lines : List (List ℕ)) (rest : List ℕ) → flat_map with_lf (line ∷ lines) ++ rest ≡ line ++ 10 ∷ (flat_map with_lf lines ++ rest)
seam line lines rest = append_assoc (with_lf line) (flat_map with_lf lines) rest ∙ append_assoc line (10 ∷ []) (flat_map with_lf lines ++ rest)

one_list : (first second : List (List ℕ)) (rest other : List ℕ) → AllByRecursion HasNoEnd first → AllByRecursion HasNoEnd second → HasNoEnd rest → HasNoEnd other
    → flat_map with_lf first ++ rest ≡ flat_map with_lf second ++ other → (first ≡ second) × (rest ≡ other)
one_list [] [] rest other p q r s is = (refl, is)
one_list [] (m ∷ ms) rest other p q r s is = absurd (has_end m (flat_map with_lf ms ++ other) (ap (list_any (λ b. b == 10)) (sym (seam m ms other) ∙ sym is) ∙ r))
one_list (l ∷ ls) [] rest other p q r s is = absurd (has_end l (flat_map with_lf ls ++ rest) (ap (list_any (λ b. b == 10)) (sym (seam l ls rest) ∙ is) ∙ s))
one_list (l ∷ ls) (m ∷ ms) rest other p q r s is =
    let whole = first_line l m (flat_map with_lf ls ++ rest) (flat_map with_lf ms ++ other) p.0 q.0 (sym (seam l ls rest) ∙ is ∙ seam m ms other) in
    let more = one_list ls ms rest other p.1 q.1 r s whole.1 in
    (ap (λ k. k ∷ ls) whole.0 ∙ ap (λ k. m ∷ k) more.0, more.1)

pub one_list_of_lines : (bytes : List ℕ) (first second : List (List ℕ)) (rest other : List ℕ) → AreLines bytes first rest → AreLines bytes second other → (first ≡ second) × (rest ≡ other)
one_list_of_lines bytes first second rest other p q =
    one_list first second rest other p.lines_end q.lines_end p.rest_is_open q.rest_is_open (sym p.bytes_are ∙ q.bytes_are)
