-- Bytes that are written in place of those that were read spell the same, and are equally many.
use Rattle.std.proofs.Common.{◌≡◌, ℕ, ◌+◌, List, [], ◌∷◌, ◌++◌, length, refl, sym, ap, subst, ◌∙◌}
use Rattle.std.specs.List.{flat_map}
use Rattle.std.proofs.lemmas.List.{length-append}
use Rattle.jvms_file.specs.Spelling.{u2, InOrder, Counted}
use Rattle.class_file.specs.Writing.{counted_bytes}

-- The bytes `now` have the property P, and replace `bytes` of the same length.
pub record InPlace (P : List ℕ → Type 0) (bytes now : List ℕ) : Type 0 where
  pub spells : P now
  pub size : length now ≡ length bytes

-- An item with one spelling is written with it.
pub one_spelling : (P : List ℕ → Type 0) (bytes now : List ℕ) → bytes ≡ now → P bytes → InPlace P bytes now
one_spelling P bytes now same s = record { spells = subst P same s; size = ap length (sym same) }

-- Two parts are together as long as two others, if each is.
pub joined_size : (first rest others more : List ℕ) → length first ≡ length others → length rest ≡ length more → length (first ++ rest) ≡ length (others ++ more)
joined_size first rest others more front behind =
    length-append first rest
    ∙ ap (λ (n : ℕ). n + length rest) front
    ∙ ap (λ (n : ℕ). length others + n) behind
    ∙ sym (length-append others more)

-- The bytes that are written of a spelled item spell it.
abbrev pub WritesEach : {A : Type 0} → (List ℕ → A → Type 0) → (A → List ℕ) → Type 0
WritesEach {A = A} P bytes_of = (bytes : List ℕ) (x : A) → P bytes x → InPlace (λ w. P w x) bytes (bytes_of x)

-- Items, one after another.
pub in_order_written : {A : Type 0} (P : List ℕ → A → Type 0) (bytes_of : A → List ℕ) → WritesEach P bytes_of → (xs : List A) (bytes : List ℕ) → InOrder P bytes xs → InPlace (λ w. InOrder P w xs) bytes (flat_map bytes_of xs)
in_order_written P bytes_of each [] bytes s = record { spells = refl; size = ap length (sym s) }
in_order_written P bytes_of each (x ∷ xs) bytes s =
    let one = each s.0 x s.3 in
    let others = in_order_written P bytes_of each xs s.1 s.4 in
    record {
      spells = (bytes_of x, flat_map bytes_of xs, refl, one.spells, others.spells);
      size = joined_size (bytes_of x) (flat_map bytes_of xs) s.0 s.1 one.size others.size ∙ ap length (sym s.2);
    }

-- Items, after their count.
pub counted_written : {A : Type 0} (P : List ℕ → A → Type 0) (bytes_of : A → List ℕ) → WritesEach P bytes_of → (xs : List A) (bytes : List ℕ) → Counted P bytes xs → InPlace (λ w. Counted P w xs) bytes (counted_bytes bytes_of xs)
counted_written P bytes_of each xs bytes s =
    let two = s.1 in
    let things = in_order_written P bytes_of each xs two.1 two.4 in
    record {
      spells = (s.0, (u2 (length xs), flat_map bytes_of xs, refl, refl, things.spells));
      size = joined_size (u2 (length xs)) (flat_map bytes_of xs) two.0 two.1 (ap length (sym two.3)) things.size ∙ ap length (sym two.2);
    }
