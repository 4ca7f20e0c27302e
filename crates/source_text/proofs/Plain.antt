-- Defines plain units, which a line may have: none ends a line, and each surrogate has its other half.
use Rattle.std.proofs.Common.{◌≡◌, ℕ, ◌<◌, ◌≤◌, Bool, true, false, not, ◌&&◌, ◌||◌, ◌==◌, List, [], ◌∷◌, ◌++◌, map, flat_map, refl, ◌∙◌, arith}
use Rattle.std.specs.Prelude.{nat_le}
use Rattle.std.specs.List.{list_all, AllByRecursion}
use Rattle.std.proofs.lemmas.Bool.{and_parts, and_from, and_left, or_parts, or_from, not-true, not_from_false, cond_both, lt-leb, ne_eqb}
use Rattle.std.proofs.lemmas.List.Folds.{list_all-append}
use Rattle.jasmin.specs.Lexing.{is_space, ends_word}
use Rattle.shared_data.specs.Surrogates.{is_high, is_low}
use Rattle.listing_spec.specs.Printable.{is_paired, is_word_unit, is_word}
use Rattle.listing_spec.specs.Printed.{join_words}

-- Decides whether a unit is neither a line feed nor a carriage return.
abbrev pub is_line_unit : ℕ → Bool
is_line_unit u = not (u == 10 || u == 13)

pub record IsPlain (l : List ℕ) : Type 0 where
  pub units : list_all is_line_unit l ≡ true
  pub pairs : is_paired l ≡ true

pub nil_plain : IsPlain []
unfolding is_paired
nil_plain = record { units = refl; pairs = refl }

-- ---- Halves

-- A unit that is paired by itself is no surrogate.
lone : (u : ℕ) → is_paired (u ∷ []) ≡ true → (is_high u ≡ false) × (is_low u ≡ false)
unfolding is_paired
lone u e = or_parts (is_high u) (is_low u) (not-true (is_high u || is_low u) e)

-- A unit that is no surrogate precedes paired units.
whole_first : (u : ℕ) (us : List ℕ) → is_high u ≡ false → is_low u ≡ false → is_paired us ≡ true → is_paired (u ∷ us) ≡ true
unfolding is_paired
whole_first u [] high low e = rw (high, low) refl
whole_first u (v ∷ vs) high low e = rw (high, low) e

pub paired_append : (xs ys : List ℕ) → is_paired xs ≡ true → is_paired ys ≡ true → is_paired (xs ++ ys) ≡ true
unfolding is_paired
paired_append [] ys p q = q
paired_append (u ∷ []) ys p q = let w = lone u p in whole_first u ys w.0 w.1 q
paired_append (u ∷ v ∷ us) ys p q =
    cond_both (is_high u) (is_low v && is_paired us) (not (is_low u) && is_paired (v ∷ us)) (λ b. b ≡ true → is_paired (u ∷ v ∷ us ++ ys) ≡ true)
    (λ high e. let w = and_parts (is_low v) (is_paired us) e in rw (high, w.0) (paired_append us ys w.1 q))
    (λ high e. let w = and_parts (not (is_low u)) (is_paired (v ∷ us)) e in rw (high, w.0) (paired_append (v ∷ us) ys w.1 q))
    p

-- ---- Plain lists

pub plain_append : (xs ys : List ℕ) → IsPlain xs → IsPlain ys → IsPlain (xs ++ ys)
plain_append xs ys p q = record {
  units = list_all-append is_line_unit xs ys ∙ and_from (list_all is_line_unit xs) (list_all is_line_unit ys) p.units q.units;
  pairs = paired_append xs ys p.pairs q.pairs;
}

-- Decides whether a unit is no surrogate and doesn't end a line.
abbrev pub is_simple : ℕ → Bool
is_simple u = is_line_unit u && not (is_high u || is_low u)

pub simple_plain : (l : List ℕ) → list_all is_simple l ≡ true → IsPlain l
simple_plain [] e = nil_plain
simple_plain (u ∷ us) e =
    let w = and_parts (is_simple u) (list_all is_simple us) e in
    let s = and_parts (is_line_unit u) (not (is_high u || is_low u)) w.0 in
    let h = or_parts (is_high u) (is_low u) (not-true (is_high u || is_low u) s.1) in
    let rest = simple_plain us w.1 in
    record {
      units = and_from (is_line_unit u) (list_all is_line_unit us) s.0 rest.units;
      pairs = whole_first u us h.0 h.1 rest.pairs;
    }

small_simple : (u : ℕ) → 14 ≤ u → u < 0xd800 → is_simple u ≡ true
small_simple u least most =
    let below : u < 0xdc00 = omega arith in
    and_from (is_line_unit u) (not (is_high u || is_low u))
    (not_from_false (u == 10 || u == 13) (or_from (u == 10) (u == 13) (ne_eqb u 10 (λ e. omega arith)) (ne_eqb u 13 (λ e. omega arith))))
    (not_from_false (is_high u || is_low u) (or_from (is_high u) (is_low u) (and_left (nat_le 0xd800 u) (nat_le u 0xdbff) (lt-leb 0xd800 u most)) (and_left (nat_le 0xdc00 u) (nat_le u 0xdfff) (lt-leb 0xdc00 u below))))

-- A small unit precedes plain units.
pub small_first : (u : ℕ) (l : List ℕ) → 14 ≤ u → u < 0xd800 → IsPlain l → IsPlain (u ∷ l)
small_first u l least most p =
    plain_append (u ∷ []) l (simple_plain (u ∷ []) (and_from (is_simple u) true (small_simple u least most) refl)) p

-- ---- Words

word_unit : (u : ℕ) → is_word_unit u ≡ true → is_line_unit u ≡ true
word_unit u e =
    let a = or_parts (ends_word u) (u == 10) (not-true (ends_word u || u == 10) e) in
    let b = or_parts (is_space u) (u == 34 || (u == 58 || u == 61)) a.0 in
    let c = or_parts (u == 32) (u == 9 || (u == 12 || u == 13)) b.0 in
    let d = or_parts (u == 9) (u == 12 || u == 13) c.1 in
    let f = or_parts (u == 12) (u == 13) d.1 in
    not_from_false (u == 10 || u == 13) (or_from (u == 10) (u == 13) a.1 f.1)

word_units : (name : List ℕ) → list_all is_word_unit name ≡ true → list_all is_line_unit name ≡ true
word_units [] e = refl
word_units (u ∷ us) e =
    let w = and_parts (is_word_unit u) (list_all is_word_unit us) e in
    and_from (is_line_unit u) (list_all is_line_unit us) (word_unit u w.0) (word_units us w.1)

pub word_plain : (name : List ℕ) → is_word name ≡ true → IsPlain name
unfolding is_word
word_plain name e =
    let w = and_parts (list_all is_word_unit name) (is_paired name) e in
    record { units = word_units name w.0; pairs = w.1 }

-- ---- Lists of plain lists

abbrev pub AllPlain : List (List ℕ) → Type 0
AllPlain lines = AllByRecursion IsPlain lines

pub joined_plain : (words : List (List ℕ)) → AllPlain words → IsPlain (join_words words)
unfolding join_words
joined_plain [] a = nil_plain
joined_plain (w ∷ []) a = a.0
joined_plain (w ∷ v ∷ ws) a =
    plain_append w (32 ∷ join_words (v ∷ ws)) a.0 (small_first 32 (join_words (v ∷ ws)) (omega arith) (omega arith) (joined_plain (v ∷ ws) a.1))

pub all_append : {A : Type 0} (P : A → Type 0) (xs ys : List A) → AllByRecursion P xs → AllByRecursion P ys → AllByRecursion P (xs ++ ys)
all_append P [] ys p q = q
all_append P (x ∷ xs) ys p q = (p.0, all_append P xs ys p.1 q)

pub all_map : {A B : Type 0} (Q : A → Type 0) (P : B → Type 0) (f : A → B) → ((x : A) → Q x → P (f x)) → (xs : List A) → AllByRecursion Q xs → AllByRecursion P (map f xs)
all_map Q P f each [] q = tt
all_map Q P f each (x ∷ xs) q = (each x q.0, all_map Q P f each xs q.1)

pub all_flat_map : {A B : Type 0} (Q : A → Type 0) (P : B → Type 0) (f : A → List B) → ((x : A) → Q x → AllByRecursion P (f x)) → (xs : List A) → AllByRecursion Q xs → AllByRecursion P (flat_map f xs)
all_flat_map Q P f each [] q = tt
all_flat_map Q P f each (x ∷ xs) q = all_append P (f x) (flat_map f xs) (each x q.0) (all_flat_map Q P f each xs q.1)

-- All elements pass a test.
pub all_tested : {A : Type 0} (test : A → Bool) (xs : List A) → list_all test xs ≡ true → AllByRecursion (λ x. test x ≡ true) xs
all_tested test [] e = tt
all_tested test (x ∷ xs) e = let w = and_parts (test x) (list_all test xs) e in (w.0, all_tested test xs w.1)

-- All elements have a property and pass a test.
pub all_both : {A : Type 0} (Q : A → Type 0) (test : A → Bool) (xs : List A) → AllByRecursion Q xs → list_all test xs ≡ true → AllByRecursion (λ x. Q x × (test x ≡ true)) xs
all_both Q test [] q e = tt
all_both Q test (x ∷ xs) q e = let w = and_parts (test x) (list_all test xs) e in ((q.0, w.0), all_both Q test xs q.1 w.1)
