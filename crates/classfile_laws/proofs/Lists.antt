-- Consecutive things: n consecutive spellings are read as n things, and back. A property of the whole list that is
-- read, as that no two items are the same, is a fact `Good` of the list.
use Rattle.std.proofs.Common.{◌≡◌, ℕ, zero, suc, Bool, true, false, List, [], ◌∷◌, ◌++◌, length, Result, Ok, refl, sym, ap, subst, ◌∙◌, append_assoc, inl, inr}
use Rattle.std.specs.List.{list_any}
use Rattle.std.proofs.lemmas.Bool.{true≢false, cases_Bool, or_parts, or_from, or_right}
use Rattle.std.proofs.lemmas.List.{append-nil}
use Rattle.std.proofs.lemmas.List.Folds.{list_any-append}
use Rattle.jvms_file.specs.Results.{◌>>=◌, part_list_onto}
use Rattle.jvms_file.specs.Bytes.{u2_at}
use Rattle.jvms_file.specs.Spelling.{u2, IsU2, InOrder, Counted, AtMostOne, IsDistinctBy}
use Rattle.jvms_file.specs.declared.fault.ClassFault.{ClassFault}
use Rattle.classfile_laws.proofs.Numbers.{IsBytes, u2_again}
use Rattle.classfile_laws.proofs.Steps.{Found, answered, step, u2_step}

-- ---- Spelled things are read.

-- Each item of a list is read from its spelling, in view of those before it, if the whole list is good.
abbrev pub ReadsEach : {A : Type 0} → (List ℕ → A → Type 0) → (List A → Type 0) → (List A → List ℕ → Result (A × List ℕ) ClassFault) → Type 0
ReadsEach {A = A} P Good thing = (seen : List A) (x : A) (after : List A) (first rest : List ℕ) → Good (seen ++ x ∷ after) → P first x → thing seen (first ++ rest) ≡ Ok (x, rest)

-- Things that are spelled one after another are read, after those that were seen.
pub in_order_again : {A : Type 0} (P : List ℕ → A → Type 0) (Good : List A → Type 0) (thing : List A → List ℕ → Result (A × List ℕ) ClassFault) → ReadsEach P Good thing
    → (xs seen : List A) (bytes rest : List ℕ) → Good (seen ++ xs) → InOrder P bytes xs → part_list_onto thing seen (length xs) (bytes ++ rest) ≡ Ok (seen ++ xs, rest)
unfolding part_list_onto
in_order_again P Good thing each [] seen bytes rest good spelled = rw (spelled, append-nil seen) refl
in_order_again P Good thing each (x ∷ xs) seen bytes rest good spelled =
    let next : (seen ++ x ∷ []) ++ xs ≡ seen ++ x ∷ xs = append_assoc seen (x ∷ []) xs in
    rw (spelled.2, append_assoc spelled.0 spelled.1 rest, each seen x xs spelled.0 (spelled.1 ++ rest) good spelled.3)
    (in_order_again P Good thing each xs (seen ++ x ∷ []) spelled.1 rest (subst Good (sym next) good) spelled.4 ∙ ap (λ all. Ok (all, rest)) next)

-- Things that are spelled after their count are read.
pub counted_again : {A : Type 0} (P : List ℕ → A → Type 0) (Good : List A → Type 0) (thing : List A → List ℕ → Result (A × List ℕ) ClassFault) → ReadsEach P Good thing
    → (cut : ClassFault) (xs : List A) (bytes rest : List ℕ) → Good xs → Counted P bytes xs → (u2_at cut (bytes ++ rest) >>= λ count. part_list_onto thing [] count.0 count.1) ≡ Ok (xs, rest)
counted_again P Good thing each cut xs bytes rest good spelled =
    let two = spelled.1 in
    rw (two.2, append_assoc two.0 two.1 rest, two.3, u2_again cut (length xs) (two.1 ++ rest) spelled.0)
    (in_order_again P Good thing each xs [] two.1 rest good two.4)

-- Things that are spelled after their count are read, followed by more.
pub counted_then : {A B : Type 0} (P : List ℕ → A → Type 0) (Good : List A → Type 0) (thing : List A → List ℕ → Result (A × List ℕ) ClassFault) → ReadsEach P Good thing
    → (cut : ClassFault) (xs : List A) (bytes rest : List ℕ) (more : List A × List ℕ → Result B ClassFault) → Good xs → Counted P bytes xs
    → (u2_at cut (bytes ++ rest) >>= λ count. (part_list_onto thing [] count.0 count.1 >>= more)) ≡ more (xs, rest)
counted_then P Good thing each cut xs bytes rest more good spelled =
    let two = spelled.1 in
    rw (two.2, append_assoc two.0 two.1 rest, two.3, u2_again cut (length xs) (two.1 ++ rest) spelled.0, in_order_again P Good thing each xs [] two.1 rest good two.4) refl

-- ---- Read things are spelled so.

-- Each thing that is read, in view of those before it, is spelled there, and keeps the list good.
abbrev pub FindsEach : {A : Type 0} → (List ℕ → A → Type 0) → (List A → Type 0) → (List A → List ℕ → Result (A × List ℕ) ClassFault) → Type 0
FindsEach {A = A} P Good thing = (seen : List A) (bytes : List ℕ) (x : A) (rest : List ℕ) → Good seen → IsBytes bytes → thing seen bytes ≡ Ok (x, rest) → Found P bytes x rest × Good (seen ++ x ∷ [])

-- The things that were read, after those that were seen.
pub record FoundBehind {A : Type 0} (P : List ℕ → A → Type 0) (Good : List A → Type 0) (seen : List A) (n : ℕ) (bytes : List ℕ) (all : List A) (rest : List ℕ) : Type 0 where
  pub things : List A
  pub behind : all ≡ seen ++ things
  pub count : length things ≡ n
  pub good : Good all
  pub found : Found (InOrder P) bytes things rest

-- Things that were read after those that were seen are spelled there.
pub in_order_found : {A : Type 0} (P : List ℕ → A → Type 0) (Good : List A → Type 0) (thing : List A → List ℕ → Result (A × List ℕ) ClassFault) → FindsEach P Good thing
    → (n : ℕ) (seen all : List A) (bytes rest : List ℕ) → Good seen → IsBytes bytes → part_list_onto thing seen n bytes ≡ Ok (all, rest) → FoundBehind P Good seen n bytes all rest
unfolding part_list_onto
in_order_found P Good thing each zero seen all bytes rest good are e =
    let both = answered seen all bytes rest e in
    let same = both.0 in
    let left = both.1 in
    record {
      things = [];
      behind = sym same ∙ sym (append-nil seen);
      count = refl;
      good = subst Good same good;
      found = record { first = []; parts = left; spells = refl; left = subst IsBytes left are };
    }
in_order_found P Good thing each (suc n) seen all bytes rest good are e =
    step (thing seen bytes) (λ x. part_list_onto thing (seen ++ x.0 ∷ []) n x.1) (all, rest) e (λ x is more.
    let one = each seen bytes x.0 x.1 good are is in
    let first = one.0 in
    let others = in_order_found P Good thing each n (seen ++ x.0 ∷ []) all x.1 rest one.1 first.left more in
    let front = others.found in
    record {
      things = x.0 ∷ others.things;
      behind = others.behind ∙ append_assoc seen (x.0 ∷ []) others.things;
      count = ap suc others.count;
      good = others.good;
      found = record {
        first = first.first ++ front.first;
        parts = first.parts ∙ ap (λ (w : List ℕ). first.first ++ w) front.parts ∙ sym (append_assoc first.first front.first rest);
        spells = (first.first, front.first, refl, first.spells, front.spells);
        left = front.left;
      };
    })

-- Things that were read after their count are spelled there.
pub counted_found : {A : Type 0} (P : List ℕ → A → Type 0) (Good : List A → Type 0) (thing : List A → List ℕ → Result (A × List ℕ) ClassFault) → FindsEach P Good thing
    → (cut : ClassFault) (all : List A) (bytes rest : List ℕ) → Good [] → IsBytes bytes → (u2_at cut bytes >>= λ count. part_list_onto thing [] count.0 count.1) ≡ Ok (all, rest)
    → Found (Counted P) bytes all rest × Good all
counted_found P Good thing each cut all bytes rest good are e =
    u2_step cut bytes (λ count. part_list_onto thing [] count.0 count.1) (all, rest) are e (λ n behind fits parts left more.
    let found = in_order_found P Good thing each n [] all behind rest good left more in
    let front = found.found in
    let size : n ≡ length all = sym (ap length found.behind ∙ found.count) in (
      record {
        first = u2 n ++ front.first;
        parts = parts ∙ ap (λ (w : List ℕ). u2 n ++ w) front.parts ∙ sym (append_assoc (u2 n) front.first rest);
        spells = (subst IsU2 size fits, (u2 n, front.first, refl, ap u2 size, subst (InOrder P front.first) (sym found.behind) front.spells));
        left = front.left;
      },
      found.good,
    ))

-- Things that were read, followed by a step.
pub counted_step : {A B : Type 0} {G : Type 0} (P : List ℕ → A → Type 0) (Good : List A → Type 0) (thing : List A → List ℕ → Result (A × List ℕ) ClassFault) → FindsEach P Good thing
    → (cut : ClassFault) (bytes : List ℕ) (f : List A × List ℕ → Result B ClassFault) (y : B) → Good [] → IsBytes bytes → (u2_at cut bytes >>= λ count. (part_list_onto thing [] count.0 count.1 >>= f)) ≡ Ok y
    → ((xs : List A) (first rest : List ℕ) → Counted P first xs → Good xs → bytes ≡ first ++ rest → IsBytes rest → f (xs, rest) ≡ Ok y → G) → G
counted_step P Good thing each cut bytes f y good are e next =
    step (u2_at cut bytes) (λ count. part_list_onto thing [] count.0 count.1 >>= f) y e (λ n n_is e1.
    step (part_list_onto thing [] n.0 n.1) f y e1 (λ x x_is more.
    let both = counted_found P Good thing each cut x.0 bytes x.1 good are (rw n_is x_is) in
    let found = both.0 in
    next x.0 found.first x.1 found.spells both.1 found.parts found.left more))

-- ---- Things that only have to be spelled each.

-- The property that every list has.
abbrev pub Any : {A : Type 0} → List A → Type 0
Any xs = Unit {0}

-- ---- At most one of a list passes a test.

-- One of a list passes, if this one does.
pub any_here : {A : Type 0} (test : A → Bool) (seen : List A) (x : A) (after : List A) → test x ≡ true → list_any test (seen ++ x ∷ after) ≡ true
any_here test [] x after passes = rw passes refl
any_here test (s ∷ seen) x after passes = or_right (test s) (list_any test (seen ++ x ∷ after)) (any_here test seen x after passes)

-- This one fails, if none of a list passes.
none_here : {A : Type 0} (test : A → Bool) (seen : List A) (x : A) (after : List A) → list_any test (seen ++ x ∷ after) ≡ false → test x ≡ false
none_here test seen x after none = elim (cases_Bool (test x)) [
  | inl passes ↦ absurd (true≢false (sym (any_here test seen x after passes) ∙ none))
  | inr fails ↦ fails
]

-- If one passes, none before it does.
pub none_before : {A : Type 0} (test : A → Bool) (seen : List A) (x : A) (after : List A) → AtMostOne test (seen ++ x ∷ after) → test x ≡ true → list_any test seen ≡ false
none_before test [] x after one passes = refl
none_before test (s ∷ seen) x after one passes = elim (cases_Bool (test s)) [
  | inl first ↦ absurd (true≢false (sym (any_here test seen x after passes) ∙ one.0 first))
  | inr other ↦ or_from (test s) (list_any test seen) other (none_before test seen x after one.1 passes)
]

-- One more may pass where none did.
pub one_more : {A : Type 0} (test : A → Bool) (seen : List A) (x : A) → AtMostOne test seen → (test x ≡ true → list_any test seen ≡ false) → AtMostOne test (seen ++ x ∷ [])
one_more test [] x one fresh = ((λ _. refl), tt)
one_more test (s ∷ seen) x one fresh = ((λ first. list_any-append test seen (x ∷ []) ∙ or_from (list_any test seen) (list_any test (x ∷ [])) (one.0 first) (or_from (test x) false (fails first) refl)), one_more test seen x one.1 (λ passes. (or_parts (test s) (list_any test seen) (fresh passes)).1))
  where
    fails : test s ≡ true → test x ≡ false
    fails first = elim (cases_Bool (test x)) [
      | inl passes ↦ absurd (true≢false (sym first ∙ (or_parts (test s) (list_any test seen) (fresh passes)).0))
      | inr other ↦ other
    ]

-- ---- No two of a list are the same.

-- None before one of a list is the same.
pub distinct_before : {A : Type 0} (same : A → A → Bool) (seen : List A) (x : A) (after : List A) → IsDistinctBy same (seen ++ x ∷ after) → list_any (λ s. same s x) seen ≡ false
distinct_before same [] x after distinct = refl
distinct_before same (s ∷ seen) x after distinct =
    or_from (same s x) (list_any (λ y. same y x) seen) (none_here (λ y. same s y) seen x after distinct.0) (distinct_before same seen x after distinct.1)

-- One more, which is the same as none before it.
pub one_more_distinct : {A : Type 0} (same : A → A → Bool) (seen : List A) (x : A) → IsDistinctBy same seen → list_any (λ s. same s x) seen ≡ false → IsDistinctBy same (seen ++ x ∷ [])
one_more_distinct same [] x distinct fresh = (refl, tt)
one_more_distinct same (s ∷ seen) x distinct fresh =
    let other = or_parts (same s x) (list_any (λ y. same y x) seen) fresh in (
      list_any-append (λ y. same s y) seen (x ∷ []) ∙ or_from (list_any (λ y. same s y) seen) (list_any (λ y. same s y) (x ∷ [])) distinct.0 (or_from (same s x) false other.0 refl),
      one_more_distinct same seen x distinct.1 other.1,
    )
