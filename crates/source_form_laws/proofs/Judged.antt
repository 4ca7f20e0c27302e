-- Derives facts about the parts of a judgement that is no fault.
use Rattle.std.proofs.Common.{◌≡◌, Bool, true, false, cond, List, ℕ, Result, Ok, Err, IsTrue, refl, ap, subst}
use Rattle.jasmin.specs.declared.statement.Flaw.{Flaw}
use Rattle.jasmin.specs.Judgements.{Judged, both, map_ok, unless, judge_test}
use Rattle.jasmin.specs.Operands.{word_if}

-- Equal results without a fault have equal values.
pub same_ok : {A E : Type 0} (x y : A) → ◌≡◌ {A = Result A E} (Ok x) (Ok y) → x ≡ y
same_ok x y e = cc

-- A conditional has the value of one of its branches.
pub choose : {A : Type 0} {G : Type 0} (b : Bool) (x y z : A) → cond b x y ≡ z → (b ≡ true → x ≡ z → G) → (b ≡ false → y ≡ z → G) → G
choose true x y z e met unmet = met refl e
choose false x y z e met unmet = unmet refl e

-- A mapped judgement has a property that all mapped values have.
pub said_gives : {A B : Type 0} (P : B → Type 0) (make : A → B) (j : Judged A) (y : B) → map_ok make j ≡ Ok y → ((x : A) → j ≡ Ok x → P (make x)) → P y
said_gives P make (Ok x) y e each = subst P (same_ok (make x) y e) (each x refl)
said_gives P make (Err f) y e each = absurd cc

-- Two combined judgements have values.
pub both_are : {A B : Type 0} (a : Judged A) (b : Judged B) (x : A × B) → both a b ≡ Ok x → (a ≡ Ok x.0) × (b ≡ Ok x.1)
both_are {A} {B} (Ok a) (Ok b) x e =
    let same : ◌≡◌ {A = A × B} (a, b) x = same_ok {A = A × B} (a, b) x e in
    (ap (λ (p : A × B). Ok p.0) same, ap (λ (p : A × B). Ok p.1) same)
both_are (Ok a) (Err g) x e = absurd cc
both_are (Err f) (Ok b) x e = absurd cc
both_are (Err f) (Err g) x e = absurd cc

-- The first judgement has this value, and the second has no fault.
pub unless_is : {A : Type 0} (a : Judged A) (b : Judged (Unit {0})) (x : A) → unless a b ≡ Ok x → (a ≡ Ok x) × (b ≡ Ok tt)
unless_is (Ok a) (Ok u) x e = (e, refl)
unless_is (Ok a) (Err g) x e = absurd cc
unless_is (Err f) (Ok u) x e = absurd cc
unless_is (Err f) (Err g) x e = absurd cc

-- The test that was judged holds.
pub asked_is : (test : Bool) (f : Flaw) (u : Unit {0}) → judge_test test f ≡ Ok u → IsTrue test
asked_is true f u e = refl
asked_is false f u e = absurd cc

-- The word passed its test.
pub tested_is : (test : List ℕ → Bool) (f : Flaw) (j : Judged (List ℕ)) (w : List ℕ) → word_if test f j ≡ Ok w → (j ≡ Ok w) × IsTrue (test w)
tested_is test f (Ok v) w e =
    choose (test v) (Ok v) (Err f) (Ok w) e
    (λ met is. (is, subst (λ (u : List ℕ). IsTrue (test u)) (same_ok v w is) met))
    (λ unmet is. absurd cc)
tested_is test f (Err g) w e = absurd cc
