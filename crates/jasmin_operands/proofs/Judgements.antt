-- Proves how judgements are combined.
use Rattle.std.proofs.Common.{◌≡◌, ◌<◌, ◌≤◌, Ok, Err, refl, ap, sym, ◌∙◌, ◌⊎◌, inl, inr, arith}
use Rattle.std.proofs.lemmas.Bool.{le-leb, lt-leb, cases_lt}
use Rattle.jasmin.specs.declared.statement.Flaw.{Flaw}
use Rattle.jasmin.specs.Judgements.{Judged, number, lesser, both, map_ok, unless}

-- ---- Mapped judgements

pub said_both : {A B C D : Type 0} (f : A → C) (g : B → D) (a : Judged A) (b : Judged B) → map_ok (λ p. (f p.0, g p.1)) (both a b) ≡ both (map_ok f a) (map_ok g b)
said_both f g (Ok a) (Ok b) = refl
said_both f g (Ok a) (Err v) = refl
said_both f g (Err u) (Ok b) = refl
said_both f g (Err u) (Err v) = refl

pub said_unless : {A B : Type 0} (f : A → B) (a : Judged A) (o : Judged (Unit {0})) → map_ok f (unless a o) ≡ unless (map_ok f a) o
said_unless f (Ok a) (Ok o) = refl
said_unless f (Ok a) (Err v) = refl
said_unless f (Err u) (Ok o) = refl
said_unless f (Err u) (Err v) = refl

-- ---- Consecutive judgements

lesser_first : (f g : Flaw) → number f ≤ number g → lesser f g ≡ f
lesser_first f g least = rw (le-leb (number f) (number g) least) refl

lesser_second : (f g : Flaw) → number g < number f → lesser f g ≡ g
lesser_second f g less = rw (lt-leb (number f) (number g) less) refl

lesser_in_a_row : (f g h : Flaw) → (number g < number f) ⊎ (number f ≤ number g) → (number h < number g) ⊎ (number g ≤ number h)
    → lesser (lesser f g) h ≡ lesser f (lesser g h)
lesser_in_a_row f g h (inr x) (inr y) =
    let left : lesser (lesser f g) h ≡ f = ap (λ k. lesser k h) (lesser_first f g x) ∙ lesser_first f h (omega arith) in
    let right : lesser f (lesser g h) ≡ f = ap (lesser f) (lesser_first g h y) ∙ lesser_first f g x in
    left ∙ sym right
lesser_in_a_row f g h (inr x) (inl y) =
    ap (λ k. lesser k h) (lesser_first f g x) ∙ sym (ap (lesser f) (lesser_second g h y))
lesser_in_a_row f g h (inl x) (inr y) =
    let left : lesser (lesser f g) h ≡ g = ap (λ k. lesser k h) (lesser_second f g x) ∙ lesser_first g h y in
    let right : lesser f (lesser g h) ≡ g = ap (lesser f) (lesser_first g h y) ∙ lesser_second f g x in
    left ∙ sym right
lesser_in_a_row f g h (inl x) (inl y) =
    let left : lesser (lesser f g) h ≡ h = ap (λ k. lesser k h) (lesser_second f g x) ∙ lesser_second g h y in
    let right : lesser f (lesser g h) ≡ h = ap (lesser f) (lesser_second g h y) ∙ lesser_second f h (omega arith) in
    left ∙ sym right

lesser_again : (f g h : Flaw) → lesser (lesser f g) h ≡ lesser f (lesser g h)
lesser_again f g h = lesser_in_a_row f g h (cases_lt (number g) (number f)) (cases_lt (number h) (number g))

pub unless_none : {A : Type 0} (a : Judged A) → unless a (Ok tt) ≡ a
unless_none (Ok a) = refl
unless_none (Err u) = refl

pub unless_alone : (a : Judged (Unit {0})) → unless (Ok tt) a ≡ a
unless_alone (Ok a) = refl
unless_alone (Err u) = refl

pub unless_again : {A : Type 0} (a : Judged A) (b c : Judged (Unit {0})) → unless (unless a b) c ≡ unless a (unless b c)
unless_again (Ok a) (Ok b) (Ok c) = refl
unless_again (Ok a) (Ok b) (Err w) = refl
unless_again (Ok a) (Err v) (Ok c) = refl
unless_again (Ok a) (Err v) (Err w) = refl
unless_again (Err u) (Ok b) (Ok c) = refl
unless_again (Err u) (Ok b) (Err w) = refl
unless_again (Err u) (Err v) (Ok c) = refl
unless_again (Err u) (Err v) (Err w) = ap (λ (k : Flaw). Err k) (lesser_again u v w)
