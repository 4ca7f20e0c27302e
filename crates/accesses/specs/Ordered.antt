-- Defines the order of keys of places: by kind, by numbers, and by the names of their fields (own).
use Rattle.std.proofs.Common.{◌≡◌, ℕ, zero, suc, Bool, true, false, List, [], refl, sym, ap, ◌∙◌, subst, true≢false, Ordering, Less, Equal, Greater, nat_cmp, is_eq}
use Rattle.std.specs.Cmp.{IsTotalOrder, nat_cmp_total, on_total, then_total, tied_itself, unsigned_ties}
use Rattle.std.specs.Cmp.Lexicographic.{slice_cmp, nat_list_cmp_total, bytes_decides, texts_ties}
use Rattle.std.specs.Ordering.{on, ordering_then, then_cmp}
use Rattle.std.proofs.lemmas.Bool.{eqb-true}
use Rattle.jvms_program.specs.declared.key.FieldKey.{FieldKey}
use Rattle.jvms_machine.specs.declared.trace.Variable.TheVariants as variable
use Rattle.accesses.specs.OnePlace.{one_key_of, place_itself, same_keys}
use Rattle.accesses.specs.Places.{place_of}
use Rattle.accesses.specs.declared.place.Place.{Place as Key}
use Rattle.accesses.specs.declared.place.Place.TheVariants as key

-- ---- The parts of a key

abbrev pub kind_of : Key → ℕ
kind_of (key.OfThread t) = 0
kind_of (key.OfMonitor r) = 1
kind_of (key.OfVariable (variable.Instance r k)) = 2
kind_of (key.OfVariable (variable.Static k)) = 3
kind_of (key.OfVariable (variable.Element r i)) = 4

abbrev pub first_of : Key → ℕ
first_of (key.OfThread t) = t
first_of (key.OfMonitor r) = r
first_of (key.OfVariable (variable.Instance r k)) = r
first_of (key.OfVariable (variable.Static k)) = 0
first_of (key.OfVariable (variable.Element r i)) = r

abbrev pub second_of : Key → ℕ
second_of (key.OfThread t) = 0
second_of (key.OfMonitor r) = 0
second_of (key.OfVariable (variable.Instance r k)) = 0
second_of (key.OfVariable (variable.Static k)) = 0
second_of (key.OfVariable (variable.Element r i)) = i

abbrev pub no_field : FieldKey
no_field = record { class = []; name = []; descriptor = [] }

abbrev pub field_of : Key → FieldKey
field_of (key.OfThread t) = no_field
field_of (key.OfMonitor r) = no_field
field_of (key.OfVariable (variable.Instance r k)) = k
field_of (key.OfVariable (variable.Static k)) = k
field_of (key.OfVariable (variable.Element r i)) = no_field

-- Returns the key that the parts determine.
built : ℕ → ℕ → ℕ → FieldKey → Key
built zero f s k = key.OfThread f
built (suc zero) f s k = key.OfMonitor f
built (suc (suc zero)) f s k = key.OfVariable (variable.Instance f k)
built (suc (suc (suc zero))) f s k = key.OfVariable (variable.Static k)
built (suc (suc (suc (suc n)))) f s k = key.OfVariable (variable.Element f s)

rebuilt : (a : Key) → built (kind_of a) (first_of a) (second_of a) (field_of a) ≡ a
unfolding built
rebuilt (key.OfThread t) = refl
rebuilt (key.OfMonitor r) = refl
rebuilt (key.OfVariable (variable.Instance r k)) = refl
rebuilt (key.OfVariable (variable.Static k)) = refl
rebuilt (key.OfVariable (variable.Element r i)) = refl

-- ---- The order of the parts

abbrev pub numbers_cmp : Key → Key → Ordering
numbers_cmp = then_cmp (then_cmp (on kind_of nat_cmp) (on first_of nat_cmp)) (on second_of nat_cmp)

abbrev pub text_cmp : (FieldKey → List ℕ) → Key → Key → Ordering
text_cmp f = on (λ (a : Key). f (field_of a)) (slice_cmp nat_cmp)

abbrev pub place_cmp : Key → Key → Ordering
place_cmp = then_cmp (then_cmp (then_cmp numbers_cmp (text_cmp (λ (k : FieldKey). k.name))) (text_cmp (λ (k : FieldKey). k.class))) (text_cmp (λ (k : FieldKey). k.descriptor))

text_total : (f : FieldKey → List ℕ) → IsTotalOrder (text_cmp f)
text_total f = on_total (λ (a : Key). f (field_of a)) nat_list_cmp_total

pub place_total : IsTotalOrder place_cmp
place_total =
    then_total
    (then_total
    (then_total (then_total (then_total (on_total kind_of nat_cmp_total) (on_total first_of nat_cmp_total)) (on_total second_of nat_cmp_total)) (text_total (λ (k : FieldKey). k.name)))
    (text_total (λ (k : FieldKey). k.class)))
    (text_total (λ (k : FieldKey). k.descriptor))

-- ---- Keys that compare as equal are equal

both_tied : (o p : Ordering) → is_eq (ordering_then o p) ≡ true → (is_eq o ≡ true) × (is_eq p ≡ true)
both_tied Less p is = absurd (true≢false (sym is))
both_tied Equal p is = (refl, is)
both_tied Greater p is = absurd (true≢false (sym is))

number_tied : (m n : ℕ) → is_eq (nat_cmp m n) ≡ true → m ≡ n
number_tied m n is = eqb-true m n (unsigned_ties m n ∙ is)

text_tied : (xs ys : List ℕ) → is_eq (slice_cmp nat_cmp xs ys) ≡ true → xs ≡ ys
text_tied xs ys is = (bytes_decides xs ys).0 (texts_ties xs ys ∙ is)

one_tied : (a b : Key) → is_eq (place_cmp a b) ≡ true → a ≡ b
one_tied a b is =
    let four = both_tied _ _ is in
    let three = both_tied _ _ four.0 in
    let two = both_tied _ _ three.0 in
    let one = both_tied _ _ two.0 in
    let none = both_tied _ _ one.0 in
    let kind = number_tied (kind_of a) (kind_of b) none.0 in
    let first = number_tied (first_of a) (first_of b) none.1 in
    let second = number_tied (second_of a) (second_of b) one.1 in
    let name = text_tied (field_of a).name (field_of b).name two.1 in
    let class = text_tied (field_of a).class (field_of b).class three.1 in
    let descriptor = text_tied (field_of a).descriptor (field_of b).descriptor four.1 in
    let field : field_of a ≡ field_of b = (λ j. record { class = class j; name = name j; descriptor = descriptor j }) in
    sym (rebuilt a) ∙ (λ j. built (kind j) (first j) (second j) (field j)) ∙ rebuilt b

either_way : (p q : Bool) → (p ≡ true → q ≡ true) → (q ≡ true → p ≡ true) → p ≡ q
either_way true q f g = sym (f refl)
either_way false true f g = g refl
either_way false false f g = refl

pub cmp_is_same : (a b : Key) → same_keys a b ≡ is_eq (place_cmp a b)
cmp_is_same a b = either_way (same_keys a b) (is_eq (place_cmp a b))
    (λ same. subst (λ (c : Key). is_eq (place_cmp a c) ≡ true) (one_key_of a b same) (ap is_eq (tied_itself place_total a)))
    (λ tied. subst (λ (c : Key). same_keys a c ≡ true) (one_tied a b tied) (place_itself (place_of a)))
