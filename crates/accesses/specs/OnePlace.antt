-- States that two keys of places are equal if and only if the test says so. The table of places needs this (own).
use Rattle.std.proofs.Common.{◌≡◌, ℕ, Bool, true, false, ◌==◌, List, refl, sym, ap, ◌∙◌, subst, true≢false}
use Rattle.std.specs.Cmp.{IsEquivalence}
use Rattle.std.specs.Cmp.Lexicographic.{bytes_decides}
use Rattle.std.proofs.lemmas.Bool.{and_from, and_parts, eq-eqb, eqb-true}
use Rattle.jvms_file.specs.Names.{same_text}
use Rattle.jvms_program.specs.Slots.{same_key}
use Rattle.jvms_program.specs.declared.key.FieldKey.{FieldKey}
use Rattle.jvms_machine.specs.declared.trace.Variable.{Variable}
use Rattle.jvms_machine.specs.declared.trace.Variable.TheVariants as variable
use Rattle.velodrome.specs.Conflicts.{same_variable}
use Rattle.accesses.specs.Accesses.{Place, OfThread, OfMonitor, OfVariable, same_place}
use Rattle.accesses.specs.Places.{place_of}
use Rattle.accesses.specs.declared.place.Place.{Place as Key}
use Rattle.accesses.specs.declared.place.Place.TheVariants as key

-- ---- The test holds for equal places and for no others

one_text : (a b : List ℕ) → same_text a b ≡ true → a ≡ b
one_text a b same = (bytes_decides a b).0 same

one_key : (a b : FieldKey) → same_key a b ≡ true → a ≡ b
one_key a b same =
    let both = and_parts (same_text a.class b.class) _ same in
    let rest = and_parts (same_text a.name b.name) _ both.1 in
    let class = one_text a.class b.class both.0 in
    let name = one_text a.name b.name rest.0 in
    let descriptor = one_text a.descriptor b.descriptor rest.1 in
    ap (λ (c : List ℕ). record { class = c; name = a.name; descriptor = a.descriptor }) class
    ∙ ap (λ (n : List ℕ). record { class = b.class; name = n; descriptor = a.descriptor }) name
    ∙ ap (λ (d : List ℕ). record { class = b.class; name = b.name; descriptor = d }) descriptor

one_variable : (v w : Variable) → same_variable v w ≡ true → v ≡ w
one_variable (variable.Instance r k) (variable.Instance q l) same = let both = and_parts (r == q) _ same in ap (λ (n : ℕ). variable.Instance n k) (eqb-true r q both.0) ∙ ap (λ (m : FieldKey). variable.Instance q m) (one_key k l both.1)
one_variable (variable.Instance r k) (variable.Static l) same = absurd (true≢false (sym same))
one_variable (variable.Instance r k) (variable.Element q j) same = absurd (true≢false (sym same))
one_variable (variable.Static k) (variable.Instance q l) same = absurd (true≢false (sym same))
one_variable (variable.Static k) (variable.Static l) same = ap (λ (m : FieldKey). variable.Static m) (one_key k l same)
one_variable (variable.Static k) (variable.Element q j) same = absurd (true≢false (sym same))
one_variable (variable.Element r i) (variable.Instance q l) same = absurd (true≢false (sym same))
one_variable (variable.Element r i) (variable.Static l) same = absurd (true≢false (sym same))
one_variable (variable.Element r i) (variable.Element q j) same = let both = and_parts (r == q) _ same in ap (λ (n : ℕ). variable.Element n i) (eqb-true r q both.0) ∙ ap (λ (n : ℕ). variable.Element q n) (eqb-true i j both.1)

pub one_place : (p q : Place) → same_place p q ≡ true → p ≡ q
one_place (OfThread t) (OfThread u) same = ap (λ (n : ℕ). OfThread n) (eqb-true t u same)
one_place (OfThread t) (OfMonitor q) same = absurd (true≢false (sym same))
one_place (OfThread t) (OfVariable w) same = absurd (true≢false (sym same))
one_place (OfMonitor r) (OfThread u) same = absurd (true≢false (sym same))
one_place (OfMonitor r) (OfMonitor q) same = ap (λ (n : ℕ). OfMonitor n) (eqb-true r q same)
one_place (OfMonitor r) (OfVariable w) same = absurd (true≢false (sym same))
one_place (OfVariable v) (OfThread u) same = absurd (true≢false (sym same))
one_place (OfVariable v) (OfMonitor q) same = absurd (true≢false (sym same))
one_place (OfVariable v) (OfVariable w) same = ap (λ (x : Variable). OfVariable x) (one_variable v w same)

number_itself : (n : ℕ) → (n == n) ≡ true
number_itself n = eq-eqb n n refl

text_itself : (a : List ℕ) → same_text a a ≡ true
text_itself a = (bytes_decides a a).1 refl

key_itself : (k : FieldKey) → same_key k k ≡ true
key_itself k = and_from _ _ (text_itself k.class) (and_from _ _ (text_itself k.name) (text_itself k.descriptor))

variable_itself : (v : Variable) → same_variable v v ≡ true
variable_itself (variable.Instance r k) = and_from _ _ (number_itself r) (key_itself k)
variable_itself (variable.Static k) = key_itself k
variable_itself (variable.Element r i) = and_from _ _ (number_itself r) (number_itself i)

pub place_itself : (p : Place) → same_place p p ≡ true
place_itself (OfThread t) = number_itself t
place_itself (OfMonitor r) = number_itself r
place_itself (OfVariable v) = variable_itself v

-- ---- The test is an equivalence

both_ways : (a b : Bool) → (a ≡ true → b ≡ true) → (b ≡ true → a ≡ true) → a ≡ b
both_ways true b f g = sym (f refl)
both_ways false true f g = g refl
both_ways false false f g = refl

turned : (p q : Place) → same_place p q ≡ true → same_place q p ≡ true
turned p q same = subst (λ (r : Place). same_place r p ≡ true) (one_place p q same) (place_itself p)

along : (p q r : Place) → same_place p q ≡ true → same_place p r ≡ same_place q r
along p q r same = ap (λ (s : Place). same_place s r) (one_place p q same)

abbrev pub same_keys : Key → Key → Bool
same_keys a b = same_place (place_of a) (place_of b)

pub keys_equiv : IsEquivalence same_keys
keys_equiv = record {
  refl = λ a. place_itself (place_of a);
  symm = λ a b. both_ways (same_keys a b) (same_keys b a) (turned (place_of a) (place_of b)) (turned (place_of b) (place_of a));
  congr = λ a b c same. along (place_of a) (place_of b) (place_of c) same;
}

-- Returns the key of a place.
key_of : Place → Key
key_of (OfThread t) = key.OfThread t
key_of (OfMonitor r) = key.OfMonitor r
key_of (OfVariable v) = key.OfVariable v

key_again : (a : Key) → key_of (place_of a) ≡ a
unfolding key_of
key_again (key.OfThread t) = refl
key_again (key.OfMonitor r) = refl
key_again (key.OfVariable v) = refl

pub one_key_of : (a b : Key) → same_keys a b ≡ true → a ≡ b
one_key_of a b same = sym (key_again a) ∙ ap key_of (one_place (place_of a) (place_of b) same) ∙ key_again b
