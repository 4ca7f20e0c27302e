-- Places are equal if their test says so.
use Rattle.std.proofs.Common.{◌≡◌, ℕ, true, ◌&&◌, ◌||◌, ◌==◌, List, inl, inr, refl, sym, ap, ◌∙◌, subst, true≢false}
use Rattle.std.specs.Cmp.Lexicographic.{bytes_decides}
use Rattle.std.proofs.lemmas.Bool.{and_from, and_parts, eq-eqb, eqb-true, or_cases, or_left, or_right}
use Rattle.jvms_file.specs.Names.{same_text}
use Rattle.jvms_program.specs.Slots.{same_key}
use Rattle.jvms_program.specs.declared.key.FieldKey.{FieldKey}
use Rattle.jvms_machine.specs.declared.trace.Variable.{Variable}
use Rattle.jvms_machine.specs.declared.trace.Variable.TheVariants as variable
use Rattle.velodrome.specs.Conflicts.{same_variable}
use Rattle.accesses.specs.Accesses.{Access, Place, OfThread, OfMonitor, OfVariable, against, same_place}

one_text : (a b : List ℕ) → same_text a b ≡ true → a ≡ b
one_text a b same = (bytes_decides a b).0 same

own_text : (a : List ℕ) → same_text a a ≡ true
own_text a = (bytes_decides a a).1 refl

one_key : (a b : FieldKey) → same_key a b ≡ true → a ≡ b
one_key a b same =
    let both = and_parts (same_text a.class b.class) _ same in
    let rest = and_parts (same_text a.name b.name) _ both.1 in
    let class = one_text a.class b.class both.0 in
    let name = one_text a.name b.name rest.0 in
    let descriptor = one_text a.descriptor b.descriptor rest.1 in
    ap (λ (c : List ℕ). record { class = c; name = a.name; descriptor = a.descriptor }) class
    ∙ ap (λ (n : List ℕ). record { class = b.class; name = n; descriptor = a.descriptor }) name
    ∙ ap (λ (d : List ℕ). record { class = b.class; name = b.name; descriptor = d }) descriptor

own_key : (a : FieldKey) → same_key a a ≡ true
own_key a =
    and_from (same_text a.class a.class) (same_text a.name a.name && same_text a.descriptor a.descriptor) (own_text a.class)
    (and_from (same_text a.name a.name) (same_text a.descriptor a.descriptor) (own_text a.name) (own_text a.descriptor))

one_variable : (v w : Variable) → same_variable v w ≡ true → v ≡ w
one_variable (variable.Instance r k) (variable.Instance q l) same = let both = and_parts (r == q) _ same in ap (λ (n : ℕ). variable.Instance n k) (eqb-true r q both.0) ∙ ap (λ (m : FieldKey). variable.Instance q m) (one_key k l both.1)
one_variable (variable.Instance r k) (variable.Static l) same = absurd (true≢false (sym same))
one_variable (variable.Instance r k) (variable.Element q j) same = absurd (true≢false (sym same))
one_variable (variable.Static k) (variable.Instance q l) same = absurd (true≢false (sym same))
one_variable (variable.Static k) (variable.Static l) same = ap (λ (m : FieldKey). variable.Static m) (one_key k l same)
one_variable (variable.Static k) (variable.Element q j) same = absurd (true≢false (sym same))
one_variable (variable.Element r i) (variable.Instance q l) same = absurd (true≢false (sym same))
one_variable (variable.Element r i) (variable.Static l) same = absurd (true≢false (sym same))
one_variable (variable.Element r i) (variable.Element q j) same = let both = and_parts (r == q) _ same in ap (λ (n : ℕ). variable.Element n i) (eqb-true r q both.0) ∙ ap (λ (n : ℕ). variable.Element q n) (eqb-true i j both.1)

own_variable : (v : Variable) → same_variable v v ≡ true
own_variable (variable.Instance r k) = and_from (r == r) (same_key k k) (eq-eqb r r refl) (own_key k)
own_variable (variable.Static k) = own_key k
own_variable (variable.Element r i) = and_from (r == r) (i == i) (eq-eqb r r refl) (eq-eqb i i refl)

pub one_place : (p q : Place) → same_place p q ≡ true → p ≡ q
one_place (OfThread t) (OfThread u) same = ap OfThread (eqb-true t u same)
one_place (OfThread t) (OfMonitor q) same = absurd (true≢false (sym same))
one_place (OfThread t) (OfVariable w) same = absurd (true≢false (sym same))
one_place (OfMonitor r) (OfThread u) same = absurd (true≢false (sym same))
one_place (OfMonitor r) (OfMonitor q) same = ap OfMonitor (eqb-true r q same)
one_place (OfMonitor r) (OfVariable w) same = absurd (true≢false (sym same))
one_place (OfVariable v) (OfThread u) same = absurd (true≢false (sym same))
one_place (OfVariable v) (OfMonitor q) same = absurd (true≢false (sym same))
one_place (OfVariable v) (OfVariable w) same = ap OfVariable (one_variable v w same)

pub own_place : (p : Place) → same_place p p ≡ true
own_place (OfThread t) = eq-eqb t t refl
own_place (OfMonitor r) = eq-eqb r r refl
own_place (OfVariable v) = own_variable v

pub same_places : (p q r : Place) → same_place p q ≡ true → same_place q r ≡ true → same_place p r ≡ true
same_places p q r one two = subst (λ s. same_place s r ≡ true) (sym (one_place p q one)) two

pub turned_place : (p q : Place) → same_place p q ≡ true → same_place q p ≡ true
turned_place p q one = subst (λ s. same_place s p ≡ true) (one_place p q one) (own_place p)

-- What conflicts with an access conflicts with one that covers it at its place.
pub against_covered : (x y k : Access) → same_place x.place k.place ≡ true → (x.is_main ≡ true → k.is_main ≡ true) → against x y ≡ true → against k y ≡ true
against_covered x y k place covers is =
    let parts = and_parts (same_place x.place y.place) (x.is_main || y.is_main) is in
    and_from (same_place k.place y.place) (k.is_main || y.is_main)
    (same_places k.place x.place y.place (turned_place x.place k.place place) parts.0)
    (elim (or_cases x.is_main y.is_main parts.1) [ inl own ↦ or_left k.is_main y.is_main (covers own) | inr other ↦ or_right k.is_main y.is_main other ])

-- A main access conflicts with each access to its place.
pub against_main : (x y : Access) → same_place x.place y.place ≡ true → y.is_main ≡ true → against x y ≡ true
against_main x y place is = and_from (same_place x.place y.place) (x.is_main || y.is_main) place (or_right x.is_main y.is_main is)
