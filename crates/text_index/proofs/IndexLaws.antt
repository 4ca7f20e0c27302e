-- Look-ups among texts and references.
use Rattle.std.proofs.Common.{◌≡◌, ℕ, Bool, true, false, cond, List, [], ◌∷◌, map, Option, Some, None, Vec, Global, refl, sym, ap, ◌∙◌}
use Rattle.std.specs.List.{AllZip}
use Rattle.std.specs.Map.{lookup}
use Rattle.std.specs.Option.{option_or}
use Rattle.std.specs.Ordering.{is_eq, match_ordering, nat_cmp}
use Rattle.std.specs.Cmp.Lexicographic.{slice_cmp, bytes_decides}
use Rattle.std.specs.declared.cmp.Ordering.{Ordering}
use Rattle.std.specs.declared.cmp.Ordering.TheVariants.{Less, Equal, Greater}
use Rattle.std.specs.BTreeMap.{insert_entry}
use Rattle.std.proofs.lemmas.Cmp.{nat_list_eq_equiv}
use Rattle.std.proofs.lemmas.Map.Lookups.{exact_bytes}
use Rattle.std.proofs.lemmas.Map.Text.{is_eq-slice_cmp}
use Rattle.jvms_file.specs.Names.{same_text}
use Rattle.text_index.specs.Lookup.{indexed_reference}

abbrev pub Entries : Type 0
Entries = List (Vec ℕ Global × ℕ)

abbrev pub seen : Entries → List (List ℕ × ℕ)
seen entries = map (λ e. (e.0.items, e.1)) entries

pub found_among : (entries : Entries) (units : List ℕ) → lookup (λ (k : Vec ℕ Global). is_eq (slice_cmp nat_cmp units k.items)) entries ≡ indexed_reference (seen entries) units
found_among [] units = refl
found_among (e ∷ entries) units = ap (λ o. cond (is_eq (slice_cmp nat_cmp units e.0.items)) (Some e.1) o) (found_among entries units)

-- ---- A text that is added

abbrev pub key_cmp : Vec ℕ Global → Vec ℕ Global → Ordering
key_cmp a b = slice_cmp nat_cmp a.items b.items

pub same_here : (a : List ℕ) → same_text a a ≡ true
same_here a = (bytes_decides a a).1 refl

pub same_turned : (a b : List ℕ) → same_text a b ≡ same_text b a
same_turned a b = nat_list_eq_equiv.symm a b

pub same_is : (a b : List ℕ) → same_text a b ≡ true → a ≡ b
same_is a b h = (bytes_decides a b).0 h

-- Equal texts are equal by either comparison.
asked_as : (q k : List ℕ) → is_eq (slice_cmp nat_cmp q k) ≡ same_text k q
asked_as q k = is_eq-slice_cmp q k ∙ same_turned q k

covered : {X : Type 0} (b : Bool) (x y z : X) → cond b x z ≡ cond b x (cond b y z)
covered true x y z = refl
covered false x y z = refl

-- The order of two tests that exclude each other doesn't matter.
apart : {X : Type 0} (a b : Bool) (x y z : X) → (b ≡ true → a ≡ false) → cond a y (cond b x z) ≡ cond b x (cond a y z)
apart a false x y z h = refl
apart a true x y z h = rw (h refl) refl

found_in_order : (t : Ordering) (k : Vec ℕ Global) (v : ℕ) (e : Vec ℕ Global × ℕ) (entries : Entries) (q : List ℕ) → key_cmp k e.0 ≡ t
    → indexed_reference (seen (insert_entry key_cmp entries k v)) q ≡ cond (same_text k.items q) (Some v) (indexed_reference (seen entries) q)
    → indexed_reference (seen (match_ordering t ((k, v) ∷ e ∷ entries) ((e.0, v) ∷ entries) (e ∷ insert_entry key_cmp entries k v))) q ≡ cond (same_text k.items q) (Some v) (indexed_reference (seen (e ∷ entries)) q)
found_in_order Less k v e entries q is more = ap (λ b. cond b (Some v) (indexed_reference (seen (e ∷ entries)) q)) (asked_as q k.items)
found_in_order Equal k v e entries q is more =
    let same : k.items ≡ e.0.items = exact_bytes k.items e.0.items is in
    let here : is_eq (slice_cmp nat_cmp q e.0.items) ≡ same_text k.items q = asked_as q e.0.items ∙ ap (λ l. same_text l q) (sym same) in
    ap (λ b. cond b (Some v) (indexed_reference (seen entries) q)) here ∙ covered (same_text k.items q) (Some v) (Some e.1) (indexed_reference (seen entries) q)
    ∙ ap (λ b. cond (same_text k.items q) (Some v) (cond b (Some e.1) (indexed_reference (seen entries) q))) (sym here)
found_in_order Greater k v e entries q is more =
    ap (λ o. cond (is_eq (slice_cmp nat_cmp q e.0.items)) (Some e.1) o) more
    ∙ apart (is_eq (slice_cmp nat_cmp q e.0.items)) (same_text k.items q) (Some v) (Some e.1) (indexed_reference (seen entries) q)
    (λ same. ap (λ l. is_eq (slice_cmp nat_cmp l e.0.items)) (sym (same_is k.items q same)) ∙ ap is_eq is)

found_inserted : (entries : Entries) (k : Vec ℕ Global) (v : ℕ) (q : List ℕ) → indexed_reference (seen (insert_entry key_cmp entries k v)) q ≡ cond (same_text k.items q) (Some v) (indexed_reference (seen entries) q)
found_inserted [] k v q = ap (λ b. cond b (Some v) None) (asked_as q k.items)
found_inserted (e ∷ entries) k v q = found_in_order (key_cmp k e.0) k v e entries q refl (found_inserted entries k v q)

pub found_put : (old new : Entries) (k : Vec ℕ Global) (units : List ℕ) (v : ℕ) (before : List (List ℕ × ℕ)) → k.items ≡ units → new ≡ insert_entry key_cmp old k v → seen old ≡ before
    → (q : List ℕ) → indexed_reference (seen new) q ≡ cond (same_text units q) (Some v) (indexed_reference before q)
found_put old new k units v before is put was q =
    ap (λ l. indexed_reference (seen l) q) put ∙ found_inserted old k v q ∙ ap (λ l. cond (same_text l q) (Some v) (indexed_reference (seen old) q)) is
    ∙ ap (λ l. cond (same_text units q) (Some v) (indexed_reference l q)) was

-- ---- A text that is added if it isn't there

or_none : (o : Option ℕ) → o ≡ option_or o None
or_none None = refl
or_none (Some r) = refl

-- A text that is there already is not added.
pub put_again : (entries : List (List ℕ × ℕ)) (units : List ℕ) (r v : ℕ) → Some r ≡ indexed_reference entries units
    → (q : List ℕ) → indexed_reference entries q ≡ option_or (indexed_reference entries q) (cond (same_text units q) (Some v) None)
put_again entries units r v is q = by (same_text units q) refl
  where
    by : (b : Bool) → same_text units q ≡ b → indexed_reference entries q ≡ option_or (indexed_reference entries q) (cond b (Some v) None)
    by true same =
        let there : indexed_reference entries q ≡ Some r = ap (indexed_reference entries) (sym (same_is units q same)) ∙ sym is in
        there ∙ ap (λ o. option_or o (Some v)) (sym there)
    by false same = or_none (indexed_reference entries q)

pub put_first : (entries new : List (List ℕ × ℕ)) (units : List ℕ) (v : ℕ) → None ≡ indexed_reference entries units → ((q : List ℕ) → indexed_reference new q ≡ cond (same_text units q) (Some v) (indexed_reference entries q))
    → (q : List ℕ) → indexed_reference new q ≡ option_or (indexed_reference entries q) (cond (same_text units q) (Some v) None)
put_first entries new units v none puts q = puts q ∙ by (same_text units q) refl
  where
    by : (b : Bool) → same_text units q ≡ b → cond b (Some v) (indexed_reference entries q) ≡ option_or (indexed_reference entries q) (cond b (Some v) None)
    by true same = ap (λ o. option_or o (Some v)) (none ∙ ap (indexed_reference entries) (same_is units q same))
    by false same = or_none (indexed_reference entries q)

-- ---- A copy

-- Entries with the same texts and references have the same view.
pub copied : (IsCopy : Vec ℕ Global → Vec ℕ Global → Type 0) → ((v w : Vec ℕ Global) → IsCopy v w → w.items ≡ v.items) → (es fs : Entries) → AllZip (λ p q. IsCopy p.0 q.0 × (q.1 ≡ p.1)) es fs
    → seen fs ≡ seen es
copied IsCopy same [] [] are = refl
copied IsCopy same [] (f ∷ fs) are = absurd are
copied IsCopy same (e ∷ es) [] are = absurd are
copied IsCopy same (e ∷ es) (f ∷ fs) are =
    ap (λ l. (f.0.items, f.1) ∷ l) (copied IsCopy same es fs are.1)
    ∙ ap (λ (i : List ℕ). (i, f.1) ∷ seen es) (same e.0 f.0 are.0.0)
    ∙ ap (λ (n : ℕ). (e.0.items, n) ∷ seen es) are.0.1
