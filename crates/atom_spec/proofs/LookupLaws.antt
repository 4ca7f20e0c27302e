-- Look-up among texts and values.
use Rattle.std.proofs.Common.{◌≡◌, ℕ, Bool, true, false, cond, List, [], ◌∷◌, map, Option, Some, None, Vec, Global, refl, sym, ap, ◌∙◌}
use Rattle.std.specs.Map.{lookup, remove_entry}
use Rattle.std.specs.Ordering.{is_eq, match_ordering, nat_cmp}
use Rattle.std.specs.Cmp.Lexicographic.{slice_cmp, bytes_decides}
use Rattle.std.specs.declared.cmp.Ordering.{Ordering}
use Rattle.std.specs.declared.cmp.Ordering.TheVariants.{Less, Equal, Greater}
use Rattle.std.specs.BTreeMap.{insert_entry}
use Rattle.std.proofs.lemmas.Cmp.{nat_list_eq_equiv}
use Rattle.std.proofs.lemmas.Map.Lookups.{exact_bytes}
use Rattle.std.proofs.lemmas.Map.Text.{is_eq-slice_cmp}
use Rattle.jvms_file.specs.Names.{same_text}
use Rattle.atom_spec.specs.Lookup.{lookup_text}

abbrev pub Entries : Type 0 → Type 0
Entries X = List (Vec ℕ Global × X)

abbrev pub seen : {X : Type 0} → Entries X → List (List ℕ × X)
seen entries = map (λ e. (e.0.items, e.1)) entries

abbrev pub asks : List ℕ → Vec ℕ Global → Bool
asks text k = is_eq (slice_cmp nat_cmp text k.items)

pub found_among : {X : Type 0} (entries : Entries X) (text : List ℕ) → lookup (asks text) entries ≡ lookup_text (seen entries) text
found_among [] text = refl
found_among (e ∷ entries) text =
    ap (λ b. cond b (Some e.1) (lookup (asks text) entries)) (is_eq-slice_cmp text e.0.items) ∙ ap (λ o. cond (same_text text e.0.items) (Some e.1) o) (found_among entries text)

pub same_turned : (a b : List ℕ) → same_text a b ≡ same_text b a
same_turned a b = nat_list_eq_equiv.symm a b

pub same_is : (a b : List ℕ) → same_text a b ≡ true → a ≡ b
same_is a b h = (bytes_decides a b).0 h

-- ---- Setting the value of a text

abbrev pub key_cmp : Vec ℕ Global → Vec ℕ Global → Ordering
key_cmp a b = slice_cmp nat_cmp a.items b.items

covered : {X : Type 0} (b : Bool) (x y z : X) → cond b x z ≡ cond b x (cond b y z)
covered true x y z = refl
covered false x y z = refl

-- Two tests that exclude each other may be made in either order.
apart : {X : Type 0} (a b : Bool) (x y z : X) → (b ≡ true → a ≡ false) → cond a y (cond b x z) ≡ cond b x (cond a y z)
apart a false x y z h = refl
apart a true x y z h = rw (h refl) refl

found_in_order : {X : Type 0} (t : Ordering) (k : Vec ℕ Global) (v : X) (e : Vec ℕ Global × X) (entries : Entries X) (q : List ℕ) → key_cmp k e.0 ≡ t
    → lookup_text (seen (insert_entry key_cmp entries k v)) q ≡ cond (same_text q k.items) (Some v) (lookup_text (seen entries) q)
    → lookup_text (seen (match_ordering t ((k, v) ∷ e ∷ entries) ((e.0, v) ∷ entries) (e ∷ insert_entry key_cmp entries k v))) q ≡ cond (same_text q k.items) (Some v) (lookup_text (seen (e ∷ entries)) q)
found_in_order Less k v e entries q is more = refl
found_in_order Equal k v e entries q is more =
    let same : k.items ≡ e.0.items = exact_bytes k.items e.0.items is in
    let here : same_text q e.0.items ≡ same_text q k.items = ap (λ l. same_text q l) (sym same) in
    ap (λ b. cond b (Some v) (lookup_text (seen entries) q)) here ∙ covered (same_text q k.items) (Some v) (Some e.1) (lookup_text (seen entries) q)
    ∙ ap (λ b. cond (same_text q k.items) (Some v) (cond b (Some e.1) (lookup_text (seen entries) q))) (sym here)
found_in_order Greater k v e entries q is more =
    ap (λ o. cond (same_text q e.0.items) (Some e.1) o) more
    ∙ apart (same_text q e.0.items) (same_text q k.items) (Some v) (Some e.1) (lookup_text (seen entries) q)
    (λ same. ap (λ l. same_text l e.0.items) (same_is q k.items same) ∙ sym (is_eq-slice_cmp k.items e.0.items) ∙ ap is_eq is)

found_inserted : {X : Type 0} (entries : Entries X) (k : Vec ℕ Global) (v : X) (q : List ℕ) → lookup_text (seen (insert_entry key_cmp entries k v)) q ≡ cond (same_text q k.items) (Some v) (lookup_text (seen entries) q)
found_inserted [] k v q = refl
found_inserted (e ∷ entries) k v q = found_in_order (key_cmp k e.0) k v e entries q refl (found_inserted entries k v q)

pub found_put : {X : Type 0} (old new : Entries X) (k : Vec ℕ Global) (text : List ℕ) (v : X) (before : List (List ℕ × X)) → k.items ≡ text → new ≡ insert_entry key_cmp old k v → seen old ≡ before
    → (q : List ℕ) → lookup_text (seen new) q ≡ cond (same_text q text) (Some v) (lookup_text before q)
found_put old new k text v before is put was q =
    ap (λ l. lookup_text (seen l) q) put ∙ found_inserted old k v q ∙ ap (λ l. cond (same_text q l) (Some v) (lookup_text (seen old) q)) is
    ∙ ap (λ l. cond (same_text q text) (Some v) (lookup_text l q)) was

-- ---- Removing the value of a text

-- A text that differs from the one asked for differs from the key that matches it.
asked_apart : (text q k : List ℕ) → is_eq (slice_cmp nat_cmp text k) ≡ true → same_text q text ≡ false → same_text q k ≡ false
asked_apart text q k is other =
    let same : text ≡ k = same_is text k (sym (is_eq-slice_cmp text k) ∙ is) in
    ap (λ l. same_text q l) (sym same) ∙ other

kept_by : {X : Type 0} (text q : List ℕ) (other : same_text q text ≡ false) (b : Bool) (e : Vec ℕ Global × X) (entries : Entries X) → asks text e.0 ≡ b → lookup_text (seen (remove_entry (asks text) entries)) q ≡ lookup_text (seen entries) q
    → lookup_text (seen (cond b entries (e ∷ remove_entry (asks text) entries))) q ≡ lookup_text (seen (e ∷ entries)) q
kept_by text q other true e entries is more = sym (ap (λ b. cond b (Some e.1) (lookup_text (seen entries) q)) (asked_apart text q e.0.items is other))
kept_by text q other false e entries is more = ap (λ o. cond (same_text q e.0.items) (Some e.1) o) more

-- The values of other texts are unchanged.
still_found : {X : Type 0} (text q : List ℕ) (other : same_text q text ≡ false) (entries : Entries X) → lookup_text (seen (remove_entry (asks text) entries)) q ≡ lookup_text (seen entries) q
still_found text q other [] = refl
still_found text q other (e ∷ entries) = kept_by text q other (asks text e.0) e entries refl (still_found text q other entries)

pub found_others : {X : Type 0} (old new : Entries X) (text : List ℕ) (before : List (List ℕ × X)) → new ≡ remove_entry (asks text) old → seen old ≡ before
    → (q : List ℕ) → same_text q text ≡ false → lookup_text (seen new) q ≡ lookup_text before q
found_others old new text before removed was q other = ap (λ l. lookup_text (seen l) q) removed ∙ still_found text q other old ∙ ap (λ l. lookup_text l q) was
