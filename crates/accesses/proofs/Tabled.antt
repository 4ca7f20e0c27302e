-- The index of the table stays right when entries change and are appended.
use Rattle.std.proofs.Common.{◌≡◌, ℕ, zero, suc, ◌<◌, ◌||◌, Bool, true, false, cond, List, [], ◌∷◌, ◌++◌, length, get_or, set, Option, Some, None, refl, sym, ap, ◌∙◌, subst, slice_get, BTreeMap, arith}
use Rattle.std.specs.BTreeMap.{Updates, get, is_at}
use Rattle.std.specs.List.{IsDistinct, list_any}
use Rattle.std.specs.Map.{keys_of, lookup}
use Rattle.std.proofs.lemmas.Map.Entries.{lookup_from_place}
use Rattle.std.proofs.lemmas.Map.Keys.{IsDistinct-push}
use Rattle.std.proofs.lemmas.Option.{none-some, same_Some}
use Rattle.accesses.specs.Kept.{kept_at, kept_in}
use Rattle.accesses.specs.Links.{AreAt}
use Rattle.accesses.specs.OnePlace.{keys_equiv, one_place, same_keys}
use Rattle.accesses.specs.Ordered.{cmp_is_same, place_cmp}
use Rattle.accesses.specs.Places.{place_of}
use Rattle.accesses.specs.Rooms.{IsEntryOf, set_value_at}
use Rattle.accesses.specs.Tables.{IsIndexed, IsEntryOrNone}
use Rattle.accesses.specs.declared.lasts.PlaceAccesses.{PlaceAccesses}
use Rattle.accesses.specs.declared.place.Place.{Place as Key}
use Rattle.accesses.proofs.Entries.{found_in, keeps_place, stays_found}
use Rattle.accesses.proofs.Found.{found}

abbrev Table : Type 0
Table = List (Key × PlaceAccesses)

abbrev Map : Type 0
Map = BTreeMap Key ℕ

-- ---- No entry, and the same entries

pub indexed_none : (m : Map) → m.entries ≡ [] → IsIndexed m []
unfolding IsDistinct
indexed_none m none = record {
  unique = tt;
  entry_is = λ q. subst (λ (o : Option ℕ). IsEntryOrNone [] q o) (sym (ap (λ (es : List (Key × ℕ)). lookup (is_at (place_cmp q)) es) none)) refl;
}

pub indexed_by : (m n : Map) (es fs : Table) → IsIndexed m es → n.entries ≡ m.entries → fs ≡ es → IsIndexed n fs
indexed_by m n es fs is same one = subst (λ (gs : Table). IsIndexed n gs) (sym one) (record {
  unique = is.unique;
  entry_is = λ q. subst (λ (o : Option ℕ). IsEntryOrNone es q o) (sym (ap (λ (fs : List (Key × ℕ)). lookup (is_at (place_cmp q)) fs) same)) (is.entry_is q);
})

-- All that is remembered for the place of an entry.
pub at_entry : (m : Map) (es : Table) (i : ℕ) (k : Key) (l : PlaceAccesses) → IsIndexed m es → slice_get es i ≡ Some (k, l) → AreAt (kept_in es) (place_of k) (kept_at (place_of k) l)
at_entry m es i k l is at = found k es l is.unique (lookup_from_place keys_equiv es i k l is.unique at)

-- ---- A changed entry

keys_kept : (es : Table) (i : ℕ) (l : PlaceAccesses) → keys_of (set_value_at es i l) ≡ keys_of es
keys_kept [] i l = refl
keys_kept (e ∷ es) zero l = refl
keys_kept (e ∷ es) (suc i) l = ap (λ (ks : List Key). e.0 ∷ ks) (keys_kept es i l)

none_with : (q : Key) (es : Table) (i : ℕ) (l : PlaceAccesses) → lookup (same_keys q) es ≡ None → lookup (same_keys q) (set_value_at es i l) ≡ None
none_with q [] i l is = is
none_with q (e ∷ es) zero l is = by (same_keys q e.0) is
  where
    by : (b : Bool) → cond b (Some e.1) (lookup (same_keys q) es) ≡ None → cond b (Some l) (lookup (same_keys q) es) ≡ None
    by true none = absurd (none-some e.1 (sym none))
    by false none = none
none_with q (e ∷ es) (suc i) l is = by (same_keys q e.0) (none_with q es i l) is
  where
    by : (b : Bool) → (lookup (same_keys q) es ≡ None → lookup (same_keys q) (set_value_at es i l) ≡ None) → cond b (Some e.1) (lookup (same_keys q) es) ≡ None → cond b (Some e.1) (lookup (same_keys q) (set_value_at es i l)) ≡ None
    by true rest none = none
    by false rest none = rest none

entry_with : (es : Table) (i : ℕ) (l : PlaceAccesses) (q : Key) (o : Option ℕ) → IsEntryOrNone es q o → IsEntryOrNone (set_value_at es i l) q o
entry_with es i l q None is = none_with q es i l is
entry_with es i l q (Some n) is = keeps_place es i l n (place_of q) is

pub indexed_with : (m : Map) (es : Table) (i : ℕ) (l : PlaceAccesses) → IsIndexed m es → IsIndexed m (set_value_at es i l)
indexed_with m es i l is = record {
  unique = subst (λ (ks : List Key). IsDistinct same_keys ks) (sym (keys_kept es i l)) is.unique;
  entry_is = λ q. entry_with es i l q (get place_cmp m q) (is.entry_is q);
}

pub read_entry : (es : Table) (i : ℕ) (e : Key × PlaceAccesses) → i < length es → e ≡ get_or es i e → slice_get es i ≡ Some e
read_entry [] i e less is = absurd (omega arith)
read_entry (d ∷ es) zero e less is = ap (λ (f : Key × PlaceAccesses). Some f) (sym is)
read_entry (d ∷ es) (suc i) e less is = read_entry es i e (omega arith) is

pub set_entry : (es : Table) (i : ℕ) (e : Key × PlaceAccesses) (l : PlaceAccesses) → slice_get es i ≡ Some e → set es i (e.0, l) ≡ set_value_at es i l
set_entry [] i e l at = refl
set_entry (d ∷ es) zero e l at = ap (λ (f : Key × PlaceAccesses). (f.0, l) ∷ es) (sym (same_Some d e at))
set_entry (d ∷ es) (suc i) e l at = ap (λ (fs : Table). d ∷ fs) (set_entry es i e l at)

-- ---- One more entry

pub last_entry : (es : Table) (e : Key × PlaceAccesses) → slice_get (es ++ e ∷ []) (length es) ≡ Some e
last_entry [] e = refl
last_entry (d ∷ es) e = last_entry es e

keys_pushed : (es : Table) (e : Key × PlaceAccesses) → keys_of (es ++ e ∷ []) ≡ keys_of es ++ e.0 ∷ []
keys_pushed [] e = refl
keys_pushed (d ∷ es) e = ap (λ (ks : List Key). d.0 ∷ ks) (keys_pushed es e)

none_pushed : (q : Key) (es : Table) (e : Key × PlaceAccesses) → same_keys q e.0 ≡ false → lookup (same_keys q) es ≡ None → lookup (same_keys q) (es ++ e ∷ []) ≡ None
none_pushed q [] e apart is = ap (λ (b : Bool). cond b (Some e.1) None) apart
none_pushed q (d ∷ es) e apart is = by (same_keys q d.0) (none_pushed q es e apart) is
  where
    by : (b : Bool) → (lookup (same_keys q) es ≡ None → lookup (same_keys q) (es ++ e ∷ []) ≡ None) → cond b (Some d.1) (lookup (same_keys q) es) ≡ None → cond b (Some d.1) (lookup (same_keys q) (es ++ e ∷ [])) ≡ None
    by true rest none = none
    by false rest none = rest none

none_any : (q : Key) (es : Table) → lookup (same_keys q) es ≡ None → list_any (same_keys q) (keys_of es) ≡ false
none_any q [] is = refl
none_any q (e ∷ es) is = by (same_keys q e.0) (none_any q es) is
  where
    by : (b : Bool) → (lookup (same_keys q) es ≡ None → list_any (same_keys q) (keys_of es) ≡ false) → cond b (Some e.1) (lookup (same_keys q) es) ≡ None → (b || list_any (same_keys q) (keys_of es)) ≡ false
    by true rest none = absurd (none-some e.1 (sym none))
    by false rest none = rest none

tells_pushed : (es : Table) (e : Key × PlaceAccesses) (q : Key) (o : Option ℕ) → same_keys q e.0 ≡ false → IsEntryOrNone es q o → IsEntryOrNone (es ++ e ∷ []) q o
tells_pushed es e q None apart is = none_pushed q es e apart is
tells_pushed es e q (Some n) apart is = stays_found (λ f. place_of f.0 ≡ place_of q) es (e ∷ []) n is

entry_new : (m : Map) (es : Table) (p : Key) (l : PlaceAccesses) (q : Key) (b : Bool) → is_at (place_cmp p) q ≡ b → IsEntryOrNone es q (get place_cmp m q) → IsEntryOrNone (es ++ (p, l) ∷ []) q (cond b (Some (length es)) (get place_cmp m q))
entry_new m es p l q true same is =
    found_in (λ e. place_of e.0 ≡ place_of q) (es ++ (p, l) ∷ []) (length es) (p, l) (last_entry es (p, l)) (one_place (place_of p) (place_of q) (cmp_is_same p q ∙ same))
entry_new m es p l q false apart is = tells_pushed es (p, l) q (get place_cmp m q) (keys_equiv.symm q p ∙ cmp_is_same p q ∙ apart) is

pub indexed_pushed : (m n : Map) (es : Table) (p : Key) (l : PlaceAccesses) → IsIndexed m es → lookup (same_keys p) es ≡ None → Updates place_cmp m n p (Some (length es)) → IsIndexed n (es ++ (p, l) ∷ [])
indexed_pushed m n es p l is none updates = record {
  unique = subst (λ (ks : List Key). IsDistinct same_keys ks) (sym (keys_pushed es (p, l))) (IsDistinct-push keys_equiv (keys_of es) p is.unique (none_any p es none));
  entry_is = λ q. subst (λ (o : Option ℕ). IsEntryOrNone (es ++ (p, l) ∷ []) q o) (sym (updates.0 q)) (entry_new m es p l q (is_at (place_cmp p) q) refl (is.entry_is q));
}

pub pushed_at : (es : Table) (p : Key) (l : PlaceAccesses) → IsEntryOf (es ++ (p, l) ∷ []) (length es) (place_of p)
pushed_at es p l = found_in (λ e. place_of e.0 ≡ place_of p) (es ++ (p, l) ∷ []) (length es) (p, l) (last_entry es (p, l)) refl
