-- The accesses to a place, and the links from there.
use Rattle.std.proofs.Common.{◌≡◌, ℕ, Bool, true, false, cond, ◌&&◌, ◌||◌, if◌then◌else◌, List, [], ◌∷◌, ◌++◌, map, Option, Some, None, ◌⊎◌, inl, inr, ⊎_elim, refl, sym, ap, ◌∙◌, subst, true≢false, append-nil}
use Rattle.std.specs.List.{AllByRecursion, IsDistinct}
use Rattle.std.specs.Map.{keys_of, lookup}
use Rattle.std.proofs.lemmas.Bool.{and_from, and_parts}
use Rattle.std.proofs.lemmas.Map.Keys.{IsDistinct-head, IsDistinct-tail}
use Rattle.std.proofs.lemmas.Option.{none-some, same_Some}
use Rattle.jvms_machine.specs.declared.trace.Item.{Item}
use Rattle.jvms_machine.specs.Events.{thread_of}
use Rattle.velodrome.specs.Cycles.{IsIn}
use Rattle.atom_order.specs.declared.link.Link.{Link}
use Rattle.accesses.specs.Accesses.{Access, AreLinks, Last, OfThread, Place, accesses_beside, accesses_of, against, link_to, main_at, same_place}
use Rattle.accesses.specs.Kept.{beside_last, kept_at, kept_in, main_last, main_lasts}
use Rattle.accesses.specs.Links.{AreAdded, AreAt, AreLinksOf, IsAgainstOne, link_from, links_of, main_links}
use Rattle.accesses.specs.OnePlace.{keys_equiv, one_place, place_itself, same_keys}
use Rattle.accesses.specs.Places.{place_of}
use Rattle.accesses.specs.declared.lasts.PlaceAccesses.{PlaceAccesses}
use Rattle.accesses.specs.declared.lasts.Noted.{Noted}
use Rattle.accesses.specs.declared.place.Place.{Place as Key}
use Rattle.accesses.proofs.Members.{in_back, in_either, in_front, in_map, of_map}

-- ---- Each remembered access has its entry's place

of_main : (p : Place) (m : Option Noted) (k : Last) → IsIn k (main_lasts p m) → (n : Noted) × (m ≡ Some n) × (k ≡ main_last p n)
of_main p None k is_in = absurd is_in
of_main p (Some n) k (inl same) = (n, refl, same)
of_main p (Some n) k (inr more) = absurd more

-- It is the main one, or a non-main one.
pub of_kept : (p : Place) (l : PlaceAccesses) (k : Last) → IsIn k (kept_at p l)
    → ((n : Noted) × (l.main ≡ Some n) × (k ≡ main_last p n)) ⊎ ((n : Noted) × IsIn n l.beside.items × (k ≡ beside_last p n))
of_kept p l k is_in = ⊎_elim (λ front. inl (of_main p l.main k front)) (λ back. inr (of_map (beside_last p) k l.beside.items back))
    (in_either k (main_lasts p l.main) (map (beside_last p) l.beside.items) is_in)

pub here : (p : Place) (l : PlaceAccesses) (k : Last) → IsIn k (kept_at p l) → k.access.place ≡ p
here p l k is_in = ⊎_elim (λ w. ap (λ (x : Last). x.access.place) w.2) (λ w. ap (λ (x : Last). x.access.place) w.2) (of_kept p l k is_in)

-- ---- What a look-up finds

abbrev Table : Type 0
Table = List (Key × PlaceAccesses)

turned : (a b : Key) → same_keys a b ≡ false → same_keys b a ≡ false
turned a b apart = keys_equiv.symm b a ∙ apart

-- No entry but the first has its place.
elsewhere : (q : Place) (es : Table) → AllByRecursion (λ y. same_place q (place_of y) ≡ false) (keys_of es) → (k : Last) → IsIn k (kept_in es) → k.access.place ≡ q → ⊥
elsewhere q [] all k is_in same = is_in
elsewhere q (e ∷ es) all k is_in same =
    ⊎_elim
    (λ front. true≢false (sym (place_itself q) ∙ ap (λ (r : Place). same_place q r) (sym same ∙ here (place_of e.0) e.1 k front) ∙ all.0))
    (λ back. elsewhere q es all.1 k back same)
    (in_either k (kept_at (place_of e.0) e.1) (kept_in es) is_in)

abbrev IsAtEntry : Key → Table → PlaceAccesses → Type 0
IsAtEntry q es l = AreAt (kept_in es) (place_of q) (kept_at (place_of q) l)

at_first : (q : Key) (e : Key × PlaceAccesses) (es : Table) (l : PlaceAccesses) → IsDistinct same_keys (keys_of (e ∷ es)) → same_keys q e.0 ≡ true → e.1 ≡ l → IsAtEntry q (e ∷ es) l
at_first q e es l apart same is =
    let one : place_of q ≡ place_of e.0 = one_place (place_of q) (place_of e.0) same in
    let entry : kept_at (place_of e.0) e.1 ≡ kept_at (place_of q) l = ap (λ (p : Place). kept_at p e.1) (sym one) ∙ ap (kept_at (place_of q)) is in (
      λ k is_in. (in_front k _ (kept_in es) (subst (IsIn k) (sym entry) is_in), here (place_of q) l k is_in),
      λ k is_in near. ⊎_elim (λ front. subst (IsIn k) entry front)
          (λ back. absurd (elsewhere (place_of e.0) es (IsDistinct-head same_keys e.0 (keys_of es) apart) k back (one_place k.access.place (place_of q) near ∙ one)))
          (in_either k (kept_at (place_of e.0) e.1) (kept_in es) is_in),
    )

at_other : (q : Key) (e : Key × PlaceAccesses) (es : Table) (l : PlaceAccesses) → same_keys q e.0 ≡ false → IsAtEntry q es l → IsAtEntry q (e ∷ es) l
at_other q e es l apart rest = (
  λ k is_in. let r = rest.0 k is_in in (in_back k (kept_at (place_of e.0) e.1) (kept_in es) r.0, r.1),
  λ k is_in near. ⊎_elim
      (λ front. absurd (true≢false (sym near ∙ ap (λ (p : Place). same_place p (place_of q)) (here (place_of e.0) e.1 k front) ∙ turned q e.0 apart)))
      (λ back. rest.1 k back near)
      (in_either k (kept_at (place_of e.0) e.1) (kept_in es) is_in),
)

found_by : (q : Key) (e : Key × PlaceAccesses) (es : Table) (l : PlaceAccesses) (b : Bool) → IsDistinct same_keys (keys_of (e ∷ es)) → same_keys q e.0 ≡ b → (lookup (same_keys q) es ≡ Some l → IsAtEntry q es l) → cond b (Some e.1) (lookup (same_keys q) es) ≡ Some l → IsAtEntry q (e ∷ es) l
found_by q e es l true apart same rest is = at_first q e es l apart same (same_Some e.1 l is)
found_by q e es l false apart same rest is = at_other q e es l same (rest is)

pub found : (q : Key) (es : Table) (l : PlaceAccesses) → IsDistinct same_keys (keys_of es) → lookup (same_keys q) es ≡ Some l → IsAtEntry q es l
found q [] l apart is = absurd (none-some l is)
found q (e ∷ es) l apart is = found_by q e es l (same_keys q e.0) apart refl (found q es l (IsDistinct-tail same_keys e.0 (keys_of es) apart)) is

-- ---- Links

beside_is_main : (b : Bool) (p q : Place) → (same_place p q && (false || b)) ≡ true → b ≡ true
beside_is_main b p q is = (and_parts (same_place p q) b is).1

linked_beside : (number : ℕ) (b : Bool) (n : Noted) (ms : List Noted) → b ≡ true → IsIn n ms → IsIn (link_from number n) (if b then map (link_from number) ms else [])
linked_beside number true n ms is is_in = in_map (link_from number) n ms is_in
linked_beside number false n ms is is_in = absurd (true≢false (sym is))

of_beside : (number : ℕ) (b : Bool) (ms : List Noted) (l : Link) → IsIn l (if b then map (link_from number) ms else []) → (n : Noted) × (b ≡ true) × IsIn n ms × (l ≡ link_from number n)
of_beside number true ms l is_in = let w = of_map (link_from number) l ms is_in in (w.0, refl, w.1, w.2)
of_beside number false ms l is_in = absurd is_in

of_main_links : (number : ℕ) (m : Option Noted) (l : Link) → IsIn l (main_links number m) → (n : Noted) × (m ≡ Some n) × (l ≡ link_from number n)
of_main_links number None l is_in = absurd is_in
of_main_links number (Some n) l (inl same) = (n, refl, same)
of_main_links number (Some n) l (inr more) = absurd more

in_main : (p : Place) (m : Option Noted) (n : Noted) → m ≡ Some n → IsIn (main_last p n) (main_lasts p m)
in_main p m n is = subst (λ (o : Option Noted). IsIn (main_last p n) (main_lasts p o)) (sym is) (inl refl)

in_main_links : (number : ℕ) (m : Option Noted) (n : Noted) → m ≡ Some n → IsIn (link_from number n) (main_links number m)
in_main_links number m n is = subst (λ (o : Option Noted). IsIn (link_from number n) (main_links number o)) (sym is) (inl refl)

abbrev access : Place → Bool → Access
access p b = record { place = p; is_main = b }

abbrev IsLinked : List Last → ℕ → Access → Link → Type 0
IsLinked kept number x l = (k : Last) × IsIn k kept × (against k.access x ≡ true) × (l ≡ link_to number k)

sound_links : (kept : List Last) (p : Place) (b : Bool) (number : ℕ) (l : PlaceAccesses) → AreAt kept p (kept_at p l) → (k : Link) → IsIn k (links_of b number l) → IsLinked kept number (access p b) k
sound_links kept p b number l at k is_in =
    ⊎_elim
    (λ front. let w = of_main_links number l.main k front in
    (main_last p w.0, (at.0 (main_last p w.0) (in_front _ _ (map (beside_last p) l.beside.items) (in_main p l.main w.0 w.1))).0, and_from (same_place p p) true (place_itself p) refl, w.2))
    (λ back. let w = of_beside number b l.beside.items k back in
    (beside_last p w.0, (at.0 (beside_last p w.0) (in_back _ (main_lasts p l.main) _ (in_map (beside_last p) w.0 l.beside.items w.2))).0, and_from (same_place p p) b (place_itself p) w.1, w.3))
    (in_either k (main_links number l.main) _ is_in)

whole_links : (kept : List Last) (p : Place) (b : Bool) (number : ℕ) (l : PlaceAccesses) → AreAt kept p (kept_at p l) → (k : Last) → IsIn k kept → against k.access (access p b) ≡ true → IsIn (link_to number k) (links_of b number l)
whole_links kept p b number l at k is_in is =
    let near = (and_parts (same_place k.access.place p) (k.access.is_main || b) is).0 in
    ⊎_elim
    (λ w. subst (λ (j : Last). IsIn (link_to number j) (links_of b number l)) (sym w.2) (in_front _ _ (if b then map (link_from number) l.beside.items else []) (in_main_links number l.main w.0 w.1)))
    (λ w. let main : b ≡ true = beside_is_main b p p (subst (λ (j : Last). against j.access (access p b) ≡ true) w.2 is) in
    subst (λ (j : Last). IsIn (link_to number j) (links_of b number l)) (sym w.2) (in_back _ (main_links number l.main) _ (linked_beside number b w.0 l.beside.items main w.1)))
    (of_kept p l k (at.1 k is_in near))

-- Conflicting with one of a list of one access means conflicting with it.
alone : (x : Access) (k : Last) → IsAgainstOne (x ∷ []) k → against k.access x ≡ true
alone x k one = ⊎_elim (λ same. subst (λ (y : Access). against k.access y ≡ true) same one.2) (λ none. absurd none) one.1

pub links_of_found : (kept : List Last) (p : Place) (b : Bool) (number : ℕ) (l : PlaceAccesses) → AreAt kept p (kept_at p l) → AreLinksOf kept number (access p b ∷ []) (links_of b number l)
links_of_found kept p b number l at = record {
  sound = λ k is_in. let w = sound_links kept p b number l at k is_in in (w.0, w.1, (access p b, inl refl, w.2), w.3);
  whole = λ k is_in one. whole_links kept p b number l at k is_in (alone (access p b) k one);
}

-- If nothing is touched, no links are added.
pub none_added : (kept : List Last) (number : ℕ) (links : List Link) → AreAdded kept number [] links links
none_added kept number links = ([], sym (append-nil links), record { sound = λ l is_in. absurd is_in; whole = λ k is_in one. absurd one.1 })

-- The links of an item are those from its thread and those from what it touches.
pub all_links : (kept : List Last) (number : ℕ) (i : Item) (mid new : List Link) → AreAdded kept number (main_at (OfThread (thread_of i)) ∷ []) [] mid → AreAdded kept number (accesses_beside i) mid new → AreLinks kept number i new
unfolding accesses_of
all_links kept number i mid new first second =
    let own = first.0 in
    let more = second.0 in
    let are : new ≡ own ++ more = second.1 ∙ ap (λ (ls : List Link). ls ++ more) first.1 in
    record {
      sound = λ l is_in. ⊎_elim
          (λ f. let w = first.2.sound l f in (w.0, w.1, (main_at (OfThread (thread_of i)), inl refl, alone (main_at (OfThread (thread_of i))) w.0 w.2), w.3))
          (λ b. let w = second.2.sound l b in (w.0, w.1, (w.2.0, inr w.2.1, w.2.2), w.3))
          (in_either l own more (subst (IsIn l) are is_in));
      whole = λ k is_in one. subst (IsIn (link_to number k)) (sym are) (⊎_elim
          (λ same. in_front _ own more (first.2.whole k is_in (one.0, inl same, one.2)))
          (λ b. in_back _ own more (second.2.whole k is_in (one.0, b, one.2)))
          one.1);
    }
