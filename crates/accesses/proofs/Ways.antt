-- The bits of each thread's number lead to its node.
use Rattle.std.proofs.Common.{◌≡◌, ◌≢◌, ℕ, zero, suc, ◌+◌, ◌<◌, ◌≤◌, ◌/◌, Bool, true, false, if◌then◌else◌, ◌⊎◌, inl, inr, ⊎_elim, List, [], ◌∷◌, ◌++◌, map, length, set, refl, sym, ap, ◌∙◌, subst, eq-eqb, ne_eqb, length-set, arith}
use Rattle.std.proofs.lemmas.List.{get_or_append_left, get_or_push, length_push}
use Rattle.std.proofs.lemmas.Bool.{cases_lt}
use Rattle.accesses.specs.ByThread.{AreFound, Extends, IsEnd, IsWay, Leads, is_odd, linked_in, next_of, node_in, no_node, notes_of, thread_in, with_next}
use Rattle.accesses.specs.Kept.{with_access}
use Rattle.accesses.specs.declared.by_thread.Node.{Node}
use Rattle.accesses.specs.declared.lasts.Noted.{Noted}

-- Returns the next node along these bits.
abbrev follows : List Node → ℕ → ℕ → ℕ
follows ns at bits = next_of (node_in ns at) (is_odd bits)

module _ (ns : List Node) (t : ℕ) where
  at_inside : (n at bits i : ℕ) → Leads ns t n at bits i → at < length ns
  at_inside zero at bits i is = is.1
  at_inside (suc n) at bits i is = is.0

  goes_on : (n at bits i : ℕ) → Leads ns t n at bits i → thread_in ns at ≢ t → (m : ℕ) × Leads ns t m (follows ns at bits) (bits / 2) i
  goes_on zero at bits i is other = absurd (other is.2)
  goes_on (suc n) at bits i is other = (n, is.3)

  goes_behind : (n at bits i : ℕ) → Leads ns t n at bits i → thread_in ns at ≢ t → (at < follows ns at bits) × (follows ns at bits < length ns)
  goes_behind zero at bits i is other = absurd (other is.2)
  goes_behind (suc n) at bits i is other = (is.2, at_inside n (follows ns at bits) (bits / 2) i is.3)

  -- Only one node is reached.
  one_node : (n m at bits i j : ℕ) → Leads ns t n at bits i → Leads ns t m at bits j → i ≡ j
  one_node zero zero at bits i j a b = sym a.0 ∙ b.0
  one_node zero (suc m) at bits i j a b = absurd (b.1 a.2)
  one_node (suc n) zero at bits i j a b = absurd (a.1 b.2)
  one_node (suc n) (suc m) at bits i j a b = one_node n m (follows ns at bits) (bits / 2) i j a.3 b.3

-- Appending nodes keeps every way.
stays : (ns ms : List Node) → Extends ns ms → (t n at bits i : ℕ) → Leads ns t n at bits i → Leads ms t n at bits i
stays ns ms more t zero at bits i is =
    let less = is.1 in
    let long = more.long in
    (is.0, omega arith, more.threads at less ∙ is.2)
stays ns ms more t (suc n) at bits i is =
    let less = is.0 in
    let long = more.long in
    let inside = at_inside ns t n (follows ns at bits) (bits / 2) i is.3 in
    let same = more.links at (is_odd bits) less is.2 inside in (
      omega arith,
      λ one. is.1 (sym (more.threads at less) ∙ one),
      subst (λ (next : ℕ). at < next) (sym same) is.2,
      subst (λ (next : ℕ). Leads ms t n next (bits / 2) i) (sym same) (stays ns ms more t n (follows ns at bits) (bits / 2) i is.3),
    )

same_found : (ns ms : List Node) → Extends ns ms → AreFound ns → (i : ℕ) → i < length ns → (n : ℕ) × Leads ms (thread_in ms i) n 0 (thread_in ms i) i
same_found ns ms more found i less =
    let w = found i less in
    subst (λ (t : ℕ). (n : ℕ) × Leads ms t n 0 t i) (sym (more.threads i less)) (w.0, stays ns ms more (thread_in ns i) w.0 0 (thread_in ns i) i w.1)

-- ---- The search

pub first_or_none : (n : ℕ) → (0 < n) ⊎ (n ≡ 0)
first_or_none zero = inr refl
first_or_none (suc n) = inl (omega arith)

pub starts : (ns : List Node) (t : ℕ) → AreFound ns → (i : ℕ) → i < length ns → thread_in ns i ≡ t → (n : ℕ) × Leads ns t n 0 t i
starts ns t found i less same = subst (λ (u : ℕ). (n : ℕ) × Leads ns u n 0 u i) same (found i less)

pub way_on : (ns : List Node) (t at bits : ℕ) → IsWay ns t at bits → at < length ns → thread_in ns at ≢ t → at < follows ns at bits → follows ns at bits < length ns → IsWay ns t (follows ns at bits) (bits / 2)
way_on ns t at bits way less other ahead inside ms more n i is =
    let long = more.long in
    let same = more.links at (is_odd bits) less ahead inside in
    way ms more (suc n) i (
      omega arith,
      λ one. other (sym (more.threads at less) ∙ one),
      subst (λ (next : ℕ). at < next) (sym same) ahead,
      subst (λ (next : ℕ). Leads ms t n next (bits / 2) i) (sym same) is,
    )

abbrev pub AreAhead : List Node → ℕ → ℕ → ℕ → Type 0
AreAhead ns t at bits = (i : ℕ) → i < length ns → thread_in ns i ≡ t → (n : ℕ) × Leads ns t n at bits i

pub ahead_on : (ns : List Node) (t at bits : ℕ) → AreAhead ns t at bits → thread_in ns at ≢ t → AreAhead ns t (follows ns at bits) (bits / 2)
ahead_on ns t at bits ahead other i less same = let w = ahead i less same in goes_on ns t w.0 at bits i w.1 other

none_ahead : (ns : List Node) (t at bits : ℕ) → AreAhead ns t at bits → thread_in ns at ≢ t → (follows ns at bits ≤ at) ⊎ (length ns ≤ follows ns at bits) → (i : ℕ) → i < length ns → thread_in ns i ≡ t → ⊥
none_ahead ns t at bits ahead other free i less same =
    let w = ahead i less same in
    let behind = goes_behind ns t w.0 at bits i w.1 other in
    let low : at < follows ns at bits = behind.0 in
    let high : follows ns at bits < length ns = behind.1 in
    ⊎_elim (λ (h : follows ns at bits ≤ at). absurd (omega arith)) (λ (h : length ns ≤ follows ns at bits). absurd (omega arith)) free

pub ends_here : (ns : List Node) (t at bits : ℕ) (side : Bool) → at < length ns → AreAhead ns t at bits → IsWay ns t at bits → thread_in ns at ≢ t → side ≡ is_odd bits
    → (follows ns at bits ≤ at) ⊎ (length ns ≤ follows ns at bits) → IsEnd ns t at side
ends_here ns t at bits side less ahead way other is free = record {
  bits = bits;
  absent = none_ahead ns t at bits ahead other free;
  inside = inl less;
  side_is = λ _. is;
  free = λ _. subst (λ (b : Bool). (next_of (node_in ns at) b ≤ at) ⊎ (length ns ≤ next_of (node_in ns at) b)) (sym is) free;
  way = λ _. way;
}

pub ends_empty : (ns : List Node) (t : ℕ) → length ns ≡ 0 → IsEnd ns t 0 false
ends_empty ns t none = record {
  bits = 0;
  absent = λ i less same. absurd (omega arith);
  inside = inr none;
  side_is = λ less. absurd (omega arith);
  free = λ less. absurd (omega arith);
  way = λ less. absurd (omega arith);
}

-- ---- One more node

linked_thread : (ns : List Node) (i : ℕ) (side : Bool) (next j : ℕ) → thread_in (linked_in ns i side next) j ≡ thread_in ns j
linked_thread [] i side next j = refl
linked_thread (n ∷ ns) zero side next zero = refl
linked_thread (n ∷ ns) zero side next (suc j) = refl
linked_thread (n ∷ ns) (suc i) side next zero = refl
linked_thread (n ∷ ns) (suc i) side next (suc j) = linked_thread ns i side next j

pub linked_notes : (ns : List Node) (i : ℕ) (side : Bool) (next : ℕ) → notes_of (linked_in ns i side next) ≡ notes_of ns
linked_notes [] i side next = refl
linked_notes (n ∷ ns) zero side next = refl
linked_notes (n ∷ ns) (suc i) side next = ap (λ (ms : List Noted). n.noted ∷ ms) (linked_notes ns i side next)

side_stays : (n : Node) (side b : Bool) (next : ℕ) → (next_of (with_next n side next) b ≡ next_of n b) ⊎ (b ≡ side)
side_stays n true true next = inr refl
side_stays n true false next = inl refl
side_stays n false true next = inl refl
side_stays n false false next = inr refl

link_stays : (ns : List Node) (i : ℕ) (side : Bool) (next j : ℕ) (b : Bool) → (next_of (node_in (linked_in ns i side next) j) b ≡ next_of (node_in ns j) b) ⊎ ((j ≡ i) × (b ≡ side))
link_stays [] i side next j b = inl refl
link_stays (n ∷ ns) zero side next zero b = ⊎_elim (λ same. inl same) (λ one. inr (refl, one)) (side_stays n side b next)
link_stays (n ∷ ns) zero side next (suc j) b = inl refl
link_stays (n ∷ ns) (suc i) side next zero b = inl refl
link_stays (n ∷ ns) (suc i) side next (suc j) b = ⊎_elim (λ same. inl same) (λ both. inr (ap suc both.0, both.1)) (link_stays ns i side next j b)

link_there : (n : Node) (side : Bool) (next : ℕ) → next_of (with_next n side next) side ≡ next
link_there n true next = refl
link_there n false next = refl

linked_there : (ns : List Node) (i : ℕ) (side : Bool) (next : ℕ) → i < length ns → next_of (node_in (linked_in ns i side next) i) side ≡ next
linked_there [] i side next less = absurd (omega arith)
linked_there (n ∷ ns) zero side next less = link_there n side next
linked_there (n ∷ ns) (suc i) side next less = linked_there ns i side next (omega arith)

pub length_linked : (ns : List Node) (i : ℕ) (side : Bool) (next : ℕ) → length (linked_in ns i side next) ≡ length ns
length_linked ns i side next = length-set ns i (with_next (node_in ns i) side next)

abbrev pub fresh : Noted → Node
fresh noted = record { noted = noted; even = 0; odd = 0 }

abbrev pub added : List Node → ℕ → Bool → Noted → List Node
added ns index side noted = linked_in ns index side (length ns) ++ fresh noted ∷ []

module _ (ns : List Node) (index : ℕ) (side : Bool) (noted : Noted) where
  long_added : length (added ns index side noted) ≡ length ns + 1
  long_added =
      let one = length_linked ns index side (length ns) in
      let two = length_push (linked_in ns index side (length ns)) (fresh noted) in
      omega arith

  old_node : (i : ℕ) → i < length ns → node_in (added ns index side noted) i ≡ node_in (linked_in ns index side (length ns)) i
  old_node i less =
      let one = length_linked ns index side (length ns) in
      get_or_append_left (linked_in ns index side (length ns)) (fresh noted ∷ []) no_node i (omega arith)

  old_thread : (i : ℕ) → i < length ns → thread_in (added ns index side noted) i ≡ thread_in ns i
  old_thread i less = ap (λ (n : Node). n.noted.thread) (old_node i less) ∙ linked_thread ns index side (length ns) i

  new_thread : thread_in (added ns index side noted) (length ns) ≡ noted.thread
  new_thread = ap (λ (n : Node). n.noted.thread) (get_or_push (linked_in ns index side (length ns)) (fresh noted) no_node (length ns) (length_linked ns index side (length ns)))

  extended : IsEnd ns noted.thread index side → Extends ns (added ns index side noted)
  extended end = record {
    long = let more = long_added in omega arith;
    threads = old_thread;
    links = λ i b less ahead inside. ap (λ (n : Node). next_of n b) (old_node i less) ∙ ⊎_elim
        (λ same. same)
        (λ both.
        let there : index < length ns = subst (λ (j : ℕ). j < length ns) both.0 less in
        let low : index < next_of (node_in ns index) b = subst (λ (j : ℕ). j < next_of (node_in ns j) b) both.0 ahead in
        let high : next_of (node_in ns index) b < length ns = subst (λ (j : ℕ). next_of (node_in ns j) b < length ns) both.0 inside in
        let free : (next_of (node_in ns index) b ≤ index) ⊎ (length ns ≤ next_of (node_in ns index) b) =
        subst (λ (c : Bool). (next_of (node_in ns index) c ≤ index) ⊎ (length ns ≤ next_of (node_in ns index) c)) (sym both.1) (end.free there) in
        ⊎_elim (λ (h : next_of (node_in ns index) b ≤ index). absurd (omega arith)) (λ (h : length ns ≤ next_of (node_in ns index) b). absurd (omega arith)) free)
        (link_stays ns index side (length ns) i b);
  }

  new_found : IsEnd ns noted.thread index side → (n : ℕ) × Leads (added ns index side noted) noted.thread n 0 noted.thread (length ns)
  new_found end = ⊎_elim
      (λ (there : index < length ns).
      let longer = long_added in
      let next : next_of (node_in (added ns index side noted) index) (is_odd end.bits) ≡ length ns =
      ap (λ (n : Node). next_of n (is_odd end.bits)) (old_node index there)
      ∙ ap (λ (b : Bool). next_of (node_in (linked_in ns index side (length ns)) index) b) (sym (end.side_is there))
      ∙ linked_there ns index side (length ns) there in
      let last : Leads (added ns index side noted) noted.thread 0 (length ns) (end.bits / 2) (length ns) = (refl, omega arith, new_thread) in
      end.way there (added ns index side noted) (extended end) 1 (length ns) (
        omega arith,
        λ one. end.absent index there (sym (old_thread index there) ∙ one),
        subst (λ (m : ℕ). index < m) (sym next) there,
        subst (λ (m : ℕ). Leads (added ns index side noted) noted.thread 0 m (end.bits / 2) (length ns)) (sym next) last,
      ))
      (λ (none : length ns ≡ 0).
      let longer = long_added in
      let last : Leads (added ns index side noted) noted.thread 0 0 noted.thread 0 = (refl, omega arith, subst (λ (j : ℕ). thread_in (added ns index side noted) j ≡ noted.thread) none new_thread) in
      (0, subst (λ (j : ℕ). Leads (added ns index side noted) noted.thread 0 0 noted.thread j) (sym none) last))
      end.inside

  pub found_with_new : AreFound ns → IsEnd ns noted.thread index side → AreFound (added ns index side noted)
  found_with_new found end i less = elim (cases_lt i (length ns)) [
    | inl old ↦ same_found ns (added ns index side noted) (extended end) found i old
    | inr new ↦
        let longer = long_added in
        let last : length ns ≡ i = omega arith in
        let w = new_found end in
        subst (λ (j : ℕ). (n : ℕ) × Leads (added ns index side noted) (thread_in (added ns index side noted) j) n 0 (thread_in (added ns index side noted) j) j) last
        (subst (λ (t : ℕ). (n : ℕ) × Leads (added ns index side noted) t n 0 t (length ns)) (sym new_thread) w)
  ]

-- ---- A node with a new access of its thread

abbrev pub with_note : Node → Noted → Node
with_note n noted = record { noted = noted; even = n.even; odd = n.odd }

abbrev pub noted_in : List Node → ℕ → Noted → List Node
noted_in ns i noted = set ns i (with_note (node_in ns i) noted)

noted_thread : (ns : List Node) (i : ℕ) (noted : Noted) (j : ℕ) → thread_in ns i ≡ noted.thread → thread_in (noted_in ns i noted) j ≡ thread_in ns j
noted_thread [] i noted j same = refl
noted_thread (n ∷ ns) zero noted zero same = sym same
noted_thread (n ∷ ns) zero noted (suc j) same = refl
noted_thread (n ∷ ns) (suc i) noted zero same = refl
noted_thread (n ∷ ns) (suc i) noted (suc j) same = noted_thread ns i noted j same

noted_link : (ns : List Node) (i : ℕ) (noted : Noted) (j : ℕ) (b : Bool) → next_of (node_in (noted_in ns i noted) j) b ≡ next_of (node_in ns j) b
noted_link [] i noted j b = refl
noted_link (n ∷ ns) zero noted zero b = refl
noted_link (n ∷ ns) zero noted (suc j) b = refl
noted_link (n ∷ ns) (suc i) noted zero b = refl
noted_link (n ∷ ns) (suc i) noted (suc j) b = noted_link ns i noted j b

pub found_with_note : (ns : List Node) (i : ℕ) (noted : Noted) → AreFound ns → thread_in ns i ≡ noted.thread → AreFound (noted_in ns i noted)
found_with_note ns i noted found same j less =
    let long = length-set ns i (with_note (node_in ns i) noted) in
    let more : Extends ns (noted_in ns i noted) = record {
      long = omega arith;
      threads = λ k _. noted_thread ns i noted k same;
      links = λ k b _ _ _. noted_link ns i noted k b;
    } in
    same_found ns (noted_in ns i noted) more found j (omega arith)

with_access_at : (ns : List Node) (i : ℕ) (noted : Noted) → i < length ns → thread_in ns i ≡ noted.thread → ((j : ℕ) → j < i → thread_in ns j ≢ noted.thread) → notes_of (noted_in ns i noted) ≡ with_access noted (notes_of ns)
with_access_at [] i noted less same before = absurd (omega arith)
with_access_at (n ∷ ns) zero noted less same before =
    sym (ap (λ (b : Bool). if b then noted ∷ notes_of ns else n.noted ∷ with_access noted (notes_of ns)) (eq-eqb n.noted.thread noted.thread same))
with_access_at (n ∷ ns) (suc i) noted less same before =
    ap (λ (ms : List Noted). n.noted ∷ ms) (with_access_at ns i noted (omega arith) same (λ j low. before (suc j) (omega arith)))
    ∙ sym (ap (λ (b : Bool). if b then noted ∷ notes_of ns else n.noted ∷ with_access noted (notes_of ns)) (ne_eqb n.noted.thread noted.thread (before 0 (omega arith))))

pub notes_with_access : (ns : List Node) (i : ℕ) (noted : Noted) → AreFound ns → i < length ns → thread_in ns i ≡ noted.thread → notes_of (noted_in ns i noted) ≡ with_access noted (notes_of ns)
notes_with_access ns i noted found less same = with_access_at ns i noted less same (λ j low one.
    let v = starts ns noted.thread found i less same in
    let w = starts ns noted.thread found j (omega arith) one in
    let is : i ≡ j = one_node ns noted.thread v.0 w.0 0 noted.thread i j v.1 w.1 in
    omega arith)

with_access_last : (ns : List Node) (noted : Noted) → ((j : ℕ) → j < length ns → thread_in ns j ≢ noted.thread) → notes_of ns ++ noted ∷ [] ≡ with_access noted (notes_of ns)
with_access_last [] noted absent = refl
with_access_last (n ∷ ns) noted absent =
    ap (λ (ms : List Noted). n.noted ∷ ms) (with_access_last ns noted (λ j low. absent (suc j) (omega arith)))
    ∙ sym (ap (λ (b : Bool). if b then noted ∷ notes_of ns else n.noted ∷ with_access noted (notes_of ns)) (ne_eqb n.noted.thread noted.thread (absent 0 (omega arith))))

notes_pushed : (ns : List Node) (n : Node) → notes_of (ns ++ n ∷ []) ≡ notes_of ns ++ n.noted ∷ []
notes_pushed [] n = refl
notes_pushed (m ∷ ns) n = ap (λ (ms : List Noted). m.noted ∷ ms) (notes_pushed ns n)

pub notes_added : (ns : List Node) (index : ℕ) (side : Bool) (noted : Noted) → IsEnd ns noted.thread index side → notes_of (added ns index side noted) ≡ with_access noted (notes_of ns)
notes_added ns index side noted end =
    notes_pushed (linked_in ns index side (length ns)) (fresh noted)
    ∙ ap (λ (ms : List Noted). ms ++ noted ∷ []) (linked_notes ns index side (length ns))
    ∙ with_access_last ns noted end.absent

pub mapped_notes : {Y : Type 0} (f : Noted → Y) (ns : List Node) → map (λ (n : Node). f n.noted) ns ≡ map f (notes_of ns)
mapped_notes f [] = refl
mapped_notes f (n ∷ ns) = ap (λ (ys : List _). f n.noted ∷ ys) (mapped_notes f ns)
