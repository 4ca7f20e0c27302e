-- The last object, a string, is removed again.
use Rattle.std.proofs.Common.{◌≡◌, ◌≢◌, ℕ, ◌+◌, ◌-◌, ◌<◌, Bool, true, false, cond, List, [], ◌∷◌, ◌++◌, length, take, map, slice_get, Option, Some, None, option_map, refl, sym, ap, subst, ◌∙◌, arith}
use Rattle.std.specs.List.{position_from}
use Rattle.std.specs.Option.{option_and_then, option_or}
use Rattle.std.proofs.lemmas.List.{length-append, length-map}
use Rattle.std.proofs.lemmas.Option.{none-some, same_Some}
use Rattle.jvms_program.specs.declared.program.Class.{Class}
use Rattle.jvms_file.specs.Names.{same_text}
use Rattle.jvms_machine.specs.State.{Object, text, is_text, is_class_object}
use Rattle.heap.specs.declared.stored_object.StoredObject.{StoredObject}
use Rattle.heap.specs.declared.stored_object.StoredObject.TheVariants as stored
use Rattle.heap.specs.Stored.{object_of, IsKept, AreStored}
use Rattle.text_index.specs.Lookup.{indexed_reference}
use Rattle.heap.specs.Objects.{Heap, units_of, with_new}
use Rattle.heap.proofs.Ends.{all_front, but_last, last_at, same_front}
use Rattle.text_index.proofs.IndexLaws.{same_here, same_is}
use Rattle.array_elements.proofs.Lists.{get_map}
use Rattle.heap.proofs.MakingLaws.{position_past, position_more, shown_more}

-- ---- The last object is a string

module _ (program : List Class) where
  abbrev pub last_units : List StoredObject → Option (List ℕ)
  last_units objects = option_and_then (λ o. units_of (object_of program o)) (slice_get objects (length objects - 1))

  text_there : (o : Option StoredObject) (units : List ℕ) → Some units ≡ option_and_then (λ x. units_of (object_of program x)) o → o ≡ Some (stored.Text units)
  text_there None units is = absurd (none-some units (sym is))
  text_there (Some (stored.Text t)) units is = ap (λ l. Some (stored.Text l)) (sym (same_Some units t is))
  text_there (Some (stored.Instance class values)) units is = absurd (none-some units (sym is))
  text_there (Some (stored.Array class elements)) units is = absurd (none-some units (sym is))
  text_there (Some (stored.ClassObject name)) units is = absurd (none-some units (sym is))

  -- So the other objects come before it.
  pub ends : (objects rest : List StoredObject) (units : List ℕ) (n : ℕ) → n ≡ length objects → rest ≡ take (n - 1) objects → Some units ≡ last_units objects → objects ≡ rest ++ stored.Text units ∷ []
  ends objects rest units n many is last = but_last objects rest (stored.Text units) n many is (text_there (slice_get objects (length objects - 1)) units last)

  -- If the objects end in a string, the last stored one is a string.
  pub is_there : (objects : List StoredObject) (before : List Object) (units : List ℕ) → map (object_of program) objects ≡ before ++ text units ∷ [] → None ≡ last_units objects → ⊥
  is_there objects before units is none = by (slice_get objects (length objects - 1)) shows none
    where
      many : length objects - 1 ≡ length (before ++ text units ∷ []) - 1
      many = ap (λ n. n - 1) (sym (length-map objects (object_of program)) ∙ ap length is)

      shows : option_map (object_of program) (slice_get objects (length objects - 1)) ≡ Some (text units)
      shows = sym (get_map (object_of program) objects (length objects - 1)) ∙ ap (λ l. slice_get l (length objects - 1)) is
          ∙ ap (λ n. slice_get (before ++ text units ∷ []) n) many ∙ last_at before (text units)

      by : (o : Option StoredObject) → option_map (object_of program) o ≡ Some (text units) → None ≡ option_and_then (λ x. units_of (object_of program x)) o → ⊥
      by None shows none = none-some (text units) shows
      by (Some o) shows none = none-some units (none ∙ ap units_of (same_Some (object_of program o) (text units) shows))

-- ---- Look-ups without it

-- A match is before the end.
found_within : (test : Object → Bool) (n r : ℕ) (xs : List Object) → position_from test n xs ≡ Some r → r < n + length xs
found_within test n r [] is = absurd (none-some r is)
found_within test n r (x ∷ xs) is = by (test x) is (λ more. found_within test (n + 1) r xs more)
  where
    by : (b : Bool) → cond b (Some n) (position_from test (n + 1) xs) ≡ Some r → (position_from test (n + 1) xs ≡ Some r → r < (n + 1) + length xs) → r < n + length (x ∷ xs)
    by true is more = let same = same_Some n r is in omega arith
    by false is more = let behind = more is in omega arith

or_none : (o : Option ℕ) → option_or o None ≡ o
or_none None = refl
or_none (Some r) = refl

module _ (program : List Class) (objects : List StoredObject) (texts new classes : List (List ℕ × ℕ)) (t : List ℕ) (are : AreStored program (objects ++ stored.Text t ∷ []) texts classes)
    (taken : indexed_reference texts t ≡ Some (length (objects ++ stored.Text t ∷ [])) → (q : List ℕ) → indexed_reference new q ≡ cond (same_text t q) None (indexed_reference texts q))
    (other : indexed_reference texts t ≢ Some (length (objects ++ stored.Text t ∷ [])) → new ≡ texts) where
  abbrev before : List ℕ → Option ℕ
  before q = position_from (is_text q) 1 (map (object_of program) objects)

  abbrev next : ℕ
  next = 1 + length (map (object_of program) objects)

  is_next : next ≡ length (objects ++ stored.Text t ∷ [])
  is_next = omega (arith, length-append objects (stored.Text t ∷ []), length-map objects (object_of program))

  found_was : (q : List ℕ) → indexed_reference texts q ≡ option_or (before q) (cond (same_text t q) (Some next) None)
  found_was q =
      are.finds_texts q ∙ ap (position_from (is_text q) 1) (shown_more program objects (stored.Text t))
      ∙ position_more (is_text q) 1 (map (object_of program) objects) (text t)

  found_itself : indexed_reference texts t ≡ option_or (before t) (Some next)
  found_itself = found_was t ∙ ap (λ b. option_or (before t) (cond b (Some next) None)) (same_here t)

  -- The text had no string before this one, or it had one.
  finds_by : (o : Option ℕ) → before t ≡ o → (q : List ℕ) → indexed_reference new q ≡ before q
  finds_by None none q = taken (found_itself ∙ ap (λ o. option_or o (Some next)) none ∙ ap (λ (n : ℕ). Some n) is_next) q ∙ ap (λ o. cond (same_text t q) None o) (found_was q) ∙ by (same_text t q) refl
    where
      by : (b : Bool) → same_text t q ≡ b → cond b None (option_or (before q) (cond b (Some next) None)) ≡ before q
      by true same = sym (ap before (sym (same_is t q same)) ∙ none)
      by false same = or_none (before q)
  finds_by (Some r) is q = ap (λ l. indexed_reference l q) (other apart) ∙ found_was q ∙ by (same_text t q) refl
    where
      there : indexed_reference texts t ≡ Some r
      there = found_itself ∙ ap (λ o. option_or o (Some next)) is

      apart : indexed_reference texts t ≢ Some (length (objects ++ stored.Text t ∷ []))
      apart same =
          let within = found_within (is_text t) 1 r (map (object_of program) objects) is in
          let e = same_Some r (length (objects ++ stored.Text t ∷ [])) (sym there ∙ same) in
          let m = is_next in
          omega arith

      by : (b : Bool) → same_text t q ≡ b → option_or (before q) (cond b (Some next) None) ≡ before q
      by true same = let it : before q ≡ Some r = ap before (sym (same_is t q same)) ∙ is in ap (λ o. option_or o (Some next)) it ∙ sym it
      by false same = or_none (before q)

  still_held : AreStored program objects new classes
  still_held =
      record {
        kept = all_front (IsKept program) objects (stored.Text t ∷ []) are.kept;
        finds_texts = finds_by (before t) refl;
        finds_classes =
            λ name. are.finds_classes name ∙ ap (position_from (is_class_object name) 1) (shown_more program objects (stored.Text t))
            ∙ position_past (is_class_object name) 1 (map (object_of program) objects) (text t) refl;
      }

pub held_without : (program : List Class) (objects rest : List StoredObject) (texts new classes : List (List ℕ × ℕ)) (t : List ℕ) (n : ℕ) → objects ≡ rest ++ stored.Text t ∷ [] → n ≡ length objects
    → AreStored program objects texts classes → (indexed_reference texts t ≡ Some n → (q : List ℕ) → indexed_reference new q ≡ cond (same_text t q) None (indexed_reference texts q)) → (indexed_reference texts t ≢ Some n → new ≡ texts)
    → AreStored program rest new classes
held_without program objects rest texts new classes t n ends many are taken other =
    let count : n ≡ length (rest ++ stored.Text t ∷ []) = many ∙ ap length ends in
    still_held program rest texts new classes t (subst (λ l. AreStored program l texts classes) ends are) (λ there. taken (there ∙ ap (λ (k : ℕ). Some k) (sym count)))
    (λ apart. other (λ there. apart (there ∙ ap (λ (k : ℕ). Some k) count)))

-- ---- The whole

pub seen_without : (program : List Class) (objects rest : List StoredObject) (o : StoredObject) (elements : ℕ) (before : Heap) (x : Object) → objects ≡ rest ++ o ∷ []
    → record { program = program; objects = map (object_of program) objects; elements = elements } ≡ with_new (x ∷ []) before
    → record { program = program; objects = map (object_of program) rest; elements = elements } ≡ before
seen_without program objects rest o elements before x ends is =
    let front : map (object_of program) rest ≡ before.objects =
    same_front (map (object_of program) rest) before.objects (object_of program o) x (sym (shown_more program rest o) ∙ ap (map (object_of program)) (sym ends) ∙ ap (λ (h : Heap). h.objects) is) in
    let same : program ≡ before.program = ap (λ (h : Heap). h.program) is in
    let count : elements ≡ before.elements = ap (λ (h : Heap). h.elements) is in
    ap (λ l. record { program = program; objects = l; elements = elements }) front ∙ ap (λ p. record { program = p; objects = before.objects; elements = elements }) same
    ∙ ap (λ n. record { program = before.program; objects = before.objects; elements = n }) count
