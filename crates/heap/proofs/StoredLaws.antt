-- The stored objects, by their references.
use Rattle.std.proofs.Common.{◌≡◌, ◌≢◌, ℕ, zero, suc, ◌+◌, ◌-◌, ◌<◌, ◌≤◌, Bool, cond, List, [], ◌∷◌, length, map, Option, Some, None, option_map, slice_get, slice_set, get_or, refl, sym, ap, subst, ◌∙◌, arith}
use Rattle.std.specs.Prelude.{option_copied, IfSome}
use Rattle.std.specs.Borrow.{Bor}
use Rattle.std.specs.List.{position_from}
use Rattle.std.proofs.lemmas.List.{length-map}
use Rattle.std.proofs.lemmas.Option.{none-some, same_Some, slice_get-get_or}
use Rattle.jvms_program.specs.declared.program.Class.{Class}
use Rattle.jvms_program.specs.declared.key.FieldKey.{FieldKey}
use Rattle.jvms_machine.specs.State.{Object, instance, instance_fields, keys, object_at, text_reference, class_reference, is_text, is_class_object}
use Rattle.jvms_machine.specs.Heap.{with_object}
use Rattle.jvms_machine.proofs.ListLaws.{all_set, all_at, option_map_some}
use Rattle.heap.specs.declared.stored_object.StoredObject.{StoredObject}
use Rattle.heap.specs.declared.stored_object.StoredObject.TheVariants as stored
use Rattle.heap.specs.Stored.{name_at, object_of, IsKept, Becomes, AreStored, AcceptsStored}
use Rattle.text_index.specs.Lookup.{indexed_reference}
use Rattle.array_elements.specs.Kinds.{IsOfKind}
use Rattle.heap.specs.Objects.{IfThere, Suits, instance_class}
use Rattle.jvms_machine.specs.declared.value.Value.{Value}
use Rattle.array_elements.proofs.Lists.{get_map, set_map}
use Rattle.heap.proofs.SlotLaws.{keys_kept}

pub as_many_shown : (program : List Class) (objects : List StoredObject) → length objects ≡ length (map (object_of program) objects)
as_many_shown program objects = sym (length-map objects (object_of program))

pub shown_at : (program : List Class) (objects : List StoredObject) (r place : ℕ) → r ≢ 0 → place ≡ r - 1 → option_map (object_of program) (slice_get objects place) ≡ object_at (map (object_of program) objects) r
shown_at program objects zero place other is = absurd (other refl)
shown_at program objects (suc r) place other is = let same : place ≡ r = omega (arith, is) in ap (λ i. option_map (object_of program) (slice_get objects i)) same ∙ sym (get_map (object_of program) objects r)

pub shown_of : (program : List Class) (objects : List StoredObject) (r place : ℕ) (o : Option (Bor StoredObject)) → r ≢ 0 → place ≡ r - 1 → option_copied o ≡ slice_get objects place
    → option_map (λ x. object_of program x.now) o ≡ object_at (map (object_of program) objects) r
shown_of program objects r place None other is at = ap (option_map (object_of program)) at ∙ shown_at program objects r place other is
shown_of program objects r place (Some o) other is at = ap (option_map (object_of program)) at ∙ shown_at program objects r place other is

pub kept_of : (program : List Class) (objects : List StoredObject) (texts classes : List (List ℕ × ℕ)) (place : ℕ) (o : Option (Bor StoredObject)) → AreStored program objects texts classes → option_copied o ≡ slice_get objects place
    → IfSome o (λ x. IsKept program x.now)
kept_of program objects texts classes place None are at = tt
kept_of program objects texts classes place (Some o) are at = all_at (IsKept program) objects place o.now (sym at) are.kept

pub text_found : (program : List Class) (objects : List StoredObject) (texts classes : List (List ℕ × ℕ)) (units : List ℕ) (o : Option ℕ) → AreStored program objects texts classes → o ≡ indexed_reference texts units
    → o ≡ text_reference (map (object_of program) objects) units
text_found program objects texts classes units o are is = is ∙ are.finds_texts units

pub class_found : (program : List Class) (objects : List StoredObject) (texts classes : List (List ℕ × ℕ)) (name : List ℕ) (o : Option ℕ) → AreStored program objects texts classes → o ≡ indexed_reference classes name
    → o ≡ class_reference (map (object_of program) objects) name
class_found program objects texts classes name o are is = is ∙ are.finds_classes name

-- ---- An object that is changed

-- A search gives the same result after an object is changed.
position_set : (program : List Class) (test : Object → Bool) (xs : List StoredObject) (i n : ℕ) (was now : StoredObject) → slice_get xs i ≡ Some was → test (object_of program now) ≡ test (object_of program was)
    → position_from test n (map (object_of program) (slice_set xs i now)) ≡ position_from test n (map (object_of program) xs)
position_set program test [] i n was now at same = refl
position_set program test (x ∷ xs) zero n was now at same =
    ap (λ b. cond b (Some n) (position_from test (n + 1) (map (object_of program) xs))) (same ∙ ap (λ o. test (object_of program o)) (sym (same_Some x was at)))
position_set program test (x ∷ xs) (suc i) n was now at same =
    ap (λ o. cond (test (object_of program x)) (Some n) o) (position_set program test xs i (n + 1) was now at same)

module _ (program : List Class) (objects : List StoredObject) (texts classes : List (List ℕ × ℕ)) (place : ℕ) (was now : StoredObject) (change : Object → Object)
    (are : AreStored program objects texts classes) (within : place < length objects) (is : was ≡ get_or objects place was) (becomes : IsKept program was → Becomes change program was now) where
  stands : slice_get objects place ≡ Some was
  stands = slice_get-get_or objects place was within ∙ ap (λ (o : StoredObject). Some o) (sym is)

  was_kept : IsKept program was
  was_kept = all_at (IsKept program) objects place was stands are.kept

  pub still_held : AreStored program (slice_set objects place now) texts classes
  still_held =
      let new = becomes was_kept in
      record {
        kept = all_set (IsKept program) objects place now new.kept are.kept;
        finds_texts = λ units. are.finds_texts units ∙ sym (position_set program (is_text units) objects place 1 was now stands (new.text_stays units));
        finds_classes = λ name. are.finds_classes name ∙ sym (position_set program (is_class_object name) objects place 1 was now stands (new.class_stays name));
      }

  pub changed : (r : ℕ) → r ≢ 0 → place ≡ r - 1 → map (object_of program) (slice_set objects place now) ≡ with_object (map (object_of program) objects) r change (object_at (map (object_of program) objects) r)
  changed r other at =
      let new = becomes was_kept in
      let heap = map (object_of program) objects in
      let it : object_at heap r ≡ Some (object_of program was) = sym (shown_at program objects r place other at) ∙ ap (option_map (object_of program)) stands in
      sym (set_map (object_of program) objects place now) ∙ ap (λ o. slice_set heap place o) new.shows ∙ ap (λ i. slice_set heap i (change (object_of program was))) at
      ∙ sym (ap (with_object heap r change) it)

  pub suits_held : (v : Value) (r : ℕ) → r ≢ 0 → place ≡ r - 1 → IfSome (object_at (map (object_of program) objects) r) (Suits v) → AcceptsStored v was
  suits_held v r other at suits =
      let it : object_at (map (object_of program) objects) r ≡ Some (object_of program was) = sym (shown_at program objects r place other at) ∙ ap (option_map (object_of program)) stands in
      by was was_kept (subst (λ o. IfSome o (Suits v)) it suits)
    where
      by : (o : StoredObject) → IsKept program o → Suits v (object_of program o) → AcceptsStored v o
      by (stored.Array class elements) kept suits = subst (λ k. IsOfKind k v) (sym kept.0) suits
      by (stored.Instance class values) kept suits = tt
      by (stored.Text units) kept suits = tt
      by (stored.ClassObject name) kept suits = tt

-- An object that is left as it is.
pub unchanged : (program : List Class) (o : StoredObject) → IsKept program o → Becomes (λ x. x) program o o
unchanged program o kept = record { shows = refl; kept = kept; text_stays = λ units. refl; class_stays = λ name. refl }

past_get : (xs : List StoredObject) (i : ℕ) → length xs ≤ i → slice_get xs i ≡ None
past_get [] i past = refl
past_get (x ∷ xs) zero past = absurd (omega (arith, past))
past_get (x ∷ xs) (suc i) past = past_get xs i (omega (arith, past))

-- No object is changed where there is none.
pub none_changed : (program : List Class) (objects : List StoredObject) (r : ℕ) (change : Object → Object) → length objects ≤ r - 1
    → map (object_of program) objects ≡ with_object (map (object_of program) objects) r change (object_at (map (object_of program) objects) r)
none_changed program objects zero change past = refl
none_changed program objects (suc r) change past =
    let none : slice_get objects r ≡ None = past_get objects r (omega (arith, past)) in
    sym (ap (with_object (map (object_of program) objects) (suc r) change) (get_map (object_of program) objects r ∙ ap (option_map (object_of program)) none))

-- ---- The fields of an instance

abbrev fields_in : Object → List (FieldKey × Value)
fields_in (instance class fields) = fields
fields_in _ = []

has_fields : (program : List Class) (o : StoredObject) (class : List ℕ) (fields : List (FieldKey × Value)) → object_of program o ≡ instance class fields → keys fields ≡ keys (instance_fields program class)
has_fields program (stored.Instance number values) class fields is =
    let class_is : name_at program number ≡ class = same_Some (name_at program number) class (ap instance_class is) in
    ap keys (sym (ap fields_in is)) ∙ keys_kept (instance_fields program (name_at program number)) values.items ∙ ap (λ n. keys (instance_fields program n)) class_is
has_fields program (stored.Array name elements) class fields is = absurd (none-some class (ap instance_class is))
has_fields program (stored.Text units) class fields is = absurd (none-some class (ap instance_class is))
has_fields program (stored.ClassObject name) class fields is = absurd (none-some class (ap instance_class is))

pub have_their_fields : (program : List Class) (objects : List StoredObject) (r : ℕ) (class : List ℕ) (fields : List (FieldKey × Value)) → object_at (map (object_of program) objects) r ≡ Some (instance class fields)
    → keys fields ≡ keys (instance_fields program class)
have_their_fields program objects zero class fields is = absurd (none-some (instance class fields) is)
have_their_fields program objects (suc r) class fields is =
    option_map_some (object_of program) (slice_get objects r) (instance class fields) (sym (get_map (object_of program) objects r) ∙ is) (λ o at shows. has_fields program o class fields shows)

-- A result about an object holds for the one of a reference.
pub holds_there : (objects : List Object) (r : ℕ) (Told : Value → Object → Type 0) (o : Object) (result : Option Value) → Some o ≡ object_at objects r → IfSome result (λ v. Told v o)
    → IfSome result (λ v. IfThere (Told v) (object_at objects r))
holds_there objects r Told o result there holds = subst (λ x. IfSome result (λ v. IfThere (Told v) x)) there holds
