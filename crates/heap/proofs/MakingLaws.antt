-- Objects that are appended.
use Rattle.std.proofs.Common.{◌≡◌, ℕ, ◌+◌, Bool, true, false, cond, List, [], ◌∷◌, ◌++◌, length, map, Option, Some, None, refl, sym, ap, ◌∙◌, arith, Vec, Global}
use Rattle.jvms_machine.specs.declared.value.Value.{Value}
use Rattle.std.specs.List.{position_from}
use Rattle.std.specs.Option.{option_or}
use Rattle.std.proofs.lemmas.List.{length-map, map-append}
use Rattle.jvms_program.specs.declared.program.Class.{Class}
use Rattle.jvms_file.specs.Names.{same_text}
use Rattle.jvms_machine.specs.State.{Object, instance, instance_fields, first_instance, is_text, is_class_object}
use Rattle.jvms_machine.proofs.ListLaws.{all_append}
use Rattle.heap.specs.declared.stored_object.StoredObject.{StoredObject}
use Rattle.heap.specs.declared.stored_object.StoredObject.TheVariants as stored
use Rattle.heap.specs.Stored.{name_at, with_values, object_of, IsKept, IsPlain, AreStored}
use Rattle.text_index.specs.Lookup.{indexed_reference}
use Rattle.heap.proofs.SlotLaws.{first_values_are}

-- ---- Searches

pub position_past : (test : Object → Bool) (n : ℕ) (xs : List Object) (x : Object) → test x ≡ false → position_from test n (xs ++ x ∷ []) ≡ position_from test n xs
position_past test n [] x fails = ap (λ b. cond b (Some n) None) fails
position_past test n (y ∷ xs) x fails = ap (λ o. cond (test y) (Some n) o) (position_past test (n + 1) xs x fails)

more_by : (b : Bool) (n : ℕ) (o rest last : Option ℕ) → rest ≡ option_or o last → cond b (Some n) rest ≡ option_or (cond b (Some n) o) last
more_by true n o rest last is = refl
more_by false n o rest last is = is

-- The first match is the same after one more object is appended. Without a match the new object is tested.
pub position_more : (test : Object → Bool) (n : ℕ) (xs : List Object) (x : Object) → position_from test n (xs ++ x ∷ []) ≡ option_or (position_from test n xs) (cond (test x) (Some (n + length xs)) None)
position_more test n [] x = ap (λ k. cond (test x) (Some k) None) (omega arith)
position_more test n (y ∷ xs) x =
    let at : (n + 1) + length xs ≡ n + length (y ∷ xs) = omega arith in
    more_by (test y) n (position_from test (n + 1) xs) (position_from test (n + 1) (xs ++ x ∷ [])) (cond (test x) (Some (n + length (y ∷ xs))) None)
    (position_more test (n + 1) xs x ∙ ap (λ k. option_or (position_from test (n + 1) xs) (cond (test x) (Some k) None)) at)

-- ---- An instance or an array

plain_no_text : (program : List Class) (o : StoredObject) (units : List ℕ) → IsPlain o → is_text units (object_of program o) ≡ false
plain_no_text program (stored.Instance class values) units plain = refl
plain_no_text program (stored.Array class elements) units plain = refl
plain_no_text program (stored.Text t) units plain = absurd plain
plain_no_text program (stored.ClassObject t) units plain = absurd plain

plain_no_class : (program : List Class) (o : StoredObject) (name : List ℕ) → IsPlain o → is_class_object name (object_of program o) ≡ false
plain_no_class program (stored.Instance class values) name plain = refl
plain_no_class program (stored.Array class elements) name plain = refl
plain_no_class program (stored.Text t) name plain = absurd plain
plain_no_class program (stored.ClassObject t) name plain = absurd plain

module _ (program : List Class) (objects : List StoredObject) where
  pub shown_more : (o : StoredObject) → map (object_of program) (objects ++ o ∷ []) ≡ map (object_of program) objects ++ object_of program o ∷ []
  shown_more o = map-append (object_of program) objects (o ∷ [])

  still_past : (test : Object → Bool) (o : StoredObject) → test (object_of program o) ≡ false → position_from test 1 (map (object_of program) objects) ≡ position_from test 1 (map (object_of program) (objects ++ o ∷ []))
  still_past test o fails = sym (ap (position_from test 1) (shown_more o) ∙ position_past test 1 (map (object_of program) objects) (object_of program o) fails)

  pub plain_added : (texts classes : List (List ℕ × ℕ)) (o : StoredObject) → AreStored program objects texts classes → IsKept program o → IsPlain o → AreStored program (objects ++ o ∷ []) texts classes
  plain_added texts classes o are kept plain =
      record {
        kept = all_append (IsKept program) objects (o ∷ []) are.kept (kept, tt);
        finds_texts = λ units. are.finds_texts units ∙ still_past (is_text units) o (plain_no_text program o units plain);
        finds_classes = λ name. are.finds_classes name ∙ still_past (is_class_object name) o (plain_no_class program o name plain);
      }

  -- ---- A string or a class object

  found_more : (test : List ℕ → Object → Bool) (entries new : List (List ℕ × ℕ)) (units : List ℕ) (o : StoredObject) → ((q : List ℕ) → indexed_reference entries q ≡ position_from (test q) 1 (map (object_of program) objects))
      → ((q : List ℕ) → test q (object_of program o) ≡ same_text units q) → ((q : List ℕ) → indexed_reference new q ≡ option_or (indexed_reference entries q) (cond (same_text units q) (Some (length objects + 1)) None))
      → (q : List ℕ) → indexed_reference new q ≡ position_from (test q) 1 (map (object_of program) (objects ++ o ∷ []))
  found_more test entries new units o finds tests puts q =
      let as_many = length-map objects (object_of program) in
      let next : length objects + 1 ≡ 1 + length (map (object_of program) objects) = omega (arith, as_many) in
      let before = position_from (test q) 1 (map (object_of program) objects) in
      puts q ∙ ap (λ f. option_or f (cond (same_text units q) (Some (length objects + 1)) None)) (finds q)
      ∙ ap (λ b. option_or before (cond b (Some (length objects + 1)) None)) (sym (tests q)) ∙ ap (λ k. option_or before (cond (test q (object_of program o)) (Some k) None)) next
      ∙ sym (position_more (test q) 1 (map (object_of program) objects) (object_of program o)) ∙ ap (position_from (test q) 1) (sym (shown_more o))

  pub text_added : (texts new classes : List (List ℕ × ℕ)) (units t : List ℕ) → AreStored program objects texts classes → t ≡ units
      → ((q : List ℕ) → indexed_reference new q ≡ option_or (indexed_reference texts q) (cond (same_text units q) (Some (length objects + 1)) None)) → AreStored program (objects ++ stored.Text t ∷ []) new classes
  text_added texts new classes units t are is puts =
      record {
        kept = all_append (IsKept program) objects (stored.Text t ∷ []) are.kept (tt, tt);
        finds_texts = found_more is_text texts new units (stored.Text t) are.finds_texts (λ q. ap (λ l. same_text l q) is) puts;
        finds_classes = λ name. are.finds_classes name ∙ still_past (is_class_object name) (stored.Text t) refl;
      }

  pub class_added : (texts classes new : List (List ℕ × ℕ)) (name t : List ℕ) → AreStored program objects texts classes → t ≡ name
      → ((q : List ℕ) → indexed_reference new q ≡ option_or (indexed_reference classes q) (cond (same_text name q) (Some (length objects + 1)) None)) → AreStored program (objects ++ stored.ClassObject t ∷ []) texts new
  class_added texts classes new name t are is puts =
      record {
        kept = all_append (IsKept program) objects (stored.ClassObject t ∷ []) are.kept (tt, tt);
        finds_texts = λ units. are.finds_texts units ∙ still_past (is_text units) (stored.ClassObject t) refl;
        finds_classes = found_more is_class_object classes new name (stored.ClassObject t) are.finds_classes (λ q. ap (λ l. same_text l q) is) puts;
      }

-- An instance with the first values denotes a first instance.
pub first_shown : (program : List Class) (class : ℕ) (values : Vec Value Global) → values.items ≡ map (λ f. f.1) (instance_fields program (name_at program class))
    → object_of program (stored.Instance class values) ≡ first_instance program (name_at program class)
first_shown program class values are =
    let fields = instance_fields program (name_at program class) in
    ap (instance (name_at program class)) (ap (with_values fields) are ∙ first_values_are fields)
