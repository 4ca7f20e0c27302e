-- The strings of constants that have no object yet, listed and counted field by field.
use Rattle.std.proofs.Common.{◌≡◌, ℕ, ◌+◌, ◌<◌, Bool, true, false, cond, not, ◌&&◌, ◌||◌, List, [], ◌∷◌, ◌++◌, length, take, Option, Some, None, if◌then◌else◌, refl, sym, ap, ◌∙◌, get_or, add-one, add-zero}
use Rattle.std.proofs.Math.Seq.{take-suc}
use Rattle.std.proofs.lemmas.List.{append-nil, length-append}
use Rattle.std.specs.Prelude.{is_some}
use Rattle.std.specs.List.{list_any, position_from}
use Rattle.std.specs.Cmp.Lexicographic.{same_text as texts_are_same}
use Rattle.jvms_file.specs.Names.{same_text}
use Rattle.jvms_program.specs.declared.program.Field.{Field}
use Rattle.jvms_program.specs.declared.program.Loadable.{Loadable}
use Rattle.jvms_program.specs.declared.program.Loadable.TheVariants as loadable
use Rattle.jvms_machine.specs.State.{Object, text, is_text, text_reference}
use Rattle.jvms_machine.specs.Initialisation.{constants_of, new_texts}
use Rattle.jvms_program.specs.declared.key.FieldKey.{FieldKey}
use Rattle.jvms_program.specs.declared.program.Class.{Class}
use Rattle.jvms_machine.specs.declared.value.Value.{Value}
use Rattle.jvms_file.specs.declared.descriptor.FieldType.{FieldType}
use Rattle.jvms_machine.specs.Actions.{constant_value, with_constants}
use Rattle.machine_thread.specs.program.FieldTexts.{text_constant, constant_text, has_constant_text, is_not_among}
use Rattle.machine_parts.specs.Constants.{is_new, is_new_text, with_text, text_where, text_to_make, text_value}

-- ---- One more string

found_further : {X : Type 0} (p : X → Bool) (b : Bool) (i : ℕ) (xs : List X) (y : X) → is_some (position_from p (i + 1) (xs ++ y ∷ [])) ≡ (is_some (position_from p (i + 1) xs) || p y)
    → is_some (cond b (Some i) (position_from p (i + 1) (xs ++ y ∷ []))) ≡ (is_some (cond b (Some i) (position_from p (i + 1) xs)) || p y)
found_further p true i xs y more = refl
found_further p false i xs y more = more

found_last : (b : Bool) (i : ℕ) → is_some (cond b (Some i) None) ≡ b
found_last true i = refl
found_last false i = refl

found_with : {X : Type 0} (p : X → Bool) (i : ℕ) (xs : List X) (y : X) → is_some (position_from p i (xs ++ y ∷ [])) ≡ (is_some (position_from p i xs) || p y)
found_with p i [] y = found_last (p y) i
found_with p i (x ∷ xs) y = found_further p (p x) i xs y (found_with p (i + 1) xs y)

held_with : (heap : List Object) (v u : List ℕ) → is_some (text_reference (heap ++ text v ∷ []) u) ≡ (is_some (text_reference heap u) || same_text v u)
held_with heap v u = found_with (is_text u) 1 heap (text v)

-- ---- The first of some fields

-- Returns what a field's string adds, together with the strings of the constants after it.
abbrev texts_by : List Object → Option (List ℕ) → List Loadable → List (List ℕ)
texts_by heap None constants = new_texts heap constants
texts_by heap (Some units) constants =
    if is_some (text_reference heap units) then new_texts heap constants else units ∷ new_texts (heap ++ text units ∷ []) constants

first_by : (heap : List Object) (f : Field) (fields : List Field) (b : Bool) (o : Option Loadable) → f.is_static ≡ b → f.constant ≡ o
    → new_texts heap (constants_of (f ∷ fields)) ≡ texts_by heap (text_constant b o) (constants_of fields)
first_by heap f fields false o is given = rw is refl
first_by heap f fields true None is given = rw is (rw given refl)
first_by heap f fields true (Some (loadable.Integer n)) is given = rw is (rw given refl)
first_by heap f fields true (Some (loadable.Float n)) is given = rw is (rw given refl)
first_by heap f fields true (Some (loadable.Long n)) is given = rw is (rw given refl)
first_by heap f fields true (Some (loadable.Double n)) is given = rw is (rw given refl)
first_by heap f fields true (Some (loadable.String units)) is given = rw is (rw given refl)
first_by heap f fields true (Some (loadable.Class name)) is given = rw is (rw given refl)

first_texts : (heap : List Object) (f : Field) (fields : List Field) → new_texts heap (constants_of (f ∷ fields)) ≡ texts_by heap (constant_text f) (constants_of fields)
first_texts heap f fields = first_by heap f fields f.is_static f.constant refl refl

-- ---- One more field

abbrev texts : List Object → List Field → List (List ℕ)
texts heap fields = new_texts heap (constants_of fields)

-- Returns what a field adds, where its string is new or not.
abbrev pub new_of : Bool → Option (List ℕ) → List (List ℕ)
new_of true (Some units) = units ∷ []
new_of _ _ = []

abbrev one_if : Bool → ℕ
one_if b = if b then 1 else 0

text_alone : (heap : List Object) (o : Option (List ℕ)) → texts_by heap o [] ≡ new_of (is_new heap [] o) o
text_alone heap None = refl
text_alone heap (Some units) = by (is_some (text_reference heap units)) units
  where
    by : (b : Bool) (units : List ℕ) → (if b then [] else units ∷ []) ≡ new_of (not b && true) (Some units)
    by true units = refl
    by false units = refl

-- A string that exists, or that an earlier field has, is not new.
new_behind_held : (heap : List Object) (v : List ℕ) (rest : List Field) (o : Option (List ℕ)) (g : Field) → constant_text g ≡ Some v → is_some (text_reference heap v) ≡ true
    → is_new heap (g ∷ rest) o ≡ is_new heap rest o
new_behind_held heap v rest None g is held = refl
new_behind_held heap v rest (Some u) g is held = rw is (by (same_text v u) (is_some (text_reference heap u)) (list_any (has_constant_text u) rest) (λ same. ap (λ w. is_some (text_reference heap w)) (sym (texts_are_same v u (sym same))) ∙ held))
  where
    by : (same there before : Bool) → (same ≡ true → there ≡ true) → (not there && not (same || before)) ≡ (not there && not before)
    by false there before so = refl
    by true there before so = rw (so refl) refl

new_behind_new : (heap : List Object) (v : List ℕ) (rest : List Field) (o : Option (List ℕ)) (g : Field) → constant_text g ≡ Some v
    → is_new heap (g ∷ rest) o ≡ is_new (heap ++ text v ∷ []) rest o
new_behind_new heap v rest None g is = refl
new_behind_new heap v rest (Some u) g is = rw is (rw (held_with heap v u) (by (is_some (text_reference heap u)) (same_text v u) (list_any (has_constant_text u) rest)))
  where
    by : (there same before : Bool) → (not there && not (same || before)) ≡ (not (there || same) && not before)
    by true same before = refl
    by false true before = refl
    by false false before = refl

new_behind_none : (heap : List Object) (rest : List Field) (o : Option (List ℕ)) (g : Field) → constant_text g ≡ None → is_new heap (g ∷ rest) o ≡ is_new heap rest o
new_behind_none heap rest None g is = refl
new_behind_none heap rest (Some u) g is = rw is refl

module _ (f : Field) where
  abbrev added : List Object → List Field → List (List ℕ)
  added heap before = new_of (is_new_text heap before f) (constant_text f)

  more_held : (heap : List Object) (v : List ℕ) (g : Field) (rest : List Field) (b : Bool) → constant_text g ≡ Some v → is_some (text_reference heap v) ≡ b
      → ((h : List Object) → texts h (rest ++ f ∷ []) ≡ texts h rest ++ added h rest)
      → (if b then texts heap (rest ++ f ∷ []) else v ∷ texts (heap ++ text v ∷ []) (rest ++ f ∷ []))
      ≡ (if b then texts heap rest else v ∷ texts (heap ++ text v ∷ []) rest) ++ added heap (g ∷ rest)
  more_held heap v g rest true is held more = more heap ∙ ap (λ b. texts heap rest ++ new_of b (constant_text f)) (sym (new_behind_held heap v rest (constant_text f) g is held))
  more_held heap v g rest false is held more =
      ap (λ l. v ∷ l) (more (heap ++ text v ∷ []))
      ∙ ap (λ b. v ∷ (texts (heap ++ text v ∷ []) rest ++ new_of b (constant_text f))) (sym (new_behind_new heap v rest (constant_text f) g is))

  more_by : (heap : List Object) (g : Field) (rest : List Field) (o : Option (List ℕ)) → constant_text g ≡ o
      → ((h : List Object) → texts h (rest ++ f ∷ []) ≡ texts h rest ++ added h rest)
      → texts_by heap o (constants_of (rest ++ f ∷ [])) ≡ texts_by heap o (constants_of rest) ++ added heap (g ∷ rest)
  more_by heap g rest None is more = more heap ∙ ap (λ b. texts heap rest ++ new_of b (constant_text f)) (sym (new_behind_none heap rest (constant_text f) g is))
  more_by heap g rest (Some v) is more = more_held heap v g rest (is_some (text_reference heap v)) is refl more

  one_more : (heap : List Object) (before : List Field) → texts heap (before ++ f ∷ []) ≡ texts heap before ++ added heap before
  one_more heap [] = first_texts heap f [] ∙ text_alone heap (constant_text f)
  one_more heap (g ∷ rest) =
      first_texts heap g (rest ++ f ∷ []) ∙ more_by heap g rest (constant_text g) refl (λ h. one_more h rest)
      ∙ ap (λ l. l ++ added heap (g ∷ rest)) (sym (first_texts heap g rest))

-- The strings of the first i fields and of one more.
pub texts_further : (heap : List Object) (fields : List Field) (i : ℕ) (f : Field) → i < length fields → f ≡ get_or fields i f
    → texts heap (take (i + 1) fields) ≡ texts heap (take i fields) ++ new_of (is_new_text heap (take i fields) f) (constant_text f)
texts_further heap fields i f within there =
    let further : take (i + 1) fields ≡ take i fields ++ f ∷ [] =
    ap (λ k. take k fields) (add-one i) ∙ take-suc fields i f within ∙ ap (λ g. take i fields ++ g ∷ []) (sym there) in
    ap (texts heap) further ∙ one_more f heap (take i fields)

-- A string that has no object yet is new if the field is the first with it.
pub new_if_first : (heap : List Object) (before : List Field) (f : Field) (units : List ℕ) (exists first : Bool) → Some units ≡ constant_text f → exists ≡ is_some (text_reference heap units) → exists ≡ false
    → first ≡ is_not_among before (constant_text f) → first ≡ is_new_text heap before f
new_if_first heap before f units exists first some there new is =
    is ∙ ap (is_not_among before) (sym some) ∙ sym (ap (λ b. b && is_not_among before (Some units)) (ap not (sym there ∙ new))) ∙ ap (is_new heap before) some

-- A string that has an object isn't new.
pub not_new : (heap : List Object) (before : List Field) (f : Field) (units : List ℕ) (exists : Bool) → Some units ≡ constant_text f → exists ≡ is_some (text_reference heap units) → exists ≡ true
    → not exists ≡ is_new_text heap before f
not_new heap before f units exists some there old =
    ap not old ∙ sym (ap (λ b. b && is_not_among before (Some units)) (ap not (sym there ∙ old))) ∙ ap (is_new heap before) some

-- ---- The number of strings

-- A field without a string adds none.
never_new : (heap : List Object) (before : List Field) (o : Option (List ℕ)) → length (new_of (is_new heap before o) o) ≡ one_if (is_new heap before o)
never_new heap before None = refl
never_new heap before (Some units) = by (is_new heap before (Some units))
  where
    by : (b : Bool) → length (new_of b (Some units)) ≡ one_if b
    by true = refl
    by false = refl

next_by : (heap : List Object) (fields : List Field) (i n : ℕ) (f : Field) (new : Bool) → i < length fields → f ≡ get_or fields i f → n ≡ length (texts heap (take i fields)) → new ≡ is_new_text heap (take i fields) f
    → n + one_if new ≡ length (texts heap (take (i + 1) fields))
next_by heap fields i n f new within there so_far is =
    let before = take i fields in
    ap (λ k. k + one_if new) so_far ∙ ap (λ b. length (texts heap before) + one_if b) is
    ∙ ap (λ k. length (texts heap before) + k) (sym (never_new heap before (constant_text f)))
    ∙ sym (length-append (texts heap before) (new_of (is_new_text heap before f) (constant_text f)))
    ∙ ap length (sym (texts_further heap fields i f within there))

pub counted_new : (heap : List Object) (fields : List Field) (i n m : ℕ) (f : Field) (new : Bool) → i < length fields → f ≡ get_or fields i f → n ≡ length (texts heap (take i fields)) → new ≡ is_new_text heap (take i fields) f
    → new ≡ true → m ≡ n + 1 → m ≡ length (texts heap (take (i + 1) fields))
counted_new heap fields i n m f new within there so_far is was one = one ∙ ap (λ b. n + one_if b) (sym was) ∙ next_by heap fields i n f new within there so_far is

pub counted_old : (heap : List Object) (fields : List Field) (i n m : ℕ) (f : Field) (new : Bool) → i < length fields → f ≡ get_or fields i f → n ≡ length (texts heap (take i fields)) → new ≡ is_new_text heap (take i fields) f
    → new ≡ false → m ≡ n → m ≡ length (texts heap (take (i + 1) fields))
counted_old heap fields i n m f new within there so_far is was none = none ∙ sym (add-zero n) ∙ ap (λ b. n + one_if b) (sym was) ∙ next_by heap fields i n f new within there so_far is

-- The string that a field adds is appended to those before it.
added_behind : (xs : List (List ℕ)) (new : Bool) (o : Option (List ℕ)) → with_text xs (text_where new o) ≡ xs ++ new_of new o
added_behind xs true (Some units) = refl
added_behind xs true None = sym (append-nil xs)
added_behind xs false o = sym (append-nil xs)

pub texts_behind : (heap : List Object) (fields : List Field) (i : ℕ) (xs ys : List (List ℕ)) (f : Field) → i < length fields → f ≡ get_or fields i f → xs ≡ texts heap (take i fields)
    → ys ≡ with_text xs (text_to_make heap (take i fields) f) → ys ≡ texts heap (take (i + 1) fields)
texts_behind heap fields i xs ys f within there so_far is =
    is ∙ ap (λ l. with_text l (text_to_make heap (take i fields) f)) so_far
    ∙ added_behind (texts heap (take i fields)) (is_new_text heap (take i fields) f) (constant_text f) ∙ sym (texts_further heap fields i f within there)

-- ---- Stored constants

constants_of_more : (heap : List Object) (c : Class) (fields : List Field) (f : Field) (statics : List (FieldKey × Value)) → with_constants heap c (fields ++ f ∷ []) statics ≡ with_constants heap c (f ∷ []) (with_constants heap c fields statics)
constants_of_more heap c [] f statics = refl
constants_of_more heap c (g ∷ fields) f statics = constants_of_more heap c fields f (with_constants heap c (g ∷ []) statics)

-- The constants of the first i fields and of one more.
pub constants_further : (heap : List Object) (c : Class) (fields : List Field) (i : ℕ) (f : Field) (statics : List (FieldKey × Value)) → i < length fields → f ≡ get_or fields i f
    → with_constants heap c (f ∷ []) (with_constants heap c (take i fields) statics) ≡ with_constants heap c (take (i + 1) fields) statics
constants_further heap c fields i f statics within there =
    sym (constants_of_more heap c (take i fields) f statics)
    ∙ ap (λ l. with_constants heap c l statics) (sym (ap (λ k. take k fields) (add-one i) ∙ take-suc fields i f within ∙ ap (λ g. take i fields ++ g ∷ []) (sym there)))

-- The value of a string.
text_valued : (o : Option ℕ) (heap : List Object) (t : FieldType) (units : List ℕ) → text_reference heap units ≡ o → text_value o ≡ constant_value heap t (loadable.String units)
text_valued None heap t units is = rw is refl
text_valued (Some r) heap t units is = rw is refl

pub constant_of_text : (heap : List Object) (t : FieldType) (units : List ℕ) (v : Value) → v ≡ text_value (text_reference heap units) → v ≡ constant_value heap t (loadable.String units)
constant_of_text heap t units v is = is ∙ text_valued (text_reference heap units) heap t units refl
