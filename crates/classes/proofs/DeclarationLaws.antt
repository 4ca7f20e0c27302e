-- The names and descriptors that classes declare.
use Rattle.std.proofs.Common.{◌≡◌, ℕ, ◌+◌, Bool, true, false, not, cond, ◌&&◌, ◌||◌, nat_lt, suc, List, [], ◌∷◌, ◌++◌, length, map, Option, Some, None, is_some, refl, sym, ap, ◌∙◌, subst, arith}
use Rattle.std.specs.Borrow.{Bor}
use Rattle.std.specs.BTreeSet.{BTreeSet, contains}
use Rattle.std.specs.List.{AllByRecursion, find, flat_map, list_any, position, position_or_len}
use Rattle.std.specs.Option.{option_and_then}
use Rattle.std.specs.Ordering.{is_eq}
use Rattle.std.specs.Cmp.Lexicographic.{same_text as texts_are_same}
use Rattle.std.proofs.lemmas.Bool.{and_parts, false≢true}
use Rattle.std.proofs.lemmas.Bool.Decides.{nat_tests}
use Rattle.std.proofs.lemmas.Option.{none-some}
use Rattle.std.proofs.lemmas.List.Folds.{list_any-append}
use Rattle.jvms_file.specs.Names.{same_text}
use Rattle.jvms_program.specs.declared.program.Class.{Class}
use Rattle.jvms_program.specs.declared.program.Field.{Field}
use Rattle.jvms_program.specs.declared.program.Method.{Method}
use Rattle.jvms_program.specs.declared.program.FieldReference.{FieldReference}
use Rattle.jvms_program.specs.MemberOrders.{is_named}
use Rattle.jvms_program.specs.Program.{class_named}
use Rattle.jvms_program.specs.Resolution.{ancestry, declared_field, declared_method, first_in, members_class, reference_field}
use Rattle.jvms_program.proofs.MemberOrderLaws.{same_names}
use Rattle.classes.specs.declared.declarations.DeclaredNames.{DeclaredNames}
use Rattle.classes.specs.Declarations.{Adds, AreSeen, AreThoseOf, HasNoField, HasNoMethod, borrowed_cmp, field_names, fields_of, is_among, method_names, methods_of, names_of}
use Rattle.classes.proofs.PlaceLaws.{IsNamed, ancestry_named}

-- ---- A collection

or_true : (b : Bool) → (b || true) ≡ true
or_true true = refl
or_true false = refl

or_false : (b : Bool) → (b || false) ≡ b
or_false true = refl
or_false false = refl

or_parts : (a b : Bool) → (a || b) ≡ false → (a ≡ false) × (b ≡ false)
or_parts true b none = absurd (false≢true (sym none))
or_parts false b none = (refl, none)

or_assoc : (a b c : Bool) → ((a || b) || c) ≡ (a || (b || c))
or_assoc true b c = refl
or_assoc false b c = refl

abbrev of_borrowed : Bor (List ℕ) × Bor (List ℕ) → DeclaredNames
of_borrowed names = record { name = names.0.now; descriptor = names.1.now }

-- What is there is added without a change.
there_by : (declared : List DeclaredNames) (d : DeclaredNames) (name descriptor : List ℕ) (b : Bool) → is_named names_of name descriptor d ≡ b
    → is_among declared d.name d.descriptor ≡ true
    → is_among declared name descriptor ≡ (is_among declared name descriptor || (b || false))
there_by declared d name descriptor false test there = sym (or_false (is_among declared name descriptor))
there_by declared d name descriptor true test there =
    let parts = and_parts (same_text d.name name) (same_text d.descriptor descriptor) test in
    let name_is = texts_are_same d.name name (sym parts.0) in
    let descriptor_is = texts_are_same d.descriptor descriptor (sym parts.1) in
    subst (λ (n : List ℕ). is_among declared n descriptor ≡ true) name_is (subst (λ (x : List ℕ). is_among declared d.name x ≡ true) descriptor_is there)
    ∙ sym (or_true (is_among declared name descriptor))

pub there : (declared : List DeclaredNames) (seen : BTreeSet (Bor (List ℕ) × Bor (List ℕ))) (names : Bor (List ℕ) × Bor (List ℕ)) → AreSeen declared seen
    → contains borrowed_cmp seen names ≡ true → Adds declared (of_borrowed names ∷ []) declared
there declared seen names are is = record {
  each = λ name descriptor. there_by declared (of_borrowed names) name descriptor _ refl (are.each names is);
}

pub pushed : (declared : List DeclaredNames) (d : DeclaredNames) → Adds declared (d ∷ []) (declared ++ d ∷ [])
pushed declared d = record { each = λ name descriptor. list_any-append (is_named names_of name descriptor) declared (d ∷ []) }

is_kept : (declared : List DeclaredNames) (d : DeclaredNames) (name descriptor : List ℕ) → is_among declared name descriptor ≡ true → is_among (declared ++ d ∷ []) name descriptor ≡ true
is_kept declared d name descriptor is =
    list_any-append (is_named names_of name descriptor) declared (d ∷ []) ∙ ap (λ b. b || (is_named names_of name descriptor d || false)) is

pub still_seen : (declared : List DeclaredNames) (d : DeclaredNames) (seen : BTreeSet (Bor (List ℕ) × Bor (List ℕ))) → AreSeen declared seen → AreSeen (declared ++ d ∷ []) seen
still_seen declared d seen are = record { each = λ names is. is_kept declared d names.0.now names.1.now (are.each names is) }

pub none_seen : (declared : List DeclaredNames) (seen : BTreeSet (Bor (List ℕ) × Bor (List ℕ))) → seen.keys ≡ [] → AreSeen declared seen
none_seen declared seen none = record { each = λ names is. absurd (false≢true (rw none at is)) }

-- One more is seen, and it is the last that is declared.
module _ (declared : List DeclaredNames) (names : Bor (List ℕ) × Bor (List ℕ)) (old new : BTreeSet (Bor (List ℕ) × Bor (List ℕ)))
    (put : (q : Bor (List ℕ) × Bor (List ℕ)) → contains borrowed_cmp new q ≡ cond (is_eq (borrowed_cmp names q)) true (contains borrowed_cmp old q))
    (are : AreSeen declared old) where
  among_by : (q : Bor (List ℕ) × Bor (List ℕ)) (b : Bool) → is_eq (borrowed_cmp names q) ≡ b → cond b true (contains borrowed_cmp old q) ≡ true
      → is_among (declared ++ of_borrowed names ∷ []) q.0.now q.1.now ≡ true
  among_by q true same is =
      list_any-append (is_named names_of q.0.now q.1.now) declared (of_borrowed names ∷ [])
      ∙ ap (λ b. is_among declared q.0.now q.1.now || (b || false)) (sym (same_names (names.0.now, names.1.now) q.0.now q.1.now) ∙ same)
      ∙ or_true (is_among declared q.0.now q.1.now)
  among_by q false other is = is_kept declared (of_borrowed names) q.0.now q.1.now (are.each q is)

  pub one_seen : AreSeen (declared ++ of_borrowed names ∷ []) new
  one_seen = record { each = λ q is. among_by q _ refl (sym (put q) ∙ is) }

-- ---- Members one after another

pub none_added : (declared : List DeclaredNames) → Adds declared [] declared
none_added declared = record { each = λ name descriptor. sym (or_false (is_among declared name descriptor)) }

pub added_on : (old mid new more others : List DeclaredNames) → Adds old more mid → Adds mid others new → Adds old (more ++ others) new
added_on old mid new more others first second = record {
  each = λ name descriptor.
      second.each name descriptor
      ∙ ap (λ b. b || is_among others name descriptor) (first.each name descriptor)
      ∙ or_assoc (is_among old name descriptor) (is_among more name descriptor) (is_among others name descriptor)
      ∙ ap (λ b. is_among old name descriptor || b) (sym (list_any-append (is_named names_of name descriptor) more others));
}

-- ---- A member that none declares

pub is_none : (o : Option ℕ) (b : Bool) → b ≡ is_some o → b ≡ false → o ≡ None
is_none None b is none = refl
is_none (Some n) b is none = absurd (false≢true (sym none ∙ is))

nearer : (i n : ℕ) → cond (nat_lt (1 + i) (suc n)) (Some (1 + i)) None ≡ None → cond (nat_lt i n) (Some i) None ≡ None
nearer i n none = grind (arith, nat_tests)

abbrev first_by : Bool → ℕ → ℕ → Option ℕ
first_by b i n = let at = cond (not b) (1 + i) 0 in cond (nat_lt at (suc n)) (Some at) None

no_first : (n : ℕ) → cond {A = Option ℕ} (nat_lt 0 (suc n)) (Some 0) None ≡ None → ⊥
no_first n none = let e : nat_lt 0 (suc n) ≡ true = grind (arith, nat_tests) in none-some 0 (sym (rw e at none))

no_position_by : {X : Type 0} (p : X → Bool) (x : X) (xs : List X) (b : Bool) → p x ≡ b → (position p xs ≡ None → list_any p xs ≡ false)
    → position p (x ∷ xs) ≡ None → list_any p (x ∷ xs) ≡ false
no_position_by p x xs true is others none = absurd (no_first (length xs) (ap (λ b. first_by b (position_or_len p xs) (length xs)) (sym is) ∙ none))
no_position_by p x xs false is others none = rw is (others (nearer (position_or_len p xs) (length xs) (rw is at none)))

no_position : {X : Type 0} (p : X → Bool) (xs : List X) → position p xs ≡ None → list_any p xs ≡ false
no_position p [] none = refl
no_position p (x ∷ xs) none = no_position_by p x xs (p x) refl (no_position p xs) none

unlisted : (name descriptor : List ℕ) (declared : List DeclaredNames) → position (is_named names_of name descriptor) declared ≡ None → is_among declared name descriptor ≡ false
unlisted name descriptor declared none = no_position (is_named names_of name descriptor) declared none

no_field_in : (name descriptor : List ℕ) (fields : List Field) → is_among (map field_names fields) name descriptor ≡ false
    → find (λ f. same_text f.name name && same_text f.descriptor descriptor) fields ≡ None
no_field_in name descriptor [] none = refl
no_field_in name descriptor (f ∷ fields) none =
    let parts = or_parts (same_text f.name name && same_text f.descriptor descriptor) (is_among (map field_names fields) name descriptor) none in
    rw parts.0 (no_field_in name descriptor fields parts.1)

no_method_in : (name descriptor : List ℕ) (methods : List Method) → is_among (map method_names methods) name descriptor ≡ false
    → find (λ m. same_text m.name name && same_text m.descriptor descriptor) methods ≡ None
no_method_in name descriptor [] none = refl
no_method_in name descriptor (m ∷ methods) none =
    let parts = or_parts (same_text m.name name && same_text m.descriptor descriptor) (is_among (map method_names methods) name descriptor) none in
    rw parts.0 (no_method_in name descriptor methods parts.1)

-- The class of a name declares no member that none of these classes declares.
module _ {A : Type 0} (declared_in : Class → Option A) (names_in : Class → List DeclaredNames) (name descriptor : List ℕ)
    (none_in : (c : Class) → is_among (names_in c) name descriptor ≡ false → declared_in c ≡ None) where
  class_by : (class : List ℕ) (c : Class) (classes : List Class) (b : Bool) → same_text c.name class ≡ b → declared_in c ≡ None
      → option_and_then declared_in (class_named classes class) ≡ None → option_and_then declared_in (class_named (c ∷ classes) class) ≡ None
  class_by class c classes true is here others = rw is here
  class_by class c classes false is here others = rw is others

  none_of : (class : List ℕ) (classes : List Class) → is_among (flat_map names_in classes) name descriptor ≡ false
      → option_and_then declared_in (class_named classes class) ≡ None
  none_of class [] none = refl
  none_of class (c ∷ classes) none =
      let parts = or_parts (is_among (names_in c) name descriptor) (is_among (flat_map names_in classes) name descriptor)
      (sym (list_any-append (is_named names_of name descriptor) (names_in c) (flat_map names_in classes)) ∙ none) in
      class_by class c classes (same_text c.name class) refl (none_in c parts.0) (none_of class classes parts.1)

pub no_field : (program : List Class) (declared : List DeclaredNames) (name descriptor : List ℕ) → AreThoseOf (fields_of program) declared
    → position (is_named names_of name descriptor) declared ≡ None → HasNoField program name descriptor
no_field program declared name descriptor are none = λ class.
    none_of (declared_field name descriptor) (λ c. map field_names c.fields) name descriptor
    (λ c h. rw (no_field_in name descriptor c.fields h) refl) class program
    (sym (are.each name descriptor) ∙ unlisted name descriptor declared none)

pub no_method : (program : List Class) (declared : List DeclaredNames) (name descriptor : List ℕ) → AreThoseOf (methods_of program) declared
    → position (is_named names_of name descriptor) declared ≡ None → HasNoMethod program name descriptor
no_method program declared name descriptor are none = λ class.
    none_of (declared_method name descriptor) (λ c. map method_names c.methods) name descriptor
    (λ c h. rw (no_method_in name descriptor c.methods h) refl) class program
    (sym (are.each name descriptor) ∙ unlisted name descriptor declared none)

-- A search through classes of the program finds none.
module _ {A : Type 0} (look : Class → Option A) (program : List Class) (none : (class : List ℕ) → option_and_then look (class_named program class) ≡ None) where
  here : (c : Class) → IsNamed program c → look c ≡ None
  here c named = ap (option_and_then look) (sym named) ∙ none c.name

  pub none_found : (cs : List Class) → AllByRecursion (IsNamed program) cs → first_in look cs ≡ None
  none_found [] named = refl
  none_found (c ∷ cs) named = rw (here c named.0) (none_found cs named.1)

-- A field that no class declares isn't found.
pub missing_field : (program : List Class) (r : FieldReference) → HasNoField program r.name r.descriptor → reference_field program r ≡ None
missing_field program r none =
    none_found (declared_field r.name r.descriptor) program none (ancestry program (members_class r.class)) (ancestry_named (length program) program (members_class r.class))
