-- The number of the field to which a reference resolves has that field's key.
use Rattle.std.proofs.Common.{Bool, List, None, Option, Some, [], ap, cond, false, flat_map, length, not, option_and_then, option_map, refl, slice_get, subst, suc, sym, true, zero, ℕ, ◌&&◌, ◌∙◌, ◌∷◌, ◌≡◌}
use Rattle.std.proofs.lemmas.Bool.{and_parts}
use Rattle.std.proofs.lemmas.Option.{none-some, option_and_then_some}
use Rattle.std.specs.List.{AllByRecursion, find}
use Rattle.std.specs.Prelude.{Ok, Result}
use Rattle.jvms_file.specs.Names.{same_text}
use Rattle.jvms_file.specs.Results.{present, want, ◌>>=◌}
use Rattle.jvms_program.specs.Program.{class_named, class_number, declared_field_number, field_key, field_key_at}
use Rattle.jvms_program.specs.Resolution.{ResolvedField, ancestry, ancestry_within, class_exists, declared_field, field_number, first_in, reference_field, members_class, resolved_field}
use Rattle.jvms_program.specs.declared.key.FieldKey.{FieldKey}
use Rattle.jvms_program.specs.declared.number.FieldNumber.{FieldNumber}
use Rattle.jvms_program.specs.declared.program.Class.{Class}
use Rattle.jvms_program.specs.declared.program.Field.{Field}
use Rattle.jvms_program.specs.declared.program.FieldReference.{FieldReference}
use Rattle.jvms_program.specs.declared.thrown.Thrown.{Thrown}
use Rattle.jvms_program.specs.declared.thrown.Thrown.TheVariants as thrown
use Rattle.jvms_machine.proofs.ListLaws.{all_append, all_flat_map, option_map_some}
use Rattle.jvms_machine.proofs.SearchLaws.{find_passes, position_leads}
use Rattle.std.specs.Cmp.Lexicographic.{same_text as texts_are_same}

abbrev IsNamed : List Class → Class → Type 0
IsNamed program c = class_named program c.name ≡ Some c

named_is : (program : List Class) (name : List ℕ) (c : Class) → class_named program name ≡ Some c → IsNamed program c
named_is program name c is =
    let its_name : c.name ≡ name = texts_are_same c.name name (sym (find_passes (λ d. same_text d.name name) program c is)) in
    subst (λ n. class_named program n ≡ Some c) (sym its_name) is

-- ---- The classes of an ancestry are the program's.

ancestry_some : (most : ℕ) (program : List Class) (name : List ℕ) (c : Class) (above : Option (List ℕ)) → class_named program name ≡ Some c → c.superclass ≡ above → ((super : List ℕ) → AllByRecursion (IsNamed program) (ancestry_within most program super)) → AllByRecursion (IsNamed program) (ancestry_within (suc most) program name)
unfolding ancestry_within
ancestry_some most program name c None is e each =
    rw is (named_is program name c is, (rw e (all_append (IsNamed program) (flat_map (ancestry_within most program) c.interfaces) [] (all_flat_map (IsNamed program) (ancestry_within most program) each c.interfaces) tt)))
ancestry_some most program name c (Some super) is e each =
    rw is (named_is program name c is, (rw e (all_append (IsNamed program) (flat_map (ancestry_within most program) c.interfaces) (ancestry_within most program super) (all_flat_map (IsNamed program) (ancestry_within most program) each c.interfaces) (each super))))

ancestry_by : (most : ℕ) (program : List Class) (name : List ℕ) (o : Option Class) → class_named program name ≡ o → ((super : List ℕ) → AllByRecursion (IsNamed program) (ancestry_within most program super)) → AllByRecursion (IsNamed program) (ancestry_within (suc most) program name)
unfolding ancestry_within
ancestry_by most program name None is each = rw is tt
ancestry_by most program name (Some c) is each = ancestry_some most program name c c.superclass is refl each

ancestry_named : (most : ℕ) (program : List Class) (name : List ℕ) → AllByRecursion (IsNamed program) (ancestry_within most program name)
unfolding ancestry_within
ancestry_named zero program name = tt
ancestry_named (suc most) program name = ancestry_by most program name (class_named program name) refl (ancestry_named most program)

-- ---- The field found

-- The program has the declaring class of the field.
abbrev IsOfProgram : List Class → ResolvedField → Type 0
IsOfProgram program found = class_named program found.class.name ≡ Some found.class

declared_is : (program : List Class) (r : FieldReference) (c : Class) (f : ResolvedField) → IsNamed program c → declared_field r.name r.descriptor c ≡ Some f → IsOfProgram program f
declared_is program r c f named is =
    option_map_some (λ (g : Field). let found : ResolvedField = record { class = c; field = g } in found) (find (λ (g : Field). same_text g.name r.name && same_text g.descriptor r.descriptor) c.fields) f is
    (λ g g_is same. subst (IsOfProgram program) same named)

first_by : (program : List Class) (r : FieldReference) (o : Option ResolvedField) (c : Class) (cs : List Class) (f : ResolvedField) → o ≡ declared_field r.name r.descriptor c → IsNamed program c → (first_in (declared_field r.name r.descriptor) cs ≡ Some f → IsOfProgram program f) → first_in (declared_field r.name r.descriptor) (c ∷ cs) ≡ Some f → IsOfProgram program f
first_by program r None c cs f e named more is = more (rw (← e) at is)
first_by program r (Some g) c cs f e named more is = let same : Some g ≡ Some f = rw (← e) at is in declared_is program r c f named (sym e ∙ same)

first_is : (program : List Class) (r : FieldReference) (cs : List Class) → AllByRecursion (IsNamed program) cs → (f : ResolvedField) → first_in (declared_field r.name r.descriptor) cs ≡ Some f → IsOfProgram program f
first_is program r [] all f is = absurd (none-some f is)
first_is program r (c ∷ cs) all f is = first_by program r (declared_field r.name r.descriptor c) c cs f refl all.0 (first_is program r cs all.1 f) is

-- ---- Resolution

want_passed : {A : Type 0} (test : Bool) (fault : Thrown) (next : Result A Thrown) (x : A) → (want test fault >>= λ _. next) ≡ Ok x → next ≡ Ok x
want_passed true fault next x is = is
want_passed false fault next x is = absurd (cc)

present_there : {A B : Type 0} (o : Option B) (fault : Thrown) (next : B → Result A Thrown) (x : A) → (present o fault >>= next) ≡ Ok x → (y : B) × (o ≡ Some y) × (next y ≡ Ok x)
present_there None fault next x is = absurd (cc)
present_there (Some y) fault next x is = (y, refl, is)

resolved_is : (program : List Class) (static : Bool) (r : FieldReference) (f : ResolvedField) → resolved_field program static r ≡ Ok f → IsOfProgram program f
resolved_is program static r f is =
    let there = want_passed (class_exists program r.class) thrown.NoClassDefFoundError _ f is in
    let found = present_there (reference_field program r) thrown.NoSuchFieldError _ f there in
    let same : Ok found.0 ≡ Ok f = want_passed (cond static found.0.field.is_static (not found.0.field.is_static)) thrown.IncompatibleClassChangeError _ f found.2 in
    let is_it : found.0 ≡ f = cc in
    first_is program r (ancestry program (members_class r.class)) (ancestry_named (length program) program (members_class r.class)) f (found.1 ∙ ap (λ g. Some g) is_it)

-- ---- The number

key_is : (c : Class) (f g : Field) → f.name ≡ g.name → f.descriptor ≡ g.descriptor → field_key c f ≡ field_key c g
key_is c f g names descriptors =
    let key_of_both : List ℕ → List ℕ → FieldKey = λ name descriptor. let key : FieldKey = record { class = c.name; name = name; descriptor = descriptor } in key in
    ap (λ name. key_of_both name f.descriptor) names ∙ ap (key_of_both g.name) descriptors

pub numbered_key : (program : List Class) (static : Bool) (r : FieldReference) (found : ResolvedField) (n : FieldNumber) (key : FieldKey) → resolved_field program static r ≡ Ok found → field_number program found ≡ Some n → field_key_at program n ≡ Some key → key ≡ field_key found.class found.field
numbered_key program static r found n key resolved number at =
    let test = λ (f : Field). same_text f.name found.field.name && same_text f.descriptor found.field.descriptor in
    let numbered_by = λ (class field : ℕ). let made : FieldNumber = record { class = class; field = field } in made in
    option_and_then_some (λ (class : ℕ). option_map (numbered_by class) (declared_field_number found.class found.field.name found.field.descriptor)) (class_number program found.class.name) n number
    (λ class class_is rest. option_map_some (numbered_by class) (declared_field_number found.class found.field.name found.field.descriptor) n rest
    (λ field field_is same.
    let there : slice_get program class ≡ Some found.class = position_leads (λ (c : Class). same_text c.name found.class.name) program class class_is ∙ resolved_is program static r found resolved in
    let at_number : field_key_at program (numbered_by class field) ≡ Some key = ap (field_key_at program) same ∙ at in
    let in_class : option_map (field_key found.class) (slice_get found.class.fields field) ≡ Some key = sym (ap (option_and_then (λ (c : Class). option_map (field_key c) (slice_get c.fields field))) there) ∙ at_number in
    option_map_some (field_key found.class) (slice_get found.class.fields field) key in_class
    (λ f f_is f_key.
    let passes : test f ≡ true = find_passes test found.class.fields f (sym (position_leads test found.class.fields field field_is) ∙ f_is) in
    let both = and_parts (same_text f.name found.field.name) (same_text f.descriptor found.field.descriptor) passes in
    sym f_key ∙ key_is found.class f found.field (texts_are_same f.name found.field.name (sym both.0)) (texts_are_same f.descriptor found.field.descriptor (sym both.1)))))
