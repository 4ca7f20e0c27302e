-- The type that an instruction names for a field is the one that the descriptor of the field's key spells.
use Rattle.jvms_file.specs.Descriptors.{field_type}
use Rattle.jvms_file.specs.Names.{same_text}
use Rattle.jvms_file.specs.Results.{present, want, ◌>>=◌}
use Rattle.jvms_file.specs.declared.insn.FieldUse.{FieldUse}
use Rattle.jvms_machine.proofs.ListLaws.{all_at, option_map_some}
use Rattle.jvms_machine.proofs.SearchLaws.{find_passes}
use Rattle.jvms_machine.specs.State.{IsFrame, MethodFrame, Object, body_at}
use Rattle.jvms_machine.specs.Steps.{instruction_at}
use Rattle.jvms_program.specs.Program.{IsProgram, IsSpelledClass, IsSpelledInstruction, IsSpelledMethod, field_key_at, method_at}
use Rattle.jvms_program.specs.Resolution.{ResolvedField, ancestry, class_exists, declared_field, field_number, first_in, fits, reference_field, members_class, resolved_field}
use Rattle.jvms_program.specs.declared.key.FieldKey.{FieldKey}
use Rattle.jvms_program.specs.declared.number.FieldNumber.{FieldNumber}
use Rattle.jvms_program.specs.declared.number.MethodNumber.{MethodNumber}
use Rattle.jvms_program.specs.declared.program.Body.{Body}
use Rattle.jvms_program.specs.declared.program.Class.{Class}
use Rattle.jvms_program.specs.declared.program.Field.{Field}
use Rattle.jvms_program.specs.declared.program.FieldReference.{FieldReference}
use Rattle.jvms_program.specs.declared.program.Method.{Method}
use Rattle.jvms_program.specs.declared.thrown.Thrown.{Thrown}
use Rattle.std.proofs.Common.{Bool, IfSome, List, None, Option, Some, [], ap, cond, false, not, refl, slice_get, subst, sym, true, ℕ, ◌&&◌, ◌∙◌, ◌∷◌, ◌≡◌}
use Rattle.std.proofs.lemmas.Bool.{and_parts}
use Rattle.std.proofs.lemmas.Option.{none-some, option_and_then_some}
use Rattle.std.specs.Cmp.Lexicographic.{same_text as texts_are_same}
use Rattle.std.specs.List.{AllByRecursion, find}
use Rattle.std.specs.Prelude.{Ok, Result}
use Rattle.turn_item_laws.proofs.ResolvedFields.{numbered_key}
use Rattle.jvms_program.specs.declared.program.Instruction.TheVariants as instruction
use Rattle.jvms_machine.specs.declared.state.StackFrame.TheVariants as stack_frame
use Rattle.jvms_program.specs.declared.thrown.Thrown.TheVariants as thrown

-- ---- The descriptor of the found field

declared_descriptor : (r : FieldReference) (c : Class) (f : ResolvedField) → declared_field r.name r.descriptor c ≡ Some f → f.field.descriptor ≡ r.descriptor
declared_descriptor r c f is =
    let test = λ (g : Field). same_text g.name r.name && same_text g.descriptor r.descriptor in
    option_map_some (λ (g : Field). let found : ResolvedField = record { class = c; field = g } in found) (find test c.fields) f is
    (λ g g_is same.
    ap (λ (h : ResolvedField). h.field.descriptor) (sym same)
    ∙ texts_are_same g.descriptor r.descriptor (sym (and_parts (same_text g.name r.name) (same_text g.descriptor r.descriptor) (find_passes test c.fields g g_is)).1))

first_by : (r : FieldReference) (o : Option ResolvedField) (c : Class) (cs : List Class) (f : ResolvedField) → o ≡ declared_field r.name r.descriptor c → (first_in (declared_field r.name r.descriptor) cs ≡ Some f → f.field.descriptor ≡ r.descriptor) → first_in (declared_field r.name r.descriptor) (c ∷ cs) ≡ Some f → f.field.descriptor ≡ r.descriptor
first_by r None c cs f e more is = more (rw (← e) at is)
first_by r (Some g) c cs f e more is = let same : Some g ≡ Some f = rw (← e) at is in declared_descriptor r c f (sym e ∙ same)

first_descriptor : (r : FieldReference) (cs : List Class) (f : ResolvedField) → first_in (declared_field r.name r.descriptor) cs ≡ Some f → f.field.descriptor ≡ r.descriptor
first_descriptor r [] f is = absurd (none-some f is)
first_descriptor r (c ∷ cs) f is = first_by r (declared_field r.name r.descriptor c) c cs f refl (first_descriptor r cs f) is

want_passed : {A : Type 0} (test : Bool) (fault : Thrown) (next : Result A Thrown) (x : A) → (want test fault >>= λ _. next) ≡ Ok x → next ≡ Ok x
want_passed true fault next x is = is
want_passed false fault next x is = absurd (cc)

present_there : {A B : Type 0} (o : Option B) (fault : Thrown) (next : B → Result A Thrown) (x : A) → (present o fault >>= next) ≡ Ok x → (y : B) × (o ≡ Some y) × (next y ≡ Ok x)
present_there None fault next x is = absurd (cc)
present_there (Some y) fault next x is = (y, refl, is)

found_descriptor : (program : List Class) (static : Bool) (r : FieldReference) (f : ResolvedField) → resolved_field program static r ≡ Ok f → f.field.descriptor ≡ r.descriptor
found_descriptor program static r f is =
    let there = want_passed (class_exists program r.class) thrown.NoClassDefFoundError _ f is in
    let found = present_there (reference_field program r) thrown.NoSuchFieldError _ f there in
    let same : Ok found.0 ≡ Ok f = want_passed (cond static found.0.field.is_static (not found.0.field.is_static)) thrown.IncompatibleClassChangeError _ f found.2 in
    let is_it : found.0 ≡ f = cc in
    first_descriptor r (ancestry program (members_class r.class)) f (found.1 ∙ ap (λ g. Some g) is_it)

-- ---- The type that an instruction names

method_is_spelled : (program : List Class) (n : MethodNumber) (m : Method) → IsProgram program → method_at program n ≡ Some m → IsSpelledMethod m
method_is_spelled program n m is at =
    option_and_then_some (λ (c : Class). slice_get c.methods n.method) (slice_get program n.class) m at
    (λ c c_is m_is. all_at IsSpelledMethod c.methods n.method m m_is (all_at IsSpelledClass program n.class c c_is is.spelled).1)

named_type : (program : List Class) (n : MethodNumber) (b : Body) (place : ℕ) (how : FieldUse) (r : FieldReference) → IsProgram program → body_at program n ≡ Some b → slice_get b.instructions place ≡ Some (instruction.Field how r) → r.field_type ≡ field_type r.descriptor
named_type program n b place how r is body_is at =
    option_and_then_some (λ (m : Method). m.body) (method_at program n) b body_is
    (λ m m_is b_is.
    let spelled : IfSome (Some b) (λ c. AllByRecursion IsSpelledInstruction c.instructions) = subst (λ o. IfSome o (λ (c : Body). AllByRecursion IsSpelledInstruction c.instructions)) b_is (method_is_spelled program n m is m_is).1 in
    all_at IsSpelledInstruction b.instructions place (instruction.Field how r) at spelled)

pub type_of_key : (program : List Class) (heap : List Object) (frame : MethodFrame) (how : FieldUse) (r : FieldReference) (static : Bool) (f : ResolvedField) (n : FieldNumber) (key : FieldKey) → IsProgram program → IsFrame program heap (stack_frame.Call frame) → instruction_at frame ≡ Some (instruction.Field how r) → resolved_field program static r ≡ Ok f → field_number program f ≡ Some n → field_key_at program n ≡ Some key → r.field_type ≡ field_type key.descriptor
type_of_key program heap frame how r static f n key is fits at resolved number key_is =
    let same : key.descriptor ≡ r.descriptor = ap (λ (k : FieldKey). k.descriptor) (numbered_key program static r f n key resolved number key_is) ∙ found_descriptor program static r f resolved in
    named_type program frame.method frame.body frame.activation.place how r is fits.0 at ∙ ap field_type (sym same)
