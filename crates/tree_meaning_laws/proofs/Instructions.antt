-- Proves that the operation that an instruction is listed as means the instruction.
use Rattle.std.proofs.Common.{◌≡◌, ℕ, Bool, true, ◌&&◌, List, [], ◌∷◌, ◌++◌, length, map, Option, Some, Result, Ok, ℤ, refl, sym, ap, subst, ◌∙◌, append_assoc}
use Rattle.std.specs.Prelude.{slice_get, if◌then◌else◌, pos, negsuc, int_le}
use Rattle.std.specs.Option.{unwrap_or, option_and_then}
use Rattle.std.specs.List.{AllByRecursion}
use Rattle.std.proofs.lemmas.Bool.{false≢true}
use Rattle.std.proofs.lemmas.List.{length-append}
use Rattle.jvms_file.specs.declared.class_file.Constant.{Constant}
use Rattle.jvms_file.specs.declared.class_file.Constant.TheVariants as constant
use Rattle.jvms_file.specs.declared.insn.TheConstants.{OPCODES}
use Rattle.jvms_file.specs.declared.insn.Opcode.{Opcode}
use Rattle.jvms_file.specs.declared.insn.Opcode.TheVariants as opcode
use Rattle.jvms_file.specs.declared.insn.Insn.{Insn}
use Rattle.jvms_file.specs.declared.insn.Insn.TheVariants as insn
use Rattle.jvms_file.specs.declared.insn.Simple.TheVariants as simple
use Rattle.jvms_file.specs.declared.insn.Push.TheVariants as push
use Rattle.jvms_file.specs.declared.insn.Invoke.{Invoke}
use Rattle.jvms_file.specs.declared.insn.Invoke.TheVariants as invoke
use Rattle.jvms_file.specs.declared.insn.SwitchCase.{SwitchCase}
use Rattle.jvms_file.specs.declared.insn.TableSwitch.{TableSwitch}
use Rattle.jvms_file.specs.declared.insn.LookupSwitch.{LookupSwitch}
use Rattle.jvms_file.specs.Descriptors.{field_type, method_type}
use Rattle.jvms_file.specs.ConstantPool.{entry, name_and_type_at}
use Rattle.jvms_file.specs.Instructions.{method_numbers, is_invocable}
use Rattle.jvms_file.specs.Spelling.{IsOpcode, SpellsFrom}
use Rattle.jvms_program.specs.declared.program.Instruction.{Instruction}
use Rattle.jvms_program.specs.declared.program.Instruction.TheVariants as instruction
use Rattle.jvms_program.specs.declared.program.FieldReference.{FieldReference}
use Rattle.jvms_program.specs.declared.program.MethodReference.{MethodReference}
use Rattle.jvms_program.specs.Meaning.{loadable_of, field_reference_of, method_reference_of, instruction_of}
use Rattle.jasmin.specs.declared.source.LoadedConstant.{LoadedConstant}
use Rattle.jasmin.specs.declared.source.ConstantWidth.{ConstantWidth}
use Rattle.jasmin.specs.declared.source.ConstantWidth.TheVariants as constant_width
use Rattle.jasmin.specs.declared.source.Operation.{Operation}
use Rattle.jasmin.specs.declared.source.Operation.TheVariants as operation
use Rattle.jasmin.specs.declared.source.CodeItem.{CodeItem}
use Rattle.jasmin.specs.Denote.{target, loaded_constant, names_interface, switch_case, instruction_of as denoted}
use Rattle.classfile_laws.proofs.InsnForms.{formed}
use Rattle.classfile_laws.proofs.Steps.{step}
use Rattle.listing_spec.specs.declared.fault.ListFault.{ListFault}
use Rattle.listing_spec.specs.TreeOf.{label_of, targets_of, loaded_of, long_of, constant_operation, simple_operation, match_of, operation_with, operation_of}
use Rattle.tree_meaning_laws.proofs.Lists.{same_Ok, same_lists}
use Rattle.tree_meaning_laws.proofs.Labels.{IsLed}
use Rattle.tree_meaning_laws.proofs.Items.{AreOperations}
use Rattle.tree_meaning_laws.proofs.Opcodes.{Fits, is_alone, is_byte, is_short, is_load, is_wide_load, is_long_load, is_local, is_increment, is_array, is_branch, is_wide_branch, is_table, is_lookup, is_field, is_invoke, is_class, is_arrays, Opened, opened}

-- The labels of an instruction's targets mark these places.
abbrev pub AreLed : List CodeItem → Insn → Type 0
AreLed items i = AllByRecursion (IsLed items) (targets_of i)

-- The operation of a result means what the operation means.
given : (items : List CodeItem) (o p : Operation) (means : Instruction) → ◌≡◌ {A = Result Operation ListFault} (Ok o) (Ok p) → denoted items o ≡ means → denoted items p ≡ means
given items o p means gives is = ap (denoted items) (sym (same_Ok o p gives)) ∙ is

-- ---- What an instruction names

load_means : (pool : List Constant) (e : Option Constant) (c : LoadedConstant) → loaded_of pool e ≡ Ok c → loaded_constant c ≡ loadable_of pool e
load_means pool (Some (constant.Integer n)) c gives = ap loaded_constant (sym (same_Ok _ c gives))
load_means pool (Some (constant.String text)) c gives = ap loaded_constant (sym (same_Ok _ c gives))
load_means pool (Some (constant.Class name)) c gives = ap loaded_constant (sym (same_Ok _ c gives))
load_means pool e c gives = absurd cc

constant_means : (pool : List Constant) (items : List CodeItem) (width : ConstantWidth) (n : ℕ) (o : Operation) → constant_operation pool width n ≡ Ok o → denoted items o ≡ instruction.Constant (loadable_of pool (entry pool n))
constant_means pool items width n o gives =
    step (loaded_of pool (entry pool n)) _ _ gives λ c is last.
    given items (operation.Constant width c) o _ last (ap (λ l. instruction.Constant l) (load_means pool (entry pool n) c is))

long_means : (pool : List Constant) (items : List CodeItem) (e : Option Constant) (o : Operation) → long_of e ≡ Ok o → denoted items o ≡ instruction.Constant (loadable_of pool e)
long_means pool items (Some (constant.Long n)) o gives = given items (operation.ConstantLong n) o _ gives refl
long_means pool items e o gives = absurd cc

-- Returns a field's reference with the type of its descriptor.
abbrev field_by : FieldReference → FieldReference
field_by f = record { class = f.class; name = f.name; descriptor = f.descriptor; field_type = field_type f.descriptor }

field_is : (pool : List Constant) (e : Option Constant) → field_by (field_reference_of pool e) ≡ field_reference_of pool e
field_is pool (Some (constant.Field c n)) = refl
field_is pool e = refl

-- Returns a method's reference with the type of its descriptor.
abbrev method_by : Invoke → MethodReference → MethodReference
method_by how m = record { is_interface = names_interface how; class = m.class; name = m.name; descriptor = m.descriptor; method_type = method_type m.descriptor }

-- Returns the name and the descriptor of the method that an entry names.
abbrev names_of : List Constant → Invoke → Option Constant → Option (List ℕ × List ℕ)
names_of pool how e = option_and_then (λ numbers. name_and_type_at pool numbers.1) (option_and_then (method_numbers how) e)

method_is : (pool : List Constant) (how : Invoke) (e : Option Constant) → is_invocable how (names_of pool how e) ≡ true → method_by how (method_reference_of pool e) ≡ method_reference_of pool e
method_is pool invoke.Virtual (Some (constant.Method c n)) is = refl
method_is pool invoke.Special (Some (constant.Method c n)) is = refl
method_is pool invoke.Static (Some (constant.Method c n)) is = refl
method_is pool invoke.Interface (Some (constant.InterfaceMethod c n)) is = refl
method_is pool how e is = absurd (false≢true is)

-- ---- The targets of an instruction

targets_mean : (items : List CodeItem) (places : List ℕ) → AllByRecursion (IsLed items) places → map (target items) (map label_of places) ≡ places
targets_mean items [] led = refl
targets_mean items (place ∷ places) led = same_lists (target items (label_of place)) place (map (target items) (map label_of places)) places led.0 (targets_mean items places led.1)

abbrev case_by : SwitchCase → ℕ → SwitchCase
case_by c place = record { value = c.value; target = place }

cases_mean : (items : List CodeItem) (cases : List SwitchCase) → AllByRecursion (IsLed items) (map (λ c. c.target) cases) → map (switch_case items) (map match_of cases) ≡ cases
cases_mean items [] led = refl
cases_mean items (c ∷ cases) led = same_lists (switch_case items (match_of c)) c (map (switch_case items) (map match_of cases)) cases (ap (case_by c) led.0) (cases_mean items cases led.1)

abbrev table_by : ℤ → ℕ → List ℕ → Instruction
table_by low default targets = instruction.Table (record { default = default; low = low; targets = targets })

table_means : (items : List CodeItem) (s : TableSwitch) → AreLed items (insn.Table s) → table_by s.low (target items (label_of s.default)) (map (target items) (map label_of s.targets)) ≡ instruction.Table s
table_means items s led =
    ap (λ d. table_by s.low d (map (target items) (map label_of s.targets))) led.0 ∙ ap (table_by s.low s.default) (targets_mean items s.targets led.1)

abbrev lookup_by : ℕ → List SwitchCase → Instruction
lookup_by default cases = instruction.Lookup (record { default = default; cases = cases })

lookup_means : (items : List CodeItem) (s : LookupSwitch) → AreLed items (insn.Lookup s) → lookup_by (target items (label_of s.default)) (map (switch_case items) (map match_of s.cases)) ≡ instruction.Lookup s
lookup_means items s led =
    ap (λ d. lookup_by d (map (switch_case items) (map match_of s.cases))) led.0 ∙ ap (lookup_by s.default) (cases_mean items s.cases led.1)

-- ---- Instructions

-- A byte that is pushed is listed as bipush.
byte_means : (items : List CodeItem) (code : ℕ) (n : ℤ) → (int_le (negsuc 127) n && int_le n (pos 127)) ≡ true
    → denoted items (simple_operation code opcode.PushByte (simple.Push (push.Int n))) ≡ instruction.Simple (simple.Push (push.Int n))
byte_means items code n is = ap (λ (b : Bool). denoted items (if b then operation.PushByte n else operation.Alone code)) is

with_form : (pool : List Constant) (items : List CodeItem) (code : ℕ) (form : Opcode) (i : Insn) (o : Operation) → IsOpcode code form → Fits pool form i → operation_with pool code form i ≡ Ok o → AreLed items i
    → denoted items o ≡ instruction_of pool i
unfolding operation_with
with_form pool items code form i o is (is_alone {s = s}) gives led = given items (operation.Alone code) o (instruction.Simple s) gives (rw is refl)
with_form pool items code form i o is (is_byte {n = n} test) gives led = given items _ o _ gives (byte_means items code n test)
with_form pool items code form i o is is_short gives led = given items _ o _ gives refl
with_form pool items code form i o is (is_load {n = n}) gives led = constant_means pool items constant_width.AsNeeded n o gives
with_form pool items code form i o is (is_wide_load {n = n}) gives led = constant_means pool items constant_width.Wide n o gives
with_form pool items code form i o is (is_long_load {n = n}) gives led = long_means pool items (entry pool n) o gives
with_form pool items code form i o is is_local gives led = given items _ o _ gives refl
with_form pool items code form i o is is_increment gives led = given items _ o _ gives refl
with_form pool items code form i o is is_array gives led = given items _ o _ gives refl
with_form pool items code form i o is (is_branch {how = how}) gives led = given items _ o _ gives (ap (λ place. instruction.Branch how place) led.0)
with_form pool items code form i o is (is_wide_branch {how = how}) gives led = given items _ o _ gives (ap (λ place. instruction.Branch how place) led.0)
with_form pool items code form i o is (is_table {s = s}) gives led = given items _ o _ gives (table_means items s led)
with_form pool items code form i o is (is_lookup {s = s}) gives led = given items _ o _ gives (lookup_means items s led)
with_form pool items code form i o is (is_field {how = how} {n = n}) gives led = given items _ o _ gives (ap (λ f. instruction.Field how f) (field_is pool (entry pool n)))
with_form pool items code form i o is (is_invoke {how = how} {n = n} test) gives led = given items _ o _ gives (ap (λ m. instruction.Invoke how m) (method_is pool how (entry pool n) test))
with_form pool items code form i o is is_class gives led = given items _ o _ gives refl
with_form pool items code form i o is is_arrays gives led = given items _ o _ gives refl

-- The operation of an opcode is that of the opcode's form.
by_opcode : (pool : List Constant) (items : List CodeItem) (code : ℕ) (form : Opcode) (i : Insn) (o : Operation) → IsOpcode code form → Fits pool form i
    → operation_with pool code (unwrap_or (slice_get OPCODES code) opcode.Reserved) i ≡ Ok o → AreLed items i → denoted items o ≡ instruction_of pool i
by_opcode pool items code form i o is fits gives led =
    with_form pool items code form i o is fits (ap (λ (f : Option Opcode). operation_with pool code (unwrap_or f opcode.Reserved) i) (sym is) ∙ gives) led

-- An instruction after other bytes means its operation.
insn_means : (pool : List Constant) (items : List CodeItem) (front first rest : List ℕ) (i : Insn) (o : Operation) → Opened pool (front ++ (first ++ rest)) (length front) i
    → operation_of pool (front ++ (first ++ rest)) (length front) i ≡ Ok o → AreLed items i → denoted items o ≡ instruction_of pool i
insn_means pool items front first rest i o p gives led =
    by_opcode pool items p.code p.form i o p.opcode_is p.fits
    (ap (λ (n : ℕ). operation_with pool n (unwrap_or (slice_get OPCODES n) opcode.Reserved) i) (sym p.at) ∙ gives) led

-- Instructions after other bytes mean their operations.
pub insns_mean : (pool : List Constant) (items : List CodeItem) (major : ℕ) (pcs : List ℕ) (front bytes : List ℕ) (is : List Insn) (begun : List ℕ) (os : List Operation) → SpellsFrom pool major pcs (length front) bytes is begun
    → AreOperations pool (front ++ bytes) begun is os → AllByRecursion (AreLed items) is → map (denoted items) os ≡ map (instruction_of pool) is
insns_mean pool items major pcs front bytes [] begun os (none, nothing) are led = none_mean begun os nothing are
  where
    none_mean : (begun : List ℕ) (os : List Operation) → begun ≡ [] → AreOperations pool (front ++ bytes) begun [] os → map (denoted items) os ≡ []
    none_mean [] [] nothing are = refl
    none_mean [] (o ∷ os) nothing are = absurd are
    none_mean (pc ∷ begun) os nothing are = absurd cc
insns_mean pool items major pcs front bytes (i ∷ is) begun [] (first, rest, later, whole, starts, here, behind) are led =
    absurd (subst (λ (pcs : List ℕ). AreOperations pool (front ++ bytes) pcs (i ∷ is) []) starts are)
insns_mean pool items major pcs front bytes (i ∷ is) begun (o ∷ os) (first, rest, later, whole, starts, here, behind) are led =
    let all : AreOperations pool (front ++ (first ++ rest)) (length front ∷ later) (i ∷ is) (o ∷ os) = subst (λ (b : List ℕ). AreOperations pool (front ++ b) (length front ∷ later) (i ∷ is) (o ∷ os)) whole (subst (λ (pcs : List ℕ). AreOperations pool (front ++ bytes) pcs (i ∷ is) (o ∷ os)) starts are) in
    let others : AreOperations pool ((front ++ first) ++ rest) later is os = subst (λ (b : List ℕ). AreOperations pool b later is os) (sym (append_assoc front first rest)) all.1 in
    let next : SpellsFrom pool major pcs (length (front ++ first)) rest is later = subst (λ (n : ℕ). SpellsFrom pool major pcs n rest is later) (sym (length-append front first)) behind in
    same_lists (denoted items o) (instruction_of pool i) (map (denoted items) os) (map (instruction_of pool) is)
    (insn_means pool items front first rest i o (opened pool major pcs (length front) first i front rest (formed pool major pcs (length front) first i here)) all.0 led.0)
    (insns_mean pool items major pcs (front ++ first) rest is later os next others led.1)
