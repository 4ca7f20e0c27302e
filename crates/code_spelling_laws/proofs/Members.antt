-- Proves that their bytes spell the instructions that name a pool entry (JVMS 6.5).
use Rattle.std.proofs.Common.{◌≡◌, ℕ, ◌%◌, Bool, true, false, cond, List, [], ◌∷◌, ◌++◌, Option, Some, ℤ, refl, ap, ◌∙◌, inl, inr}
use Rattle.std.proofs.Math.Nat.{mod-eq_of_lt}
use Rattle.std.specs.Prelude.{nat_le}
use Rattle.std.specs.Option.{option_and_then, unwrap_or}
use Rattle.jvms_file.specs.declared.class_file.Constant.{Constant}
use Rattle.jvms_file.specs.declared.class_file.Constant.TheVariants as constant
use Rattle.jvms_file.specs.declared.insn.Opcode.TheVariants as opcode
use Rattle.jvms_file.specs.declared.insn.FieldUse.{FieldUse}
use Rattle.jvms_file.specs.declared.insn.FieldUse.TheVariants as field_use
use Rattle.jvms_file.specs.declared.insn.Invoke.{Invoke}
use Rattle.jvms_file.specs.declared.insn.Invoke.TheVariants as invoke
use Rattle.jvms_file.specs.declared.insn.ClassUse.{ClassUse}
use Rattle.jvms_file.specs.declared.insn.ClassUse.TheVariants as class_use
use Rattle.jvms_file.specs.declared.insn.Insn.TheVariants as insn
use Rattle.jvms_file.specs.ConstantPool.{entry, utf8_at, class_name_number, name_and_type_at}
use Rattle.jvms_file.specs.Instructions.{passes, is_loadable, is_wide_loadable, is_field, method_numbers, invoked_names, is_invocable, interface_count, names_usable, is_usable_class, is_dimensions}
use Rattle.jvms_file.specs.Spelling.{u2, IsU1, IsU2, IsOpcode, SpellsLoad, SpellsAfterInvoke, SpellsInsn}
use Rattle.jasmin.specs.declared.source.ConstantWidth.{ConstantWidth}
use Rattle.jasmin.specs.declared.source.ConstantWidth.TheVariants as constant_width
use Rattle.jasmin.specs.declared.source.LoadedConstant.{LoadedConstant}
use Rattle.jasmin.specs.declared.source.LoadedConstant.TheVariants as loaded
use Rattle.jasmin.specs.declared.source.FieldName.{FieldName}
use Rattle.jasmin.specs.declared.source.MethodName.{MethodName}
use Rattle.pool_entries.specs.Entries.{method_constant}
use Rattle.pool_entries.specs.Named.{IsMember}
use Rattle.source_form_laws.specs.Formed.{IsCounted, IsFormedMethodName}
use Rattle.assembly.specs.Operands.{kind_of}
use Rattle.assembly.specs.Opcodes.{field_opcode, invoke_opcode, class_opcode}
use Rattle.assembly.specs.Bytes.{constant_bytes, after_invoke}
use Rattle.assembly.specs.Named.{NamesClass, NamesLoad}
use Rattle.code_spelling_laws.proofs.Numbers.{one_byte}

-- ---- ldc, ldc_w, ldc2_w

-- An entry that names a class may be loaded from version 49 on.
class_is_loaded : (pool : List Constant) (e : Option Constant) (name : List ℕ) → option_and_then (utf8_at pool) (option_and_then class_name_number e) ≡ Some name → passes (is_loadable 49) e ≡ true
class_is_loaded pool (Some (constant.Class n)) name is = refl
class_is_loaded pool e name is = absurd cc

load_is_named : (pool : List Constant) (n : ℕ) (c : LoadedConstant) → NamesLoad pool n c → IsU2 n × (passes (is_loadable 49) (entry pool n) ≡ true)
load_is_named pool n (loaded.Integer k) named = (named.0, ap (passes (is_loadable 49)) named.1)
load_is_named pool n (loaded.String text) named = (named.0, ap (passes (is_loadable 49)) named.1.here)
load_is_named pool n (loaded.Class name) named = (named.0, class_is_loaded pool (entry pool n) name named.1)

load_by : (pool : List Constant) (n : ℕ) → IsU2 n → passes (is_loadable 49) (entry pool n) ≡ true → (few : Bool) → nat_le n 255 ≡ few → SpellsLoad pool 49 (cond few (18 ∷ n ∷ []) (19 ∷ u2 n)) n
load_by pool n fits loads true few = inl (loads, inl (18, refl, one_byte n few, refl))
load_by pool n fits loads false many = inl (loads, inr (19, refl, fits, refl))

pub load_is_spelled : (pool : List Constant) (n : ℕ) (width : ConstantWidth) (c : LoadedConstant) → NamesLoad pool n c → SpellsLoad pool 49 (constant_bytes width n) n
load_is_spelled pool n constant_width.AsNeeded c named =
    let is = load_is_named pool n c named in
    load_by pool n is.0 is.1 (nat_le n 255) refl
load_is_spelled pool n constant_width.Wide c named =
    let is = load_is_named pool n c named in
    inl (is.1, inr (19, refl, is.0, refl))

pub long_is_spelled : (pool : List Constant) (n : ℕ) (k : ℤ) → IsU2 n → entry pool n ≡ Some (constant.Long k) → SpellsLoad pool 49 (20 ∷ u2 n) n
long_is_spelled pool n k fits is = inr (ap (passes is_wide_loadable) is, 20, refl, fits, refl)

-- ---- Fields

field_opcode_is : (how : FieldUse) → IsOpcode (field_opcode how) (opcode.Field how)
field_opcode_is field_use.GetStatic = refl
field_opcode_is field_use.PutStatic = refl
field_opcode_is field_use.Get = refl
field_opcode_is field_use.Put = refl

pub field_is_spelled : (pool : List Constant) (pcs : List ℕ) (pc n : ℕ) (how : FieldUse) (f : FieldName) → IsU2 n → IsMember (λ c m. constant.Field c m) pool n f.class f.name f.descriptor → SpellsInsn pool 49 pcs pc (field_opcode how ∷ u2 n) (insn.Field how n)
field_is_spelled pool pcs pc n how f fits named = (field_opcode how, field_opcode_is how, fits, ap (passes is_field) named.here, refl)

-- ---- Methods

invoke_opcode_is : (how : Invoke) → IsOpcode (invoke_opcode how) (opcode.Invoke how)
invoke_opcode_is invoke.Virtual = refl
invoke_opcode_is invoke.Special = refl
invoke_opcode_is invoke.Static = refl
invoke_opcode_is invoke.Interface = refl

-- The entry of an invoke instruction names this class and this member.
numbers_are : (how : Invoke) (c m : ℕ) → method_numbers how (method_constant (kind_of how) c m) ≡ Some (c, m)
numbers_are invoke.Virtual c m = refl
numbers_are invoke.Special c m = refl
numbers_are invoke.Static c m = refl
numbers_are invoke.Interface c m = refl

invoked_is : (pool : List Constant) (n : ℕ) (how : Invoke) (m : MethodName) → IsMember (method_constant (kind_of how)) pool n m.class m.name m.descriptor → invoked_names pool how n ≡ Some (m.name, m.descriptor)
invoked_is pool n how m named =
    ap (λ (e : Option Constant). option_and_then (λ (numbers : ℕ × ℕ). name_and_type_at pool numbers.1) (option_and_then (method_numbers how) e)) named.here
    ∙ ap (λ (o : Option (ℕ × ℕ)). option_and_then (λ (numbers : ℕ × ℕ). name_and_type_at pool numbers.1) o) (numbers_are how named.class_number named.member_number)
    ∙ named.names_member

-- A number of one byte is equal to itself modulo 256.
byte_kept : (n : ℕ) → IsU1 n → n % 256 ≡ n
byte_kept n fits = mod-eq_of_lt fits

-- Bytes spell what follows the index of an invoke instruction.
behind_is_spelled : (how : Invoke) (m : MethodName) (method : Option (List ℕ × List ℕ)) → method ≡ Some (m.name, m.descriptor) → IsCounted how m.descriptor → SpellsAfterInvoke how method (after_invoke how m.descriptor)
behind_is_spelled invoke.Interface m method is counted =
    (counted.0, counted.2, ap interface_count is ∙ counted.1, ap (λ (o : Option ℕ). (unwrap_or o 0 % 256) ∷ 0 ∷ []) counted.1 ∙ ap (λ n. n ∷ 0 ∷ []) (byte_kept counted.0 counted.2))
behind_is_spelled invoke.Virtual m method is counted = refl
behind_is_spelled invoke.Special m method is counted = refl
behind_is_spelled invoke.Static m method is counted = refl

pub invoke_is_spelled : (pool : List Constant) (pcs : List ℕ) (pc n : ℕ) (how : Invoke) (m : MethodName) → IsU2 n → IsMember (method_constant (kind_of how)) pool n m.class m.name m.descriptor → IsFormedMethodName how m
    → SpellsInsn pool 49 pcs pc (invoke_opcode how ∷ u2 n ++ after_invoke how m.descriptor) (insn.Invoke how n)
invoke_is_spelled pool pcs pc n how m fits named formed =
    let is = invoked_is pool n how m named in
    (invoke_opcode how, invoke_opcode_is how, fits, ap (is_invocable how) is ∙ formed.2, after_invoke how m.descriptor, behind_is_spelled how m (invoked_names pool how n) is formed.4, refl)

-- ---- Classes

class_opcode_is : (how : ClassUse) → IsOpcode (class_opcode how) (opcode.Class how)
class_opcode_is class_use.New = refl
class_opcode_is class_use.NewArray = refl
class_opcode_is class_use.CheckCast = refl
class_opcode_is class_use.InstanceOf = refl

pub class_is_spelled : (pool : List Constant) (pcs : List ℕ) (pc n : ℕ) (how : ClassUse) (name : List ℕ) → NamesClass pool n name → is_usable_class how name ≡ true → SpellsInsn pool 49 pcs pc (class_opcode how ∷ u2 n) (insn.Class how n)
class_is_spelled pool pcs pc n how name named usable = (class_opcode how, class_opcode_is how, named.0, ap (names_usable how) named.1 ∙ usable, refl)

pub multi_new_array_is_spelled : (pool : List Constant) (pcs : List ℕ) (pc n count : ℕ) (name : List ℕ) → NamesClass pool n name → IsU1 count → is_dimensions count (Some name) ≡ true → SpellsInsn pool 49 pcs pc (197 ∷ u2 n ++ count ∷ []) (insn.MultiNewArray n count)
multi_new_array_is_spelled pool pcs pc n count name named fits dimensions = (197, refl, named.0, fits, ap (is_dimensions count) named.1 ∙ dimensions, refl)
