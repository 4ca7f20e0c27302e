-- Proves that an instruction that names the entries of its operation means what the operation denotes.
use Rattle.std.proofs.Common.{◌≡◌, ℕ, Bool, true, false, List, [], ◌∷◌, map, Option, Some, refl, ap, ◌∙◌}
use Rattle.std.specs.Option.{unwrap_or}
use Rattle.jvms_file.specs.declared.class_file.Constant.{Constant}
use Rattle.jvms_file.specs.declared.class_file.Constant.TheVariants as constant
use Rattle.jvms_file.specs.declared.insn.Invoke.{Invoke}
use Rattle.jvms_file.specs.declared.insn.Invoke.TheVariants as invoke
use Rattle.jvms_file.specs.Descriptors.{field_type, method_type}
use Rattle.jvms_file.specs.ConstantPool.{entry, class_name_at, name_and_type_at}
use Rattle.jvms_program.specs.declared.program.Loadable.TheVariants as loadable
use Rattle.jvms_program.specs.declared.program.FieldReference.{FieldReference}
use Rattle.jvms_program.specs.declared.program.MethodReference.{MethodReference}
use Rattle.jvms_program.specs.declared.program.Instruction.TheVariants as instruction
use Rattle.jvms_program.specs.Meaning.{loadable_of, field_reference_of, method_reference_of, instruction_of}
use Rattle.jasmin.specs.declared.source.LoadedConstant.{LoadedConstant}
use Rattle.jasmin.specs.declared.source.LoadedConstant.TheVariants as loaded
use Rattle.jasmin.specs.declared.source.Operation.{Operation}
use Rattle.jasmin.specs.declared.source.Operation.TheVariants as operation
use Rattle.jasmin.specs.declared.source.CodeItem.{CodeItem}
use Rattle.jasmin.specs.Denote.{loaded_constant, names_interface, instruction_of as denoted}
use Rattle.pool_entries.specs.Entries.{method_constant}
use Rattle.pool_entries.specs.Named.{IsMember}
use Rattle.assembly.specs.Named.{NamesLoad, NamesOperand, AreOperands}
use Rattle.assembly.specs.Operands.{kind_of}
use Rattle.assembly.specs.CodeOf.{insn_of, insns_from}
use Rattle.class_meaning_laws.proofs.Names.{same_lists, text_is, class_text_is, class_found}

-- ---- What an instruction names

loadable_is : (pool : List Constant) (n : ℕ) (c : LoadedConstant) → NamesLoad pool n c → loadable_of pool (entry pool n) ≡ loaded_constant c
loadable_is pool n (loaded.Integer k) is = ap (loadable_of pool) is.1
loadable_is pool n (loaded.String text) is =
    ap (loadable_of pool) is.1.here ∙ ap (λ t. loadable.String t) (text_is pool is.1.number text is.1.names)
loadable_is pool n (loaded.Class name) is =
    let found = class_found pool n name is.1 in
    ap (loadable_of pool) found.here ∙ ap (λ t. loadable.Class t) (text_is pool found.number name found.names)

-- Returns a field's reference with the texts that its indices name.
abbrev field_by : Option (List ℕ) → Option (List ℕ × List ℕ) → FieldReference
field_by class member =
    record { class = unwrap_or class []; name = (unwrap_or member ([], [])).0; descriptor = (unwrap_or member ([], [])).1; field_type = field_type (unwrap_or member ([], [])).1 }

field_is : (pool : List Constant) (n : ℕ) (class name descriptor : List ℕ) → IsMember (λ c m. constant.Field c m) pool n class name descriptor
    → field_reference_of pool (entry pool n) ≡ field_by (Some class) (Some (name, descriptor))
field_is pool n class name descriptor is =
    ap (field_reference_of pool) is.here
    ∙ ap (λ c. field_by c (name_and_type_at pool is.member_number)) is.names_class
    ∙ ap (field_by (Some class)) is.names_member

-- Returns a method's reference with the texts that its indices name.
abbrev method_by : Bool → Option (List ℕ) → Option (List ℕ × List ℕ) → MethodReference
method_by interface class member =
    record { is_interface = interface; class = unwrap_or class []; name = (unwrap_or member ([], [])).0; descriptor = (unwrap_or member ([], [])).1; method_type = method_type (unwrap_or member ([], [])).1 }

method_by_is : (interface : Bool) (pool : List Constant) (c m : ℕ) (class name descriptor : List ℕ) → class_name_at pool c ≡ Some class → name_and_type_at pool m ≡ Some (name, descriptor)
    → method_by interface (class_name_at pool c) (name_and_type_at pool m) ≡ method_by interface (Some class) (Some (name, descriptor))
method_by_is interface pool c m class name descriptor owner member =
    ap (λ t. method_by interface t (name_and_type_at pool m)) owner ∙ ap (method_by interface (Some class)) member

method_is : (how : Invoke) (pool : List Constant) (n : ℕ) (class name descriptor : List ℕ) → IsMember (method_constant (kind_of how)) pool n class name descriptor
    → method_reference_of pool (entry pool n) ≡ method_by (names_interface how) (Some class) (Some (name, descriptor))
method_is invoke.Virtual pool n class name descriptor is =
    ap (method_reference_of pool) is.here ∙ method_by_is false pool is.class_number is.member_number class name descriptor is.names_class is.names_member
method_is invoke.Special pool n class name descriptor is =
    ap (method_reference_of pool) is.here ∙ method_by_is false pool is.class_number is.member_number class name descriptor is.names_class is.names_member
method_is invoke.Static pool n class name descriptor is =
    ap (method_reference_of pool) is.here ∙ method_by_is false pool is.class_number is.member_number class name descriptor is.names_class is.names_member
method_is invoke.Interface pool n class name descriptor is =
    ap (method_reference_of pool) is.here ∙ method_by_is true pool is.class_number is.member_number class name descriptor is.names_class is.names_member

-- ---- Instructions

insn_means : (pool : List Constant) (items : List CodeItem) (n : ℕ) (o : Operation) → NamesOperand pool n o → instruction_of pool (insn_of items n o) ≡ denoted items o
unfolding insn_of NamesOperand
insn_means pool items n (operation.Constant width c) is = ap (λ l. instruction.Constant l) (loadable_is pool n c is)
insn_means pool items n (operation.ConstantLong k) is = ap (λ e. instruction.Constant (loadable_of pool e)) is.1
insn_means pool items n (operation.Field how f) is = ap (λ r. instruction.Field how r) (field_is pool n f.class f.name f.descriptor is.1)
insn_means pool items n (operation.Invoke how m) is = ap (λ r. instruction.Invoke how r) (method_is how pool n m.class m.name m.descriptor is.1)
insn_means pool items n (operation.Class how name) is = ap (λ t. instruction.Class how t) (class_text_is pool n name is.1)
insn_means pool items n (operation.MultiNewArray name count) is = ap (λ t. instruction.MultiNewArray count t) (class_text_is pool n name is.1)
insn_means pool items n _ is = refl

pub insns_mean : (pool : List Constant) (items : List CodeItem) (numbers : List ℕ) (os : List Operation) → AreOperands pool numbers os
    → map (instruction_of pool) (insns_from items numbers os) ≡ map (denoted items) os
unfolding insns_from
insns_mean pool items [] [] are = refl
insns_mean pool items (n ∷ numbers) (o ∷ os) are =
    same_lists (instruction_of pool (insn_of items n o)) (denoted items o) (map (instruction_of pool) (insns_from items numbers os)) (map (denoted items) os) (insn_means pool items n o are.0) (insns_mean pool items numbers os are.1)
insns_mean pool items [] (o ∷ os) are = absurd are
insns_mean pool items (n ∷ numbers) [] are = absurd are
