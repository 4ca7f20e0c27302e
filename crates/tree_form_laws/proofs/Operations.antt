-- Proves that instructions have the form that the grammar of class files requires (JVMS 4.4, 6.5).
use Rattle.std.proofs.Common.{◌≡◌, ℕ, ◌+◌, ◌-◌, ◌<◌, ◌^◌, true, false, List, [], ◌∷◌, length, map, Option, Some, None, is_some, ℤ, Result, Ok, refl, sym, ap, ◌∙◌, subst, arith}
use Rattle.std.specs.Prelude.{slice_get, pos, ◌+ℤ◌, ◌-ℤ◌, int_le, unsigned_abs}
use Rattle.std.specs.Option.{option_and_then, unwrap_or}
use Rattle.std.specs.Int.{w32}
use Rattle.std.proofs.lemmas.Bool.{false≢true}
use Rattle.std.proofs.lemmas.List.{length-map}
use Rattle.jvms_file.specs.declared.class_file.Constant.{Constant}
use Rattle.jvms_file.specs.declared.class_file.Constant.TheVariants as constant
use Rattle.jvms_file.specs.declared.insn.TheConstants.{OPCODES}
use Rattle.jvms_file.specs.declared.insn.Opcode.{Opcode}
use Rattle.jvms_file.specs.declared.insn.Opcode.TheVariants as opcode
use Rattle.jvms_file.specs.declared.insn.Insn.{Insn}
use Rattle.jvms_file.specs.declared.insn.Insn.TheVariants as insn
use Rattle.jvms_file.specs.declared.insn.Branch.{Branch}
use Rattle.jvms_file.specs.declared.insn.Invoke.{Invoke}
use Rattle.jvms_file.specs.declared.insn.Invoke.TheVariants as invoke
use Rattle.jvms_file.specs.declared.insn.ClassUse.{ClassUse}
use Rattle.jvms_file.specs.declared.insn.SwitchCase.{SwitchCase}
use Rattle.jvms_file.specs.declared.insn.TableSwitch.{TableSwitch}
use Rattle.jvms_file.specs.Bytes.{signed}
use Rattle.jvms_file.specs.ConstantPool.{entry, class_name_at, name_and_type_at}
use Rattle.jvms_file.specs.Instructions.{passes, is_field, method_numbers, is_invocable, is_usable_class, names_usable, is_dimensions}
use Rattle.jvms_file.specs.Spelling.{InOrder, IsRising, SpellsAfterInvoke, SpellsTable, SpellsCase, SpellsInsn}
use Rattle.jvms_program.specs.declared.program.FieldReference.{FieldReference}
use Rattle.jvms_program.specs.declared.program.MethodReference.{MethodReference}
use Rattle.jvms_program.specs.Meaning.{text_of, class_text, name_and_type, field_reference_of, method_reference_of}
use Rattle.jasmin.specs.declared.source.LoadedConstant.{LoadedConstant}
use Rattle.jasmin.specs.declared.source.LoadedConstant.TheVariants as loaded
use Rattle.jasmin.specs.declared.source.ConstantWidth.{ConstantWidth}
use Rattle.jasmin.specs.declared.source.ConstantWidth.TheVariants as constant_width
use Rattle.jasmin.specs.declared.source.BranchWidth.TheVariants as branch_width
use Rattle.jasmin.specs.declared.source.FieldName.{FieldName}
use Rattle.jasmin.specs.declared.source.MethodName.{MethodName}
use Rattle.jasmin.specs.declared.source.Operation.{Operation}
use Rattle.jasmin.specs.declared.source.Operation.TheVariants as operation
use Rattle.source_form_laws.specs.Formed.{IsSigned, IsFormedLoad, IsFormedTable, IsFormedLookup, IsFormedField, IsCounted, IsFormedMethodName, IsFormedOperation}
use Rattle.listing_spec.specs.declared.fault.ListFault.{ListFault}
use Rattle.listing_spec.specs.declared.fault.ListFault.TheVariants as fault
use Rattle.listing_spec.specs.TreeOf.{label_of, opcode_at, loaded_of, long_of, constant_operation, match_of, operation_with, operation_of}
use Rattle.classfile_laws.proofs.Steps.{step}
use Rattle.tree_form_laws.proofs.Steps.{same_Ok, no_answer}
use Rattle.tree_form_laws.proofs.Numbers.{signed32, signed64, at_most, gap_added}
use Rattle.tree_form_laws.proofs.Pools.{IsSound, entry_spelled, class_entry_names, class_found, IsReference, field_entry_names, method_entry_names, interface_method_entry_names, field_member, method_member, called_on_none}
use Rattle.tree_form_laws.proofs.Opcodes.{IsAt}
use Rattle.tree_form_laws.proofs.Simples.{simple_formed}

-- The result of converting an instruction.
abbrev Answer : Type 0
Answer = Result Operation ListFault

answer_formed : (o p : Operation) → ◌≡◌ {A = Answer} (Ok o) (Ok p) → IsFormedOperation o → IsFormedOperation p
answer_formed o p e formed = subst IsFormedOperation (same_Ok o p e) formed

-- ---- Constants

load_formed : (pool : List Constant) → IsSound pool → (n : ℕ) (o : Option Constant) (c : LoadedConstant) → entry pool n ≡ o → loaded_of pool o ≡ Ok c → IsFormedLoad c
load_formed pool are n (Some (constant.Integer k)) c is e =
    let spelled = entry_spelled pool are n (constant.Integer k) is in
    subst IsFormedLoad (same_Ok (loaded.Integer k) c e) (subst (IsSigned 31) (sym spelled.1.2) (signed32 spelled.1.0 spelled.1.1))
load_formed pool are n (Some (constant.String text)) c is e = subst IsFormedLoad (same_Ok (loaded.String (text_of pool text)) c e) tt
load_formed pool are n (Some (constant.Class name)) c is e = subst IsFormedLoad (same_Ok (loaded.Class (text_of pool name)) c e) (class_entry_names pool are n name is)
load_formed pool are n (Some other) c is e = no_answer fault.Float c e
load_formed pool are n None c is e = no_answer fault.Float c e

constant_formed : (pool : List Constant) → IsSound pool → (width : ConstantWidth) (n : ℕ) (o : Operation) → constant_operation pool width n ≡ Ok o → IsFormedOperation o
unfolding IsFormedOperation
constant_formed pool are width n o e =
    step (loaded_of pool (entry pool n)) (λ c. Ok (operation.Constant width c)) o e λ c loads more.
    answer_formed (operation.Constant width c) o more (load_formed pool are n (entry pool n) c refl loads)

long_formed : (pool : List Constant) → IsSound pool → (n : ℕ) (c : Option Constant) (o : Operation) → entry pool n ≡ c → long_of c ≡ Ok o → IsFormedOperation o
unfolding IsFormedOperation
long_formed pool are n (Some (constant.Long k)) o is e =
    let spelled = entry_spelled pool are n (constant.Long k) is in
    answer_formed (operation.ConstantLong k) o e (subst (IsSigned 63) (sym spelled.1.2) (signed64 spelled.1.0 spelled.1.1))
long_formed pool are n (Some other) o is e = no_answer fault.Float o e
long_formed pool are n None o is e = no_answer fault.Float o e

by_form : (pool : List Constant) → IsSound pool → (code : ℕ) (form : Opcode) (n : ℕ) (o : Operation) → operation_with pool code form (insn.Constant n) ≡ Ok o → IsFormedOperation o
unfolding operation_with
by_form pool are code opcode.Constant n o e = constant_formed pool are constant_width.AsNeeded n o e
by_form pool are code opcode.ConstantWide n o e = constant_formed pool are constant_width.Wide n o e
by_form pool are code form n o e = long_formed pool are n (entry pool n) o refl e

-- ---- Branches

known : (o : Option Opcode) (how : Branch) → unwrap_or o opcode.Reserved ≡ opcode.BranchWide how → o ≡ Some (opcode.BranchWide how)
known (Some form) how e = ap (λ (f : Opcode). Some f) e
known None how e = absurd cc

branch_formed : (pool : List Constant) (code : ℕ) (form : Opcode) (how : Branch) (place : ℕ) (o : Operation) → unwrap_or (slice_get OPCODES code) opcode.Reserved ≡ form
    → operation_with pool code form (insn.Branch how place) ≡ Ok o → IsFormedOperation o
unfolding operation_with IsFormedOperation
branch_formed pool code (opcode.BranchWide wide) how place o is e =
    answer_formed (operation.Branch branch_width.Wide wide (label_of place)) o e (code, known (slice_get OPCODES code) wide is)
branch_formed pool code form how place o is e = answer_formed (operation.Branch branch_width.Short how (label_of place)) o e tt

-- ---- Switches

table_formed : (pcs : List ℕ) (pc : ℕ) (first : List ℕ) (s : TableSwitch) → SpellsTable pcs pc first s → IsFormedTable (record { low = s.low; labels = map label_of s.targets; default = label_of s.default })
table_formed pcs pc first s p =
    let low : IsSigned 31 s.low = subst (IsSigned 31) (sym p.8) (signed32 p.6 p.7) in
    let high : ℤ = signed w32 p.9 in
    let gap : ℕ = unsigned_abs (high -ℤ s.low) in
    let count : length (map label_of s.targets) ≡ gap + 1 = length-map s.targets label_of ∙ p.12 in
    let some : 0 < length (map label_of s.targets) = omega arith in
    let last : length (map label_of s.targets) - 1 ≡ gap = omega arith in
    let top : s.low +ℤ pos (length (map label_of s.targets) - 1) ≡ high = ap (λ (k : ℕ). s.low +ℤ pos k) last ∙ gap_added s.low high p.11 in
    (low, some, ap (λ (z : ℤ). int_le z (pos (2 ^ 31 - 1))) top ∙ at_most high (signed32 p.9 p.10))

cases_formed : (pcs : List ℕ) (pc : ℕ) (last : Option ℤ) (bytes : List ℕ) (cs : List SwitchCase) → InOrder (SpellsCase pcs pc) bytes cs → IsRising last cs → IsFormedLookup last (map match_of cs)
cases_formed pcs pc last bytes [] are rising = tt
cases_formed pcs pc last bytes (c ∷ cs) are rising =
    let first = are.3 in
    (subst (IsSigned 31) (sym first.2) (signed32 first.0 first.1), rising.0, cases_formed pcs pc (Some c.value) are.1 cs are.4 rising.1)

-- ---- Members

field_name : (pool : List Constant) (c m : ℕ) → IsReference false pool c m → IsFormedField (record { class = class_text pool c; name = (name_and_type pool m).0; descriptor = (name_and_type pool m).1 })
field_name pool c m is =
    let forms = field_member is.name is.descriptor is.sort is.form in
    let whole : IsFormedField (record { class = class_text pool c; name = is.name; descriptor = is.descriptor }) = (is.class_form, forms.0, forms.1) in
    subst (λ (u : Option (List ℕ × List ℕ)). IsFormedField (record { class = class_text pool c; name = (unwrap_or u ([], [])).0; descriptor = (unwrap_or u ([], [])).1 })) (sym is.named) whole

-- Returns the name of an instruction's field.
abbrev field_of : FieldReference → FieldName
field_of f = record { class = f.class; name = f.name; descriptor = f.descriptor }

field_formed : (pool : List Constant) → IsSound pool → (n : ℕ) (o : Option Constant) → entry pool n ≡ o → passes is_field o ≡ true → IsFormedField (field_of (field_reference_of pool o))
field_formed pool are n (Some (constant.Field c m)) is p = field_name pool c m (field_entry_names pool are n c m is)
field_formed pool are n (Some other) is p = absurd (false≢true p)
field_formed pool are n None is p = absurd (false≢true p)

counted : (how : Invoke) (name descriptor rest : List ℕ) → SpellsAfterInvoke how (Some (name, descriptor)) rest → IsCounted how descriptor
counted invoke.Interface name descriptor rest p = (p.0, p.2, p.1)
counted how name descriptor rest p = tt

-- An instruction may invoke the method, and what follows its index is spelled.
abbrev IsInvoked : Invoke → Option (List ℕ × List ℕ) → List ℕ → Type 0
IsInvoked how method rest = (is_invocable how method ≡ true) × SpellsAfterInvoke how method rest

method_name : (pool : List Constant) (how : Invoke) (c m : ℕ) (rest : List ℕ) → IsReference true pool c m → IsInvoked how (name_and_type_at pool m) rest
    → IsFormedMethodName how (record { class = class_text pool c; name = (name_and_type pool m).0; descriptor = (name_and_type pool m).1 })
method_name pool how c m rest is p =
    let forms = method_member is.name is.descriptor is.sort is.form in
    let known : IsInvoked how (Some (is.name, is.descriptor)) rest = subst (λ (u : Option (List ℕ × List ℕ)). IsInvoked how u rest) is.named p in
    let whole : IsFormedMethodName how (record { class = class_text pool c; name = is.name; descriptor = is.descriptor }) =
    (is.class_form, forms.0, known.0, called_on_none is.descriptor forms.1, counted how is.name is.descriptor rest known.1) in
    subst (λ (u : Option (List ℕ × List ℕ)). IsFormedMethodName how (record { class = class_text pool c; name = (unwrap_or u ([], [])).0; descriptor = (unwrap_or u ([], [])).1 })) (sym is.named) whole

abbrev method_of : MethodReference → MethodName
method_of m = record { class = m.class; name = m.name; descriptor = m.descriptor }

-- Returns the name and the descriptor of the method that an invoke instruction's entry names.
abbrev method_at : List Constant → Invoke → Option Constant → Option (List ℕ × List ℕ)
method_at pool how o = option_and_then (λ numbers. name_and_type_at pool numbers.1) (option_and_then (method_numbers how) o)

method_formed : (pool : List Constant) → IsSound pool → (how : Invoke) (n : ℕ) (o : Option Constant) (rest : List ℕ) → entry pool n ≡ o → IsInvoked how (method_at pool how o) rest → IsFormedMethodName how (method_of (method_reference_of pool o))
method_formed pool are invoke.Interface n (Some (constant.InterfaceMethod c m)) rest is p = method_name pool invoke.Interface c m rest (interface_method_entry_names pool are n c m is) p
method_formed pool are invoke.Virtual n (Some (constant.Method c m)) rest is p = method_name pool invoke.Virtual c m rest (method_entry_names pool are n c m is) p
method_formed pool are invoke.Special n (Some (constant.Method c m)) rest is p = method_name pool invoke.Special c m rest (method_entry_names pool are n c m is) p
method_formed pool are invoke.Static n (Some (constant.Method c m)) rest is p = method_name pool invoke.Static c m rest (method_entry_names pool are n c m is) p
method_formed pool are how n (Some other) rest is p = absurd (false≢true p.0)
method_formed pool are how n None rest is p = absurd (false≢true p.0)

-- ---- Classes

usable : (how : ClassUse) (u : Option (List ℕ)) → names_usable how u ≡ true → (is_some u ≡ true) × (is_usable_class how (unwrap_or u []) ≡ true)
usable how (Some name) is = (refl, is)
usable how None is = absurd (false≢true is)

dimensions : (count : ℕ) (u : Option (List ℕ)) → is_dimensions count u ≡ true → (is_some u ≡ true) × (is_dimensions count (Some (unwrap_or u [])) ≡ true)
dimensions count (Some name) is = (refl, is)
dimensions count None is = absurd (false≢true is)

-- ---- Instructions

pub operation_formed : (pool : List Constant) → IsSound pool → (major : ℕ) (pcs bytes : List ℕ) (pc : ℕ) (first : List ℕ) (i : Insn) (o : Operation)
    → IsAt bytes pc first → SpellsInsn pool major pcs pc first i → operation_of pool bytes pc i ≡ Ok o → IsFormedOperation o
unfolding operation_with IsFormedOperation
operation_formed pool are major pcs bytes pc first (insn.Simple s) o at p e = answer_formed _ o e (simple_formed bytes pc first s at p)
operation_formed pool are major pcs bytes pc first (insn.Constant n) o at p e =
    by_form pool are (opcode_at bytes pc) (unwrap_or (slice_get OPCODES (opcode_at bytes pc)) opcode.Reserved) n o e
operation_formed pool are major pcs bytes pc first (insn.Branch how place) o at p e =
    branch_formed pool (opcode_at bytes pc) (unwrap_or (slice_get OPCODES (opcode_at bytes pc)) opcode.Reserved) how place o refl e
operation_formed pool are major pcs bytes pc first (insn.Table s) o at p e = answer_formed _ o e (table_formed pcs pc first s p)
operation_formed pool are major pcs bytes pc first (insn.Lookup s) o at p e = answer_formed _ o e (cases_formed pcs pc None p.8 s.cases p.9 p.7)
operation_formed pool are major pcs bytes pc first (insn.Field how n) o at p e = answer_formed _ o e (field_formed pool are n (entry pool n) refl p.3)
operation_formed pool are major pcs bytes pc first (insn.Invoke how n) o at p e = answer_formed _ o e (method_formed pool are how n (entry pool n) p.4 refl (p.3, p.5))
operation_formed pool are major pcs bytes pc first (insn.Class how n) o at p e =
    let use_is = usable how (class_name_at pool n) p.3 in
    answer_formed _ o e (class_found pool are n use_is.0, use_is.1)
operation_formed pool are major pcs bytes pc first (insn.MultiNewArray n count) o at p e =
    let use_is = dimensions count (class_name_at pool n) p.4 in
    answer_formed _ o e (class_found pool are n use_is.0, p.3, use_is.1)
