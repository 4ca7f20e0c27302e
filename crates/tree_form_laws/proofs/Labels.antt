-- Proves that the labels of instructions are those of places, and that their texts have units of 16 bits.
use Rattle.std.proofs.Common.{◌≡◌, ℕ, List, Option, Some, None, Result, Ok, refl, subst}
use Rattle.std.specs.Prelude.{slice_get, pos, negsuc, int_le, ◌&&◌}
use Rattle.std.specs.Option.{unwrap_or}
use Rattle.std.proofs.lemmas.Bool.{cond_both}
use Rattle.jvms_file.specs.declared.class_file.Constant.{Constant}
use Rattle.jvms_file.specs.declared.class_file.Constant.TheVariants as constant
use Rattle.jvms_file.specs.declared.insn.TheConstants.{OPCODES}
use Rattle.jvms_file.specs.declared.insn.Opcode.{Opcode}
use Rattle.jvms_file.specs.declared.insn.Opcode.TheVariants as opcode
use Rattle.jvms_file.specs.declared.insn.Insn.{Insn}
use Rattle.jvms_file.specs.declared.insn.Insn.TheVariants as insn
use Rattle.jvms_file.specs.declared.insn.Simple.{Simple}
use Rattle.jvms_file.specs.declared.insn.Simple.TheVariants as simple
use Rattle.jvms_file.specs.declared.insn.Push.TheVariants as push
use Rattle.jvms_file.specs.declared.insn.ArrayInsn.TheVariants as array_insn
use Rattle.jvms_file.specs.declared.insn.Branch.{Branch}
use Rattle.jvms_file.specs.ConstantPool.{entry}
use Rattle.jvms_program.specs.Meaning.{text_of}
use Rattle.jasmin.specs.declared.source.LoadedConstant.{LoadedConstant}
use Rattle.jasmin.specs.declared.source.LoadedConstant.TheVariants as loaded
use Rattle.jasmin.specs.declared.source.ConstantWidth.{ConstantWidth}
use Rattle.jasmin.specs.declared.source.ConstantWidth.TheVariants as constant_width
use Rattle.jasmin.specs.declared.source.BranchWidth.TheVariants as branch_width
use Rattle.jasmin.specs.declared.source.MatchLine.{MatchLine}
use Rattle.jasmin.specs.declared.source.Operation.{Operation}
use Rattle.jasmin.specs.declared.source.Operation.TheVariants as operation
use Rattle.listing_spec.specs.declared.fault.ListFault.{ListFault}
use Rattle.listing_spec.specs.declared.fault.ListFault.TheVariants as fault
use Rattle.listing_spec.specs.TreeOf.{label_of, opcode_at, loaded_of, long_of, constant_operation, simple_operation, match_of, operation_with, operation_of}
use Rattle.listing_spec.specs.Listable.{IsPlaceLabel, IsListableLoad, IsListableOperation}
use Rattle.classfile_laws.proofs.Steps.{step}
use Rattle.tree_form_laws.proofs.Steps.{same_Ok, no_answer}
use Rattle.tree_form_laws.proofs.Lists.{all_made}
use Rattle.tree_form_laws.proofs.Pools.{IsSound, text_is_text}

-- The label of a place satisfies `IsPlaceLabel`.
pub of_place : (place : ℕ) → IsPlaceLabel (label_of place)
of_place place = (place, refl)

answer_listable : (o p : Operation) → ◌≡◌ {A = Result Operation ListFault} (Ok o) (Ok p) → IsListableOperation o → IsListableOperation p
answer_listable o p e is = subst IsListableOperation (same_Ok o p e) is

-- ---- Constants

load_listable : (pool : List Constant) → IsSound pool → (o : Option Constant) (c : LoadedConstant) → loaded_of pool o ≡ Ok c → IsListableLoad c
load_listable pool are (Some (constant.Integer k)) c e = subst IsListableLoad (same_Ok (loaded.Integer k) c e) tt
load_listable pool are (Some (constant.String text)) c e = subst IsListableLoad (same_Ok (loaded.String (text_of pool text)) c e) (text_is_text pool are text)
load_listable pool are (Some (constant.Class name)) c e = subst IsListableLoad (same_Ok (loaded.Class (text_of pool name)) c e) tt
load_listable pool are (Some other) c e = no_answer fault.Float c e
load_listable pool are None c e = no_answer fault.Float c e

constant_listable : (pool : List Constant) → IsSound pool → (width : ConstantWidth) (n : ℕ) (o : Operation) → constant_operation pool width n ≡ Ok o → IsListableOperation o
unfolding IsListableOperation
constant_listable pool are width n o e =
    step (loaded_of pool (entry pool n)) (λ c. Ok (operation.Constant width c)) o e λ c loads more.
    answer_listable (operation.Constant width c) o more (load_listable pool are (entry pool n) c loads)

long_listable : (c : Option Constant) (o : Operation) → long_of c ≡ Ok o → IsListableOperation o
unfolding IsListableOperation
long_listable (Some (constant.Long k)) o e = answer_listable (operation.ConstantLong k) o e tt
long_listable (Some other) o e = no_answer fault.Float o e
long_listable None o e = no_answer fault.Float o e

by_form : (pool : List Constant) → IsSound pool → (code : ℕ) (form : Opcode) (n : ℕ) (o : Operation) → operation_with pool code form (insn.Constant n) ≡ Ok o → IsListableOperation o
unfolding operation_with
by_form pool are code opcode.Constant n o e = constant_listable pool are constant_width.AsNeeded n o e
by_form pool are code opcode.ConstantWide n o e = constant_listable pool are constant_width.Wide n o e
by_form pool are code form n o e = long_listable (entry pool n) o e

-- ---- Other instructions

branch_listable : (pool : List Constant) (code : ℕ) (form : Opcode) (how : Branch) (place : ℕ) (o : Operation) → operation_with pool code form (insn.Branch how place) ≡ Ok o → IsListableOperation o
unfolding operation_with IsListableOperation
branch_listable pool code (opcode.BranchWide wide) how place o e = answer_listable (operation.Branch branch_width.Wide wide (label_of place)) o e (of_place place)
branch_listable pool code form how place o e = answer_listable (operation.Branch branch_width.Short how (label_of place)) o e (of_place place)

simple_listable : (code : ℕ) (form : Opcode) (s : Simple) → IsListableOperation (simple_operation code form s)
unfolding IsListableOperation
simple_listable code opcode.PushByte (simple.Push (push.Int n)) =
    cond_both (int_le (negsuc 127) n && int_le n (pos 127)) (operation.PushByte n) (operation.Alone code) IsListableOperation (λ is. tt) (λ is. tt)
simple_listable code opcode.PushShort (simple.Push (push.Int n)) = tt
simple_listable code (opcode.Local how) (simple.Local other n) = tt
simple_listable code opcode.Increment (simple.Increment n by) = tt
simple_listable code opcode.NewArray (simple.Array (array_insn.New type)) = tt
simple_listable code form s = tt

-- ---- Instructions

pub operation_listable : (pool : List Constant) → IsSound pool → (bytes : List ℕ) (pc : ℕ) (i : Insn) (o : Operation) → operation_of pool bytes pc i ≡ Ok o → IsListableOperation o
unfolding operation_with IsListableOperation
operation_listable pool are bytes pc (insn.Simple s) o e =
    answer_listable _ o e (simple_listable (opcode_at bytes pc) (unwrap_or (slice_get OPCODES (opcode_at bytes pc)) opcode.Reserved) s)
operation_listable pool are bytes pc (insn.Constant n) o e =
    by_form pool are (opcode_at bytes pc) (unwrap_or (slice_get OPCODES (opcode_at bytes pc)) opcode.Reserved) n o e
operation_listable pool are bytes pc (insn.Branch how place) o e =
    branch_listable pool (opcode_at bytes pc) (unwrap_or (slice_get OPCODES (opcode_at bytes pc)) opcode.Reserved) how place o e
operation_listable pool are bytes pc (insn.Table s) o e = answer_listable _ o e (of_place s.default, all_made IsPlaceLabel label_of of_place s.targets)
operation_listable pool are bytes pc (insn.Lookup s) o e =
    answer_listable _ o e (of_place s.default, all_made (λ (m : MatchLine). IsPlaceLabel m.label) match_of (λ c. of_place c.target) s.cases)
operation_listable pool are bytes pc (insn.Field how n) o e = answer_listable _ o e tt
operation_listable pool are bytes pc (insn.Invoke how n) o e = answer_listable _ o e tt
operation_listable pool are bytes pc (insn.Class how n) o e = answer_listable _ o e tt
operation_listable pool are bytes pc (insn.MultiNewArray n count) o e = answer_listable _ o e tt
