-- Proves that an instruction's words are read as the instruction.
use Rattle.std.proofs.Common.{◌≡◌, ℕ, zero, suc, ◌<◌, ◌^◌, ◌&&◌, Bool, true, false, not, List, [], ◌∷◌, ◌++◌, Option, Some, None, Ok, ℤ, refl, sym, ap, ◌∙◌, arith}
use Rattle.std.specs.Prelude.{codes, slice_get, is_some}
use Rattle.std.specs.Fmt.{decimal, signed_decimal}
use Rattle.std.specs.List.{list_all}
use Rattle.std.specs.Option.{unwrap_or}
use Rattle.std.proofs.lemmas.Bool.{and_parts, false≢true, eq-eqb}
use Rattle.std.proofs.lemmas.Option.{none-some, same_Some}
use Rattle.jvms_file.specs.declared.insn.TheConstants.{OPCODES}
use Rattle.jvms_file.specs.declared.insn.Opcode.{Opcode}
use Rattle.jvms_file.specs.declared.insn.Opcode.TheVariants as opcode
use Rattle.jvms_file.specs.declared.insn.Kind.TheVariants as kind
use Rattle.jvms_file.specs.declared.insn.LocalUse.{LocalUse}
use Rattle.jvms_file.specs.declared.insn.LocalUse.TheVariants as local
use Rattle.jvms_file.specs.declared.insn.Comparison.TheVariants as comparison
use Rattle.jvms_file.specs.declared.insn.Branch.{Branch}
use Rattle.jvms_file.specs.declared.insn.Branch.TheVariants as branch
use Rattle.jvms_file.specs.declared.insn.FieldUse.{FieldUse}
use Rattle.jvms_file.specs.declared.insn.FieldUse.TheVariants as field_use
use Rattle.jvms_file.specs.declared.insn.Invoke.{Invoke}
use Rattle.jvms_file.specs.declared.insn.Invoke.TheVariants as invoke
use Rattle.jvms_file.specs.declared.insn.ClassUse.{ClassUse}
use Rattle.jvms_file.specs.declared.insn.ClassUse.TheVariants as class_use
use Rattle.jvms_file.specs.declared.insn.ArrayType.{ArrayType}
use Rattle.jvms_file.specs.declared.insn.ArrayType.TheVariants as array_type
use Rattle.jvms_file.specs.Instructions.{is_usable_class, is_dimensions, interface_count}
use Rattle.jvms_file.specs.Names.{is_name, is_method_name}
use Rattle.jvms_file.specs.Descriptors.{field_type_of, is_class_entry_name}
use Rattle.jvms_file.specs.Spelling.{IsOpcode, IsU1}
use Rattle.jasmin.specs.declared.token.Lexeme.{Lexeme}
use Rattle.jasmin.specs.declared.token.Lexeme.TheVariants as lexeme
use Rattle.jasmin.specs.declared.source.LoadedConstant.{LoadedConstant}
use Rattle.jasmin.specs.declared.source.LoadedConstant.TheVariants as loaded
use Rattle.jasmin.specs.declared.source.ConstantWidth.{ConstantWidth}
use Rattle.jasmin.specs.declared.source.ConstantWidth.TheVariants as constant_width
use Rattle.jasmin.specs.declared.source.BranchWidth.{BranchWidth}
use Rattle.jasmin.specs.declared.source.BranchWidth.TheVariants as branch_width
use Rattle.jasmin.specs.declared.source.FieldName.{FieldName}
use Rattle.jasmin.specs.declared.source.MethodName.{MethodName}
use Rattle.jasmin.specs.declared.source.Operation.{Operation}
use Rattle.jasmin.specs.declared.source.Operation.TheVariants as operation
use Rattle.jasmin.specs.declared.statement.Instruction.{Instruction}
use Rattle.jasmin.specs.declared.statement.Instruction.TheVariants as instruction
use Rattle.jasmin.specs.Numerals.{number_of}
use Rattle.jasmin.specs.Operands.{descriptor_of}
use Rattle.jasmin.specs.Statements.{instruction_with, loaded_at, constant_operation, increment_operation, branch_operation, field_operation, invoke_operation, operands_after_method, class_operation, is_usable_word, new_array_operation, multi_new_array_operation}
use Rattle.assembly.specs.Opcodes.{local_opcode, branch_opcode, wide_branch_opcode, field_opcode, invoke_opcode, class_opcode}
use Rattle.source_form_laws.specs.Formed.{IsSigned, IsFormedOperation, IsFormedLoad, IsFormedMethodName, IsCounted}
use Rattle.listing_spec.specs.Printed.{opcode_of, operand_words, loaded_word, array_type_name, member_word, count_words}
use Rattle.listing_spec.specs.Printable.{is_word, is_before_descriptor, is_loadable_word, is_printable_operation}
use Rattle.listing_spec.specs.Listable.{IsListableLoad, IsListableOperation}
use Rattle.listing_laws.proofs.Words.{IsPiece, ArePieces, fixed_piece, plain_piece, word_units}
use Rattle.listing_laws.proofs.Numbers.{decimal_plain, signed_plain, signed_reads, small7, small15, small31, small63, i8_reads, i16_reads, i32_reads, i64_reads, u8_reads, u16_reads}
use Rattle.listing_laws.proofs.Names.{head_plain, entry_head, descriptor_head, behind_head}
use Rattle.listing_laws.proofs.Quotes.{quoted_piece}
use Rattle.listing_laws.proofs.Labels.{IsLabelWord, label_word}
use Rattle.listing_laws.proofs.Members.{member_is, descriptor_cut, IsBefore, before_is, slashed_before, plain_push, name_no_slash, method_no_slash}
use Rattle.listing_laws.proofs.Mnemonics.{is_nameless}

-- Decides whether no colon follows an instruction's mnemonic.
abbrev pub no_colon : List Lexeme → Bool
no_colon (lexeme.Colon ∷ ls) = false
no_colon _ = true

-- Returns the instruction that an operation's line begins.
abbrev pub instruction_of : Operation → Instruction
instruction_of (operation.Table lines) = instruction.Table lines.low
instruction_of (operation.Lookup lines) = instruction.Lookup
instruction_of o = instruction.Whole o

-- These words after the mnemonic of an opcode are read as this instruction.
pub record IsRead (code : ℕ) (form : Opcode) (ws : List (List ℕ)) (i : Instruction) : Type 0 where
  pub is : IsOpcode code form
  pub named : is_nameless form ≡ false
  pub lexemes : List Lexeme
  pub pieces : ArePieces ws lexemes
  pub behind : no_colon lexemes ≡ true
  pub reads : instruction_with code form lexemes ≡ Ok i

-- An operation's opcode has this form.
abbrev pub form_of : Operation → Opcode → Type 0
form_of o form = IsRead (opcode_of o) form (operand_words o) (instruction_of o)

-- ---- Opcodes

local_is : (how : LocalUse) → IsOpcode (local_opcode how) (opcode.Local how)
local_is (local.Load kind.Int) = refl
local_is (local.Load kind.Long) = refl
local_is (local.Load kind.Float) = refl
local_is (local.Load kind.Double) = refl
local_is (local.Load kind.Reference) = refl
local_is (local.Store kind.Int) = refl
local_is (local.Store kind.Long) = refl
local_is (local.Store kind.Float) = refl
local_is (local.Store kind.Double) = refl
local_is (local.Store kind.Reference) = refl
local_is local.Return = refl

branch_is : (how : Branch) → IsOpcode (branch_opcode how) (opcode.Branch how)
branch_is (branch.IfZero comparison.Equal) = refl
branch_is (branch.IfZero comparison.NotEqual) = refl
branch_is (branch.IfZero comparison.Less) = refl
branch_is (branch.IfZero comparison.GreaterOrEqual) = refl
branch_is (branch.IfZero comparison.Greater) = refl
branch_is (branch.IfZero comparison.LessOrEqual) = refl
branch_is (branch.IfInts comparison.Equal) = refl
branch_is (branch.IfInts comparison.NotEqual) = refl
branch_is (branch.IfInts comparison.Less) = refl
branch_is (branch.IfInts comparison.GreaterOrEqual) = refl
branch_is (branch.IfInts comparison.Greater) = refl
branch_is (branch.IfInts comparison.LessOrEqual) = refl
branch_is branch.IfSame = refl
branch_is branch.IfDifferent = refl
branch_is branch.Goto = refl
branch_is branch.Subroutine = refl
branch_is branch.IfNull = refl
branch_is branch.IfNonNull = refl

-- Decides whether a branch has a form with an offset of four bytes. Only goto and jsr have.
abbrev has_wide : Branch → Bool
has_wide branch.Goto = true
has_wide branch.Subroutine = true
has_wide _ = false

abbrev is_known : Opcode → Bool
is_known (opcode.BranchWide how) = has_wide how
is_known _ = true

all_known : list_all is_known OPCODES ≡ true
all_known = refl

-- A test that holds for all elements of a list holds for the element at each place.
at_place : {A : Type 0} (test : A → Bool) (xs : List A) (place : ℕ) (x : A) → list_all test xs ≡ true → slice_get xs place ≡ Some x → test x ≡ true
at_place test [] place x all is = absurd (none-some x is)
at_place test (y ∷ xs) zero x all is = ap test (sym (same_Some y x is)) ∙ (and_parts (test y) (list_all test xs) all).0
at_place test (y ∷ xs) (suc place) x all is = at_place test xs place x (and_parts (test y) (list_all test xs) all).1 is

wide_of : (how : Branch) → has_wide how ≡ true → IsOpcode (wide_branch_opcode how) (opcode.BranchWide how)
wide_of branch.Goto has = refl
wide_of branch.Subroutine has = refl
wide_of how has = absurd (false≢true has)

wide_is : (how : Branch) (code : ℕ) → IsOpcode code (opcode.BranchWide how) → IsOpcode (wide_branch_opcode how) (opcode.BranchWide how)
wide_is how code is = wide_of how (at_place is_known OPCODES code (opcode.BranchWide how) all_known is)

field_is : (how : FieldUse) → IsOpcode (field_opcode how) (opcode.Field how)
field_is field_use.GetStatic = refl
field_is field_use.PutStatic = refl
field_is field_use.Get = refl
field_is field_use.Put = refl

invoke_is : (how : Invoke) → IsOpcode (invoke_opcode how) (opcode.Invoke how)
invoke_is invoke.Virtual = refl
invoke_is invoke.Special = refl
invoke_is invoke.Static = refl
invoke_is invoke.Interface = refl

class_is : (how : ClassUse) → IsOpcode (class_opcode how) (opcode.Class how)
class_is class_use.New = refl
class_is class_use.NewArray = refl
class_is class_use.CheckCast = refl
class_is class_use.InstanceOf = refl

-- ---- Constants

loaded_lexeme : LoadedConstant → Lexeme
loaded_lexeme (loaded.Integer n) = lexeme.Word (signed_decimal n)
loaded_lexeme (loaded.String text) = lexeme.Text text
loaded_lexeme (loaded.Class name) = lexeme.Word name

loaded_piece : (c : LoadedConstant) → IsFormedLoad c → IsListableLoad c → is_loadable_word c ≡ true → IsPiece (loaded_word c) (loaded_lexeme c)
unfolding loaded_lexeme
loaded_piece (loaded.Integer n) formed listable word = plain_piece (signed_decimal n) (signed_plain n (small31 n formed))
loaded_piece (loaded.String text) formed listable word = quoted_piece text listable
loaded_piece (loaded.Class name) formed listable word = plain_piece name (head_plain name (entry_head name formed) (and_parts (is_word name) (not (is_some (number_of name))) word).0)

none_is : (o : Option ℤ) → not (is_some o) ≡ true → o ≡ None
none_is None e = refl
none_is (Some n) e = absurd cc

loaded_reads : (c : LoadedConstant) → IsFormedLoad c → is_loadable_word c ≡ true → loaded_at (Some (loaded_lexeme c)) ≡ Ok c
unfolding loaded_lexeme
loaded_reads (loaded.Integer n) formed word = rw (signed_reads n (small31 n formed), i32_reads n formed) refl
loaded_reads (loaded.String text) formed word = refl
loaded_reads (loaded.Class name) formed word =
    rw (none_is (number_of name) (and_parts (is_word name) (not (is_some (number_of name))) word).1, formed) refl

loaded_behind : (c : LoadedConstant) → no_colon (loaded_lexeme c ∷ []) ≡ true
unfolding loaded_lexeme
loaded_behind (loaded.Integer n) = refl
loaded_behind (loaded.String text) = refl
loaded_behind (loaded.Class name) = refl

constant_reads : (width : ConstantWidth) (c : LoadedConstant) → IsFormedLoad c → is_loadable_word c ≡ true → constant_operation width (loaded_lexeme c ∷ []) ≡ Ok (operation.Constant width c)
unfolding constant_operation
constant_reads width c formed word = rw (loaded_reads c formed word) refl

-- ---- Members

field_reads : (how : FieldUse) (f : FieldName) → is_class_entry_name f.class ≡ true → is_name f.name ≡ true → is_some (field_type_of f.descriptor) ≡ true
    → field_operation how (lexeme.Word (member_word f.class f.name) ∷ lexeme.Word f.descriptor ∷ []) ≡ Ok (operation.Field how f)
unfolding field_operation
field_reads how f class name descriptor =
    let m = member_is is_name f.class f.name class name (name_no_slash f.name name) in
    rw (m.member, descriptor, m.class_is, m.name_is) refl

count_lexemes : Invoke → List ℕ → List Lexeme
count_lexemes invoke.Interface descriptor = lexeme.Word (decimal (unwrap_or (interface_count (Some ([], descriptor))) 0)) ∷ []
count_lexemes _ descriptor = []

counts_are : (how : Invoke) (descriptor : List ℕ) → IsCounted how descriptor → ArePieces (count_words how descriptor) (count_lexemes how descriptor)
unfolding count_lexemes
counts_are invoke.Interface d (units, is, small) = rw is (plain_piece (decimal units) (decimal_plain units (omega arith)), tt)
counts_are invoke.Virtual d counted = tt
counts_are invoke.Special d counted = tt
counts_are invoke.Static d counted = tt

counted : (how : Invoke) (w d : List ℕ) → descriptor_of w ≡ d → IsCounted how d → operands_after_method how (lexeme.Word w ∷ count_lexemes how d) ≡ Ok tt
unfolding count_lexemes
counted invoke.Interface w d same (units, is, small) = rw (same, is, u8_reads units small, is, eq-eqb units units refl) refl
counted invoke.Virtual w d same c = refl
counted invoke.Special w d same c = refl
counted invoke.Static w d same c = refl

invoke_reads : (how : Invoke) (m : MethodName) → IsFormedMethodName how m → IsBefore (member_word m.class m.name)
    → invoke_operation how (lexeme.Word (member_word m.class m.name ++ m.descriptor) ∷ count_lexemes how m.descriptor) ≡ Ok (operation.Invoke how m)
unfolding invoke_operation
invoke_reads how m (class, name, invocable, descriptor, units) before =
    let member = member_is is_method_name m.class m.name class name (method_no_slash m.name name) in
    let cut = descriptor_cut true (member_word m.class m.name) m.descriptor before.none descriptor in
    rw (cut.before, cut.from, member.member, descriptor, member.name_is, invocable, counted how (member_word m.class m.name ++ m.descriptor) m.descriptor cut.from units, member.class_is, member.name_is) refl

-- ---- Classes

usable : (how : ClassUse) (w : List ℕ) → is_class_entry_name w ≡ true → is_usable_class how w ≡ true → is_usable_word how w ≡ true
usable class_use.New w class is = is
usable class_use.NewArray w class is = rw (class, is) refl
usable class_use.CheckCast w class is = rw class refl
usable class_use.InstanceOf w class is = rw class refl

class_reads : (how : ClassUse) (w : List ℕ) → is_class_entry_name w ≡ true → is_usable_class how w ≡ true → class_operation how (lexeme.Word w ∷ []) ≡ Ok (operation.Class how w)
unfolding class_operation
class_reads how w class is = rw (usable how w class is, class) refl

array_piece : (type : ArrayType) → IsPiece (array_type_name type) (lexeme.Word (array_type_name type))
array_piece array_type.Boolean = fixed_piece (codes "boolean") refl
array_piece array_type.Char = fixed_piece (codes "char") refl
array_piece array_type.Float = fixed_piece (codes "float") refl
array_piece array_type.Double = fixed_piece (codes "double") refl
array_piece array_type.Byte = fixed_piece (codes "byte") refl
array_piece array_type.Short = fixed_piece (codes "short") refl
array_piece array_type.Int = fixed_piece (codes "int") refl
array_piece array_type.Long = fixed_piece (codes "long") refl

array_reads : (type : ArrayType) → new_array_operation (lexeme.Word (array_type_name type) ∷ []) ≡ Ok (operation.NewArray type)
unfolding new_array_operation
array_reads array_type.Boolean = refl
array_reads array_type.Char = refl
array_reads array_type.Float = refl
array_reads array_type.Double = refl
array_reads array_type.Byte = refl
array_reads array_type.Short = refl
array_reads array_type.Int = refl
array_reads array_type.Long = refl

multi_reads : (name : List ℕ) (count : ℕ) → is_class_entry_name name ≡ true → IsU1 count → is_dimensions count (Some name) ≡ true → multi_new_array_operation (lexeme.Word name ∷ lexeme.Word (decimal count) ∷ []) ≡ Ok (operation.MultiNewArray name count)
unfolding multi_new_array_operation
multi_reads name count class small is = rw (class, u8_reads count small, is) refl

-- ---- Numbers and labels

increment_reads : (n : ℕ) (by : ℤ) → n < 2 ^ 16 → IsSigned 15 by → increment_operation (lexeme.Word (decimal n) ∷ lexeme.Word (signed_decimal by) ∷ []) ≡ Ok (operation.Increment n by)
unfolding increment_operation
increment_reads n by small step = rw (u16_reads n small, i16_reads by step) refl

branch_reads : (width : BranchWidth) (how : Branch) (label : List ℕ) → IsLabelWord label → branch_operation width how (lexeme.Word label ∷ []) ≡ Ok (operation.Branch width how label)
unfolding branch_operation
branch_reads width how label is = rw is.label refl

-- ---- Each operation

pub record Form (o : Operation) : Type 0 where
  pub form : Opcode
  pub is : form_of o form

pub operation_reads : (o : Operation) → IsFormedOperation o → IsListableOperation o → is_printable_operation o ≡ true → Form o
unfolding IsFormedOperation IsListableOperation is_printable_operation operand_words
operation_reads (operation.Alone code) (s, formed) listable word =
    record { form = opcode.Alone s; is = record { is = formed; named = refl; lexemes = []; pieces = tt; behind = refl; reads = refl } }
operation_reads (operation.PushByte n) formed listable word =
    record { form = opcode.PushByte; is = record { is = refl; named = refl; lexemes = lexeme.Word (signed_decimal n) ∷ []; pieces = (plain_piece (signed_decimal n) (signed_plain n (small7 n formed)), tt); behind = refl; reads = rw (i8_reads n formed) refl } }
operation_reads (operation.PushShort n) formed listable word =
    record { form = opcode.PushShort; is = record { is = refl; named = refl; lexemes = lexeme.Word (signed_decimal n) ∷ []; pieces = (plain_piece (signed_decimal n) (signed_plain n (small15 n formed)), tt); behind = refl; reads = rw (i16_reads n formed) refl } }
operation_reads (operation.Constant constant_width.AsNeeded c) formed listable word =
    record { form = opcode.Constant; is = record { is = refl; named = refl; lexemes = loaded_lexeme c ∷ []; pieces = (loaded_piece c formed listable word, tt); behind = loaded_behind c; reads = rw (constant_reads constant_width.AsNeeded c formed word) refl } }
operation_reads (operation.Constant constant_width.Wide c) formed listable word =
    record { form = opcode.ConstantWide; is = record { is = refl; named = refl; lexemes = loaded_lexeme c ∷ []; pieces = (loaded_piece c formed listable word, tt); behind = loaded_behind c; reads = rw (constant_reads constant_width.Wide c formed word) refl } }
operation_reads (operation.ConstantLong n) formed listable word =
    record { form = opcode.ConstantLong; is = record { is = refl; named = refl; lexemes = lexeme.Word (signed_decimal n) ∷ []; pieces = (plain_piece (signed_decimal n) (signed_plain n (small63 n formed)), tt); behind = refl; reads = rw (i64_reads n formed) refl } }
operation_reads (operation.Local how n) formed listable word =
    record { form = opcode.Local how; is = record { is = local_is how; named = refl; lexemes = lexeme.Word (decimal n) ∷ []; pieces = (plain_piece (decimal n) (decimal_plain n (omega arith)), tt); behind = refl; reads = rw (u16_reads n formed) refl } }
operation_reads (operation.Increment n by) formed listable word =
    let small : n < 2 ^ 16 = formed.0 in
    record { form = opcode.Increment; is = record { is = refl; named = refl; lexemes = lexeme.Word (decimal n) ∷ lexeme.Word (signed_decimal by) ∷ []; pieces = (plain_piece (decimal n) (decimal_plain n (omega arith)), (plain_piece (signed_decimal by) (signed_plain by (small15 by formed.1)), tt)); behind = refl; reads = rw (increment_reads n by formed.0 formed.1) refl } }
operation_reads (operation.Branch branch_width.Short how label) formed listable word =
    let l = label_word label listable in
    record { form = opcode.Branch how; is = record { is = branch_is how; named = refl; lexemes = lexeme.Word label ∷ []; pieces = (plain_piece label l.word, tt); behind = refl; reads = rw (branch_reads branch_width.Short how label l) refl } }
operation_reads (operation.Branch branch_width.Wide how label) (code, formed) listable word =
    let l = label_word label listable in
    record { form = opcode.BranchWide how; is = record { is = wide_is how code formed; named = refl; lexemes = lexeme.Word label ∷ []; pieces = (plain_piece label l.word, tt); behind = refl; reads = rw (branch_reads branch_width.Wide how label l) refl } }
operation_reads (operation.Table lines) formed listable word =
    record { form = opcode.TableSwitch; is = record { is = refl; named = refl; lexemes = lexeme.Word (signed_decimal lines.low) ∷ []; pieces = (plain_piece (signed_decimal lines.low) (signed_plain lines.low (small31 lines.low formed.0)), tt); behind = refl; reads = rw (i32_reads lines.low formed.0) refl } }
operation_reads (operation.Lookup lines) formed listable word =
    record { form = opcode.LookupSwitch; is = record { is = refl; named = refl; lexemes = []; pieces = tt; behind = refl; reads = refl } }
operation_reads (operation.Field how f) formed listable word =
    let first = and_parts (is_word f.class) (is_word f.name && is_word f.descriptor) word in
    let second = and_parts (is_word f.name) (is_word f.descriptor) first.1 in
    record {
      form = opcode.Field how;
      is = record {
        is = field_is how;
        named = refl;
        lexemes = lexeme.Word (member_word f.class f.name) ∷ lexeme.Word f.descriptor ∷ [];
        pieces = (plain_piece (member_word f.class f.name) (plain_push f.class (47 ∷ f.name) (entry_head f.class formed.0) (word_units f.class first.0) (word_units f.name second.0)), (plain_piece f.descriptor (head_plain f.descriptor (descriptor_head f.descriptor formed.2) second.1), tt));
        behind = refl;
        reads = rw (field_reads how f formed.0 formed.1 formed.2) refl;
      };
    }
operation_reads (operation.Invoke how m) formed listable word =
    let first = and_parts (is_before_descriptor m.class) (is_before_descriptor m.name && is_word m.descriptor) word in
    let second = and_parts (is_before_descriptor m.name) (is_word m.descriptor) first.1 in
    let before = slashed_before m.class m.name (before_is m.class first.0) (before_is m.name second.0) in
    record {
      form = opcode.Invoke how;
      is = record {
        is = invoke_is how;
        named = refl;
        lexemes = lexeme.Word (member_word m.class m.name ++ m.descriptor) ∷ count_lexemes how m.descriptor;
        pieces = (plain_piece (member_word m.class m.name ++ m.descriptor) (plain_push (member_word m.class m.name) m.descriptor (behind_head m.class (47 ∷ m.name) (entry_head m.class formed.0)) before.units (word_units m.descriptor second.1)), counts_are how m.descriptor formed.4);
        behind = refl;
        reads = rw (invoke_reads how m formed before) refl;
      };
    }
operation_reads (operation.Class how name) formed listable word =
    record { form = opcode.Class how; is = record { is = class_is how; named = refl; lexemes = lexeme.Word name ∷ []; pieces = (plain_piece name (head_plain name (entry_head name formed.0) word), tt); behind = refl; reads = rw (class_reads how name formed.0 formed.1) refl } }
operation_reads (operation.NewArray type) formed listable word =
    record { form = opcode.NewArray; is = record { is = refl; named = refl; lexemes = lexeme.Word (array_type_name type) ∷ []; pieces = (array_piece type, tt); behind = refl; reads = rw (array_reads type) refl } }
operation_reads (operation.MultiNewArray name count) formed listable word =
    let small : count < 2 ^ 8 = formed.1 in
    record { form = opcode.MultiNewArray; is = record { is = refl; named = refl; lexemes = lexeme.Word name ∷ lexeme.Word (decimal count) ∷ []; pieces = (plain_piece name (head_plain name (entry_head name formed.0) word), (plain_piece (decimal count) (decimal_plain count (omega arith)), tt)); behind = refl; reads = rw (multi_reads name count formed.0 formed.1 formed.2) refl } }
