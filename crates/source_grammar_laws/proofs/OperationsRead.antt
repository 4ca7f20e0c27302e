-- Proves that tokens that spell an instruction are read as this instruction.
use Rattle.std.proofs.Common.{◌≡◌, ℕ, ◌-◌, ◌^◌, ◌||◌, Bool, true, false, not, List, [], ◌∷◌, ◌++◌, Option, Some, None, Ok, IsTrue, ℤ, refl}
use Rattle.std.specs.Prelude.{pos, neg_ℤ}
use Rattle.std.proofs.lemmas.Bool.{eq-eqb}
use Rattle.jvms_file.specs.declared.insn.Opcode.{Opcode}
use Rattle.jvms_file.specs.declared.insn.Opcode.TheVariants as opcode
use Rattle.jvms_file.specs.declared.insn.FieldUse.{FieldUse}
use Rattle.jvms_file.specs.declared.insn.Invoke.{Invoke}
use Rattle.jvms_file.specs.declared.insn.Invoke.TheVariants as invoke
use Rattle.jvms_file.specs.declared.insn.ClassUse.{ClassUse}
use Rattle.jvms_file.specs.declared.insn.ClassUse.TheVariants as class_use
use Rattle.jvms_file.specs.Names.{is_name, is_method_name, begins_with}
use Rattle.jvms_file.specs.Descriptors.{is_class_entry_name}
use Rattle.jvms_file.specs.Instructions.{is_invocable_name, is_usable_class, interface_count}
use Rattle.jvms_file.specs.Members.{is_method_descriptor_for}
use Rattle.jvms_file.specs.Spelling.{IsOpcode}
use Rattle.jasmin.specs.declared.token.Lexeme.{Lexeme}
use Rattle.jasmin.specs.declared.token.Lexeme.TheVariants as lexeme
use Rattle.jasmin.specs.declared.source.LoadedConstant.{LoadedConstant}
use Rattle.jasmin.specs.declared.source.LoadedConstant.TheVariants as loaded
use Rattle.jasmin.specs.declared.source.ConstantWidth.TheVariants as constant_width
use Rattle.jasmin.specs.declared.source.BranchWidth.TheVariants as branch_width
use Rattle.jasmin.specs.declared.source.FieldName.{FieldName}
use Rattle.jasmin.specs.declared.source.MethodName.{MethodName}
use Rattle.jasmin.specs.declared.source.Operation.{Operation}
use Rattle.jasmin.specs.declared.source.Operation.TheVariants as operation
use Rattle.jasmin.specs.declared.statement.Instruction.{Instruction}
use Rattle.jasmin.specs.declared.statement.Instruction.TheVariants as instruction
use Rattle.jasmin.specs.Numerals.{number_of}
use Rattle.jasmin.specs.LineKinds.{opcode_named}
use Rattle.jasmin.specs.Operands.{descriptor_of, number_at, u8_at}
use Rattle.jasmin.specs.Statements.{whole, loaded_at, constant_operation, increment_operation, branch_operation, field_operation, named_method, counted_at, operands_after_method, invoke_operation, is_usable_word, class_operation, new_array_operation, multi_new_array_operation, instruction_with, instruction_line}
use Rattle.source_grammar_laws.specs.Numbers.{SpellsNumber, SpellsSigned, SpellsUnsigned}
use Rattle.source_grammar_laws.specs.Words.{IsClass, HasNoParenthesis, type_word}
use Rattle.source_grammar_laws.specs.Instructions.{Names, Begins, SpellsLoaded, SpellsCount, SpellsOperation, SpellsInstruction}
use Rattle.source_grammar_laws.proofs.Labels.{is_label_reads}
use Rattle.source_grammar_laws.proofs.Numbers.{number_says, number_said}
use Rattle.source_grammar_laws.proofs.Members.{descriptor_begins, IsCutWord, cut_word, name_no_slash, method_no_slash, IsCutMember, cut_member}
use Rattle.source_grammar_laws.proofs.Mnemonics.{is_nameless, mnemonic_says}
use Rattle.source_grammar_laws.proofs.Places.{number_place_says, u16_says, u8_says, array_type_says}

-- ---- The mnemonic and the operands

abbrev pub begins_colon : List Lexeme → Bool
begins_colon (lexeme.Colon ∷ ts) = true
begins_colon _ = false

-- Tokens are a mnemonic and operands, and are read as this instruction.
pub record IsRead (ts : List Lexeme) (i : Instruction) : Type 0 where
  pub w : List ℕ
  pub code : ℕ
  pub operands : List Lexeme
  pub whole : ts ≡ lexeme.Word w ∷ operands
  pub named : opcode_named w ≡ Some code
  pub no_dot : begins_with 46 w ≡ false
  pub no_colon : begins_colon operands ≡ false
  pub read : instruction_line code operands ≡ Ok i

line_read : (code : ℕ) (form : Opcode) (ts : List Lexeme) (i : Instruction) → IsOpcode code form → instruction_with code form ts ≡ Ok i → instruction_line code ts ≡ Ok i
unfolding instruction_line
line_read code form ts i is e = rw is e

names_read : (ts : List Lexeme) (code : ℕ) (form : Opcode) (operands : List Lexeme) (i : Instruction) → is_nameless form ≡ false → begins_colon operands ≡ false → Names ts code form operands → instruction_with code form operands ≡ Ok i → IsRead ts i
names_read ts code form operands i other no_colon (w, whole, named, is) e =
    let n = mnemonic_says w code form other named is in
    record { w = w; code = code; operands = operands; whole = whole; named = n.named; no_dot = n.no_dot; no_colon = no_colon; read = line_read code form operands i is e }

begins_read : (ts : List Lexeme) (form : Opcode) (operands : List Lexeme) (i : Instruction) → is_nameless form ≡ false → begins_colon operands ≡ false → Begins ts form operands → ((code : ℕ) → instruction_with code form operands ≡ Ok i) → IsRead ts i
begins_read ts form operands i other no_colon (code, names) e = names_read ts code form operands i other no_colon names (e code)

signed_reads : (bits : ℕ) (w : List ℕ) (z : ℤ) → SpellsSigned bits w z → number_at (neg_ℤ (pos (2 ^ bits))) (pos (2 ^ bits - 1)) (Some (lexeme.Word w)) ≡ Ok z
signed_reads bits w z is = number_place_says (neg_ℤ (pos (2 ^ bits))) (pos (2 ^ bits - 1)) w z is.0 is.1

-- ---- Constants

no_number : (w : List ℕ) (o : Option ℤ) → number_of w ≡ o → ((z : ℤ) → SpellsNumber w z → ⊥) → number_of w ≡ None
no_number w None is never = is
no_number w (Some z) is never = absurd (never z (number_said w z is))

loaded_reads : (t : Lexeme) (c : LoadedConstant) → SpellsLoaded t c → loaded_at (Some t) ≡ Ok c
loaded_reads t (loaded.Integer n) (w, e, is) = rw (e, number_says w n is.0, signed_reads 31 w n is) refl
loaded_reads t (loaded.String text) e = rw e refl
loaded_reads t (loaded.Class name) (e, named, never) = rw (e, no_number name (number_of name) refl never, named) refl

loaded_no_colon : (t : Lexeme) (c : LoadedConstant) → SpellsLoaded t c → begins_colon (t ∷ []) ≡ false
loaded_no_colon t (loaded.Integer n) (w, e, is) = rw e refl
loaded_no_colon t (loaded.String text) e = rw e refl
loaded_no_colon t (loaded.Class name) (e, named, never) = rw e refl

short_constant_read : (ts : List Lexeme) (c : LoadedConstant) → SpellsOperation ts (operation.Constant constant_width.AsNeeded c) → IsRead ts (instruction.Whole (operation.Constant constant_width.AsNeeded c))
unfolding constant_operation
short_constant_read ts c (t, begun, is) =
    begins_read ts opcode.Constant (t ∷ []) (instruction.Whole (operation.Constant constant_width.AsNeeded c)) refl (loaded_no_colon t c is) begun (λ code. rw (loaded_reads t c is) refl)

wide_constant_read : (ts : List Lexeme) (c : LoadedConstant) → SpellsOperation ts (operation.Constant constant_width.Wide c) → IsRead ts (instruction.Whole (operation.Constant constant_width.Wide c))
unfolding constant_operation
wide_constant_read ts c (t, begun, is) =
    begins_read ts opcode.ConstantWide (t ∷ []) (instruction.Whole (operation.Constant constant_width.Wide c)) refl (loaded_no_colon t c is) begun (λ code. rw (loaded_reads t c is) refl)

-- ---- Members

field_read : (ts : List Lexeme) (how : FieldUse) (f : FieldName) → SpellsOperation ts (operation.Field how f) → IsRead ts (instruction.Whole (operation.Field how f))
unfolding field_operation
field_read ts how f (begun, class, name, described) =
    let cut = cut_member is_name f.class f.name (name_no_slash f.name name) class name in
    begins_read ts (opcode.Field how) (lexeme.Word (f.class ++ 47 ∷ f.name) ∷ lexeme.Word f.descriptor ∷ []) (instruction.Whole (operation.Field how f)) refl refl begun (λ code.
    rw (cut.member, described, cut.before, cut.behind) refl)

-- The word of a method is split into its class, name and descriptor.
named_read : (how : Invoke) (m : MethodName) (c : IsCutMember is_method_name m.class m.name) (d : IsCutWord (m.class ++ 47 ∷ m.name) m.descriptor) → IsTrue (is_invocable_name how m.name) → IsTrue (is_method_descriptor_for true m.descriptor)
    → named_method how ((m.class ++ 47 ∷ m.name) ++ m.descriptor) ≡ Ok (m.class ++ 47 ∷ m.name, m.descriptor)
named_read how m c d invocable described =
    rw (d.before, d.from, c.member, described, c.behind, invocable) refl

count_reads : (d w : List ℕ) (n : ℕ) → SpellsUnsigned 8 w n → interface_count (Some ([], d)) ≡ Some n → counted_at d (u8_at (Some (lexeme.Word w))) ≡ Ok tt
count_reads d w n is count = rw (u8_says w n is, count, eq-eqb n n refl) refl

behind_read : (how : Invoke) (word d : List ℕ) (counted : List Lexeme) → descriptor_of word ≡ d → SpellsCount how d counted → operands_after_method how (lexeme.Word word ∷ counted) ≡ Ok tt
behind_read invoke.Interface word d counted same (w, n, e, is, count) = rw (e, same, count_reads d w n is count) refl
behind_read invoke.Virtual word d counted same e = rw e refl
behind_read invoke.Special word d counted same e = rw e refl
behind_read invoke.Static word d counted same e = rw e refl

counted_no_colon : (how : Invoke) (word d : List ℕ) (counted : List Lexeme) → begins_colon (lexeme.Word word ∷ counted) ≡ false
counted_no_colon how word d counted = refl

invoke_reads : (how : Invoke) (m : MethodName) (counted : List Lexeme) → IsClass m.class → IsTrue (is_method_name m.name) → HasNoParenthesis (m.class ++ 47 ∷ m.name) → IsTrue (is_invocable_name how m.name)
    → IsTrue (is_method_descriptor_for true m.descriptor) → SpellsCount how m.descriptor counted → invoke_operation how (lexeme.Word ((m.class ++ 47 ∷ m.name) ++ m.descriptor) ∷ counted) ≡ Ok (operation.Invoke how m)
unfolding invoke_operation
invoke_reads how m counted class name none invocable described count =
    let c = cut_member is_method_name m.class m.name (method_no_slash m.name name) class name in
    let d = cut_word (m.class ++ 47 ∷ m.name) m.descriptor none (descriptor_begins true m.descriptor described) in
    rw (named_read how m c d invocable described, behind_read how ((m.class ++ 47 ∷ m.name) ++ m.descriptor) m.descriptor counted d.from count, c.before, c.behind) refl

invoke_read : (ts : List Lexeme) (how : Invoke) (m : MethodName) → SpellsOperation ts (operation.Invoke how m) → IsRead ts (instruction.Whole (operation.Invoke how m))
invoke_read ts how m (counted, begun, class, name, none, invocable, described, count) =
    begins_read ts (opcode.Invoke how) (lexeme.Word ((m.class ++ 47 ∷ m.name) ++ m.descriptor) ∷ counted) (instruction.Whole (operation.Invoke how m)) refl refl begun (λ code.
    rw (invoke_reads how m counted class name none invocable described count) refl)

-- ---- Classes

or_last : (a b : Bool) → IsTrue b → IsTrue (a || b)
or_last true b e = refl
or_last false b e = e

usable_reads : (how : ClassUse) (w : List ℕ) → IsTrue (is_usable_class how w) → IsTrue (is_usable_word how w)
usable_reads class_use.New w e = e
usable_reads how w e = or_last (not (is_class_entry_name w)) (is_usable_class how w) e

class_read : (ts : List Lexeme) (how : ClassUse) (name : List ℕ) → SpellsOperation ts (operation.Class how name) → IsRead ts (instruction.Whole (operation.Class how name))
unfolding class_operation
class_read ts how name (begun, class, usable) =
    begins_read ts (opcode.Class how) (lexeme.Word name ∷ []) (instruction.Whole (operation.Class how name)) refl refl begun (λ code.
    rw (class, usable_reads how name usable) refl)

multi_read : (ts : List Lexeme) (name : List ℕ) (count : ℕ) → SpellsOperation ts (operation.MultiNewArray name count) → IsRead ts (instruction.Whole (operation.MultiNewArray name count))
unfolding multi_new_array_operation
multi_read ts name count (w, begun, class, is, dimensions) =
    begins_read ts opcode.MultiNewArray (lexeme.Word name ∷ lexeme.Word w ∷ []) (instruction.Whole (operation.MultiNewArray name count)) refl refl begun (λ code.
    rw (class, u8_says w count is, dimensions) refl)

-- ---- All instructions

operation_read : (ts : List Lexeme) (o : Operation) → SpellsOperation ts o → IsRead ts (instruction.Whole o)
unfolding increment_operation branch_operation new_array_operation
operation_read ts (operation.Alone code) (s, names) = names_read ts code (opcode.Alone s) [] (instruction.Whole (operation.Alone code)) refl refl names refl
operation_read ts (operation.PushByte n) (w, begun, is) =
    begins_read ts opcode.PushByte (lexeme.Word w ∷ []) (instruction.Whole (operation.PushByte n)) refl refl begun (λ code. rw (signed_reads 7 w n is) refl)
operation_read ts (operation.PushShort n) (w, begun, is) =
    begins_read ts opcode.PushShort (lexeme.Word w ∷ []) (instruction.Whole (operation.PushShort n)) refl refl begun (λ code. rw (signed_reads 15 w n is) refl)
operation_read ts (operation.Constant constant_width.AsNeeded c) is = short_constant_read ts c is
operation_read ts (operation.Constant constant_width.Wide c) is = wide_constant_read ts c is
operation_read ts (operation.ConstantLong n) (w, begun, is) =
    begins_read ts opcode.ConstantLong (lexeme.Word w ∷ []) (instruction.Whole (operation.ConstantLong n)) refl refl begun (λ code. rw (signed_reads 63 w n is) refl)
operation_read ts (operation.Local how n) (w, begun, is) =
    begins_read ts (opcode.Local how) (lexeme.Word w ∷ []) (instruction.Whole (operation.Local how n)) refl refl begun (λ code. rw (u16_says w n is) refl)
operation_read ts (operation.Increment n by) (v, w, begun, local, is) =
    begins_read ts opcode.Increment (lexeme.Word v ∷ lexeme.Word w ∷ []) (instruction.Whole (operation.Increment n by)) refl refl begun (λ code. rw (u16_says v n local, signed_reads 15 w by is) refl)
operation_read ts (operation.Branch branch_width.Short how label) (begun, is) =
    begins_read ts (opcode.Branch how) (lexeme.Word label ∷ []) (instruction.Whole (operation.Branch branch_width.Short how label)) refl refl begun (λ code. rw (is_label_reads label is) refl)
operation_read ts (operation.Branch branch_width.Wide how label) (begun, is) =
    begins_read ts (opcode.BranchWide how) (lexeme.Word label ∷ []) (instruction.Whole (operation.Branch branch_width.Wide how label)) refl refl begun (λ code. rw (is_label_reads label is) refl)
operation_read ts (operation.Table lines) is = absurd is
operation_read ts (operation.Lookup lines) is = absurd is
operation_read ts (operation.Field how f) is = field_read ts how f is
operation_read ts (operation.Invoke how m) is = invoke_read ts how m is
operation_read ts (operation.Class how name) is = class_read ts how name is
operation_read ts (operation.NewArray type) begun =
    begins_read ts opcode.NewArray (lexeme.Word (type_word type) ∷ []) (instruction.Whole (operation.NewArray type)) refl refl begun (λ code. rw (array_type_says type) refl)
operation_read ts (operation.MultiNewArray name count) is = multi_read ts name count is

pub instruction_read : (ts : List Lexeme) (i : Instruction) → SpellsInstruction ts i → IsRead ts i
instruction_read ts (instruction.Whole o) is = operation_read ts o is
instruction_read ts (instruction.Table low) (w, begun, is) =
    begins_read ts opcode.TableSwitch (lexeme.Word w ∷ []) (instruction.Table low) refl refl begun (λ code. rw (signed_reads 31 w low is) refl)
instruction_read ts instruction.Lookup begun = begins_read ts opcode.LookupSwitch [] instruction.Lookup refl refl begun (λ code. refl)
