-- Defines the grammar of the lines of instructions.
use Rattle.std.specs.Prelude.{◌≡◌, ◌⊎◌, IsTrue, ℕ, true, List, [], ◌∷◌, ◌++◌, map, Some, slice_get, ℤ, codes}
use Rattle.jvms_file.specs.Names.{is_method_name}
use Rattle.jvms_file.specs.Instructions.{is_invocable_name, is_usable_class, is_dimensions, interface_count}
use Rattle.jvms_file.specs.Members.{is_method_descriptor_for}
use Rattle.jvms_file.specs.Spelling.{IsOpcode}
use Rattle.jvms_file.specs.declared.insn.Opcode.{Opcode}
use Rattle.jvms_file.specs.declared.insn.Opcode.TheVariants as opcode
use Rattle.jvms_file.specs.declared.insn.Simple.{Simple}
use Rattle.jvms_file.specs.declared.insn.Invoke.{Invoke}
use Rattle.jvms_file.specs.declared.insn.Invoke.TheVariants as invoke
use Rattle.jasmin.specs.declared.mnemonic.TheConstants.{MNEMONICS}
use Rattle.jasmin.specs.declared.token.Lexeme.{Lexeme}
use Rattle.jasmin.specs.declared.token.Lexeme.TheVariants as lexeme
use Rattle.jasmin.specs.declared.source.LoadedConstant.{LoadedConstant}
use Rattle.jasmin.specs.declared.source.LoadedConstant.TheVariants as loaded
use Rattle.jasmin.specs.declared.source.ConstantWidth.TheVariants as constant_width
use Rattle.jasmin.specs.declared.source.BranchWidth.TheVariants as branch_width
use Rattle.jasmin.specs.declared.source.Operation.{Operation}
use Rattle.jasmin.specs.declared.source.Operation.TheVariants as operation
use Rattle.jasmin.specs.declared.statement.Instruction.{Instruction}
use Rattle.jasmin.specs.declared.statement.Instruction.TheVariants as instruction
use Rattle.source_grammar_laws.specs.Numbers.{SpellsNumber, SpellsSigned, SpellsUnsigned}
use Rattle.source_grammar_laws.specs.Words.{IsName, IsClass, IsFieldDescriptor, IsLabel, HasNoParenthesis, type_word}

-- A word is the mnemonic of an opcode (JVMS 6.5). `invokenonvirtual` is another name of invokespecial.
abbrev pub IsMnemonic : List ℕ → ℕ → Type 0
IsMnemonic w code = (slice_get (map (λ name. name.now) MNEMONICS) code ≡ Some w) ⊎ ((w ≡ codes "invokenonvirtual") × (code ≡ 183))

-- Tokens are the mnemonic of an opcode, and operands. The opcode has this form.
abbrev pub Names : List Lexeme → ℕ → Opcode → List Lexeme → Type 0
Names ts code form operands =
    (w : List ℕ) × (ts ≡ lexeme.Word w ∷ operands) × IsMnemonic w code × IsOpcode code form

-- Tokens are the mnemonic of an opcode of this form, and operands.
abbrev pub Begins : List Lexeme → Opcode → List Lexeme → Type 0
Begins ts form operands = (code : ℕ) × Names ts code form operands

-- A token spells the constant of `ldc` or `ldc_w`: a number, a text, or a class whose name isn't spelled like a number.
abbrev pub SpellsLoaded : Lexeme → LoadedConstant → Type 0
SpellsLoaded t (loaded.Integer n) = (w : List ℕ) × (t ≡ lexeme.Word w) × SpellsSigned 31 w n
SpellsLoaded t (loaded.String text) = t ≡ lexeme.Text text
SpellsLoaded t (loaded.Class name) = (t ≡ lexeme.Word name) × IsClass name × ((z : ℤ) → SpellsNumber name z → ⊥)

-- For invokeinterface, the tokens after the method are the number of units of the arguments with the object (JVMS
-- 4.3.3). Other invoke instructions have no such tokens.
abbrev pub SpellsCount : Invoke → List ℕ → List Lexeme → Type 0
SpellsCount invoke.Interface descriptor ts =
    (w : List ℕ) × (n : ℕ) × (ts ≡ lexeme.Word w ∷ []) × SpellsUnsigned 8 w n × (interface_count (Some ([], descriptor)) ≡ Some n)
SpellsCount _ descriptor ts = ts ≡ []

-- Tokens spell an instruction that is no switch. A member is `class/name`, split at the last slash, and a method's
-- descriptor directly follows its name.
abbrev pub SpellsOperation : List Lexeme → Operation → Type 0
SpellsOperation ts (operation.Alone code) = (s : Simple) × Names ts code (opcode.Alone s) []
SpellsOperation ts (operation.PushByte n) =
    (w : List ℕ) × Begins ts opcode.PushByte (lexeme.Word w ∷ []) × SpellsSigned 7 w n
SpellsOperation ts (operation.PushShort n) =
    (w : List ℕ) × Begins ts opcode.PushShort (lexeme.Word w ∷ []) × SpellsSigned 15 w n
SpellsOperation ts (operation.Constant constant_width.AsNeeded c) =
    (t : Lexeme) × Begins ts opcode.Constant (t ∷ []) × SpellsLoaded t c
SpellsOperation ts (operation.Constant constant_width.Wide c) =
    (t : Lexeme) × Begins ts opcode.ConstantWide (t ∷ []) × SpellsLoaded t c
SpellsOperation ts (operation.ConstantLong n) =
    (w : List ℕ) × Begins ts opcode.ConstantLong (lexeme.Word w ∷ []) × SpellsSigned 63 w n
SpellsOperation ts (operation.Local how n) =
    (w : List ℕ) × Begins ts (opcode.Local how) (lexeme.Word w ∷ []) × SpellsUnsigned 16 w n
SpellsOperation ts (operation.Increment n by) =
    (v w : List ℕ) × Begins ts opcode.Increment (lexeme.Word v ∷ lexeme.Word w ∷ []) × SpellsUnsigned 16 v n × SpellsSigned 15 w by
SpellsOperation ts (operation.Branch branch_width.Short how label) =
    Begins ts (opcode.Branch how) (lexeme.Word label ∷ []) × IsLabel label
SpellsOperation ts (operation.Branch branch_width.Wide how label) =
    Begins ts (opcode.BranchWide how) (lexeme.Word label ∷ []) × IsLabel label
SpellsOperation ts (operation.Table lines) = ⊥
SpellsOperation ts (operation.Lookup lines) = ⊥
SpellsOperation ts (operation.Field how f) =
    Begins ts (opcode.Field how) (lexeme.Word (f.class ++ 47 ∷ f.name) ∷ lexeme.Word f.descriptor ∷ [])
    × IsClass f.class × IsName f.name × IsFieldDescriptor f.descriptor
SpellsOperation ts (operation.Invoke how m) =
    (counted : List Lexeme) × Begins ts (opcode.Invoke how) (lexeme.Word ((m.class ++ 47 ∷ m.name) ++ m.descriptor) ∷ counted)
    × IsClass m.class × IsTrue (is_method_name m.name) × HasNoParenthesis (m.class ++ 47 ∷ m.name)
    × IsTrue (is_invocable_name how m.name) × IsTrue (is_method_descriptor_for true m.descriptor) × SpellsCount how m.descriptor counted
SpellsOperation ts (operation.Class how name) =
    Begins ts (opcode.Class how) (lexeme.Word name ∷ []) × IsClass name × IsTrue (is_usable_class how name)
SpellsOperation ts (operation.NewArray type) = Begins ts opcode.NewArray (lexeme.Word (type_word type) ∷ [])
SpellsOperation ts (operation.MultiNewArray name count) =
    (w : List ℕ) × Begins ts opcode.MultiNewArray (lexeme.Word name ∷ lexeme.Word w ∷ [])
    × IsClass name × SpellsUnsigned 8 w count × IsTrue (is_dimensions count (Some name))

-- Tokens spell an instruction, or the first line of a switch: `tableswitch low` or `lookupswitch`.
abbrev pub SpellsInstruction : List Lexeme → Instruction → Type 0
SpellsInstruction ts (instruction.Whole o) = SpellsOperation ts o
SpellsInstruction ts (instruction.Table low) =
    (w : List ℕ) × Begins ts opcode.TableSwitch (lexeme.Word w ∷ []) × SpellsSigned 31 w low
SpellsInstruction ts instruction.Lookup = Begins ts opcode.LookupSwitch []
