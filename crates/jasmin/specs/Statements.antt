-- Defines the statement of a line by its operands. Each place is judged by itself, and the line's fault is the one of
-- the least number.
use Rattle.std.specs.Prelude.{not, ℕ, suc, ◌-◌, Bool, true, false, ◌==◌, ◌||◌, nat_le, if◌then◌else◌, List, [], ◌∷◌, length, take, drop, Option, Some, None, slice_get, Ok, Err, ℤ, pos, int_le, codes, bit_or}
use Rattle.jvms_file.specs.Names.{same_text, is_name, is_method_name, is_initializer_name}
use Rattle.jvms_file.specs.Descriptors.{is_class_entry_name}
use Rattle.jvms_file.specs.Instructions.{is_invocable_name, is_usable_class, is_dimensions, interface_count, is_above}
use Rattle.jvms_file.specs.Members.{is_static, is_abstract, is_method_descriptor_for}
use Rattle.jvms_file.specs.declared.insn.TheConstants.{OPCODES}
use Rattle.jvms_file.specs.declared.insn.Opcode.{Opcode}
use Rattle.jvms_file.specs.declared.insn.Opcode.TheVariants as opcode
use Rattle.jvms_file.specs.declared.insn.Branch.{Branch}
use Rattle.jvms_file.specs.declared.insn.FieldUse.{FieldUse}
use Rattle.jvms_file.specs.declared.insn.Invoke.{Invoke}
use Rattle.jvms_file.specs.declared.insn.Invoke.TheVariants as invoke
use Rattle.jvms_file.specs.declared.insn.ClassUse.{ClassUse}
use Rattle.jvms_file.specs.declared.insn.ClassUse.TheVariants as class_use
use Rattle.jasmin.specs.declared.token.Lexeme.{Lexeme}
use Rattle.jasmin.specs.declared.token.Lexeme.TheVariants as lexeme
use Rattle.jasmin.specs.declared.source.LoadedConstant.{LoadedConstant}
use Rattle.jasmin.specs.declared.source.LoadedConstant.TheVariants as loaded
use Rattle.jasmin.specs.declared.source.ConstantWidth.TheVariants as constant_width
use Rattle.jasmin.specs.declared.source.ConstantWidth.{ConstantWidth}
use Rattle.jasmin.specs.declared.source.BranchWidth.{BranchWidth}
use Rattle.jasmin.specs.declared.source.BranchWidth.TheVariants as branch_width
use Rattle.jasmin.specs.declared.source.Operation.{Operation}
use Rattle.jasmin.specs.declared.source.Operation.TheVariants as operation
use Rattle.jasmin.specs.declared.source.FieldConstant.{FieldConstant}
use Rattle.jasmin.specs.declared.source.FieldConstant.TheVariants as constant
use Rattle.jasmin.specs.declared.statement.Flaw.TheVariants as flaw
use Rattle.jasmin.specs.declared.statement.Directive.{Directive}
use Rattle.jasmin.specs.declared.statement.Directive.TheVariants as directive
use Rattle.jasmin.specs.declared.statement.LineKind.{LineKind}
use Rattle.jasmin.specs.declared.statement.LineKind.TheVariants as kind
use Rattle.jasmin.specs.declared.statement.OpenSwitch.{OpenSwitch}
use Rattle.jasmin.specs.declared.statement.OpenSwitch.TheVariants as open_switch
use Rattle.jasmin.specs.declared.statement.ClassSort.{ClassSort}
use Rattle.jasmin.specs.declared.statement.ClassSort.TheVariants as sort
use Rattle.jasmin.specs.declared.statement.Instruction.{Instruction}
use Rattle.jasmin.specs.declared.statement.Instruction.TheVariants as instruction
use Rattle.jasmin.specs.declared.statement.Statement.{Statement}
use Rattle.jasmin.specs.declared.statement.Statement.TheVariants as statement
use Rattle.jasmin.specs.Numerals.{number_of, is_version}
use Rattle.jasmin.specs.Judgements.{Judged, both, map_ok, unless, judge_test}
use Rattle.jasmin.specs.Operands.{exactly, word_at, word_if, keyword_at, name_at, class_name_at, class_at, field_descriptor_at, label_at, i8_at, i16_at, i32_at, i64_at, u8_at, u16_at, class_of, name_of, is_member, before_descriptor, descriptor_of, class_words, field_words, method_words, flags_in, access_words, caught_at, array_type_at}

-- ---- Directives outside of methods

-- Judges the version of `.bytecode M.N`, which is dropped.
abbrev pub version_at : Option Lexeme → Judged (Unit {0})
version_at None = Err flaw.Operand
version_at (Some (lexeme.Word w)) = judge_test (is_version w) flaw.Number
version_at (Some _) = Err flaw.Number

unfoldable pub bytecode_line : List Lexeme → Judged Statement
bytecode_line ts = map_ok (λ _. statement.Bytecode) (both (version_at (slice_get ts 0)) (exactly 1 ts))

-- Judges the operand of `.source`, a word or a text, which is dropped.
abbrev pub file_at : Option Lexeme → Judged (Unit {0})
file_at (Some (lexeme.Word w)) = Ok tt
file_at (Some (lexeme.Text t)) = Ok tt
file_at _ = Err flaw.Operand

unfoldable pub source_line : List Lexeme → Judged Statement
source_line ts = map_ok (λ _. statement.SourceFile) (both (file_at (slice_get ts 0)) (exactly 1 ts))

-- Returns all tokens but the last.
abbrev pub but_last : List Lexeme → List Lexeme
but_last ts = take (length ts - 1) ts

abbrev pub last_of : List Lexeme → Option Lexeme
last_of ts = slice_get ts (length ts - 1)

-- Judges `.class` or `.interface`, with access words and a name. The directive adds flags of its own.
unfoldable pub class_line : ℕ → List Lexeme → Judged Statement
class_line added ts =
    map_ok
    (λ name. statement.Class (bit_or (flags_in class_words (but_last ts)) added) name)
    (unless (class_name_at (last_of ts)) (access_words class_words (but_last ts)))

unfoldable pub super_line : List Lexeme → Judged Statement
super_line ts = map_ok (λ name. statement.Superclass name) (unless (class_name_at (slice_get ts 0)) (exactly 1 ts))

unfoldable pub implements_line : List Lexeme → Judged Statement
implements_line ts = map_ok (λ name. statement.Implements name) (unless (class_name_at (slice_get ts 0)) (exactly 1 ts))

-- ---- Fields

abbrev pub is_equals : Lexeme → Bool
is_equals lexeme.Equals = true
is_equals _ = false

-- Returns the tokens before the first `=`.
abbrev pub field_head : List Lexeme → List Lexeme
field_head [] = []
field_head (t ∷ ts) = if is_equals t then [] else t ∷ field_head ts

-- Returns the tokens after the first `=`, if there is one.
abbrev pub field_tail : List Lexeme → Option (List Lexeme)
field_tail [] = None
field_tail (t ∷ ts) = if is_equals t then Some ts else field_tail ts

-- Decides whether a field's type is long. Its constant is a number of 64 bits.
abbrev pub is_long : List ℕ → Bool
is_long descriptor = same_text descriptor (codes "J")

-- Decides whether a field's constant is an int.
abbrev pub is_int_type : List ℕ → Bool
is_int_type d =
    same_text d (codes "I") || (same_text d (codes "B") || (same_text d (codes "C") || (same_text d (codes "S") || same_text d (codes "Z"))))

abbrev pub is_string_type : List ℕ → Bool
is_string_type d = same_text d (codes "Ljava/lang/String;")

-- Judges a number of 32 bits, the constant of a field of such a type.
abbrev pub int_constant : List ℕ → Judged ℤ → Judged FieldConstant
int_constant descriptor (Ok n) = if is_int_type descriptor then Ok (constant.Integer n) else Err flaw.Operand
int_constant descriptor (Err f) = Err f

abbrev pub constant_at : List ℕ → Option Lexeme → Judged FieldConstant
constant_at descriptor (Some (lexeme.Word w)) =
    if is_long descriptor then map_ok (λ n. constant.Long n) (i64_at (Some (lexeme.Word w)))
    else int_constant descriptor (i32_at (Some (lexeme.Word w)))
constant_at descriptor (Some (lexeme.Text t)) =
    if is_string_type descriptor then Ok (constant.String t) else Err flaw.Operand
constant_at descriptor _ = Err flaw.Operand

-- Judges what follows `=`, which is exactly one value.
abbrev pub constant_in : List ℕ → Option (List Lexeme) → Judged (Option FieldConstant)
constant_in descriptor None = Ok None
constant_in descriptor (Some ts) = map_ok (λ c. Some c) (unless (constant_at descriptor (slice_get ts 0)) (exactly 1 ts))

-- Returns the units of a word, or none for another token.
abbrev pub word_or_none : Option Lexeme → List ℕ
word_or_none (Some (lexeme.Word w)) = w
word_or_none _ = []

-- Returns the access words of a field. A name and a descriptor follow them in the field's head.
abbrev pub field_access : List Lexeme → List Lexeme
field_access head = take (length head - 2) head

abbrev pub field_name_at : List Lexeme → Option Lexeme
field_name_at head = if nat_le 2 (length head) then slice_get head (length head - 2) else None

unfoldable pub field_line : List Lexeme → Judged Statement
field_line ts =
    let head = field_head ts in
    map_ok
    (λ p. statement.Field (record { access = flags_in field_words (field_access head); name = p.0; descriptor = p.1.0; constant = p.1.1 }))
    (unless
    (both (name_at (field_name_at head)) (both (field_descriptor_at (last_of head)) (constant_in (word_or_none (last_of head)) (field_tail ts))))
    (access_words field_words (field_access head)))

-- ---- Methods

-- Decides whether the flags of a method are allowed. A method of an interface is abstract, except `<clinit>`.
abbrev pub is_permitted : ClassSort → ℕ → List ℕ → Bool
is_permitted sort.Class access name = true
is_permitted sort.Interface access name = is_abstract access || is_initializer_name name

-- Judges `name(..)r`. The arguments include `this` unless the method is static or `<clinit>`.
abbrev pub method_head_at : ClassSort → ℕ → Judged (List ℕ) → Judged (List ℕ × List ℕ)
method_head_at sort access (Err f) = Err f
method_head_at sort access (Ok w) =
    unless
    (both
    (word_if is_method_name flaw.Name (Ok (before_descriptor w)))
    (word_if (is_method_descriptor_for (is_static access || is_initializer_name (before_descriptor w))) flaw.Descriptor (Ok (descriptor_of w))))
    (judge_test (is_permitted sort access (before_descriptor w)) flaw.Flags)

unfoldable pub method_line : ClassSort → List Lexeme → Judged Statement
method_line sort ts =
    let access = flags_in method_words (but_last ts) in
    map_ok
    (λ p. statement.Method access p.0 p.1)
    (unless (method_head_at sort access (word_at (last_of ts))) (access_words method_words (but_last ts)))

unfoldable pub end_line : List Lexeme → Judged Statement
end_line ts = map_ok (λ _. statement.EndMethod) (both (keyword_at (codes "method") (slice_get ts 0)) (exactly 1 ts))

-- Judges the first operand of `.limit`, `stack` or `locals`, and decides whether it is `stack`.
abbrev pub limit_at : Option Lexeme → Judged Bool
limit_at t = map_ok (λ w. same_text (codes "stack") w) (word_if (λ w. same_text (codes "stack") w || same_text (codes "locals") w) flaw.Operand (word_at t))

unfoldable pub limit_line : List Lexeme → Judged Statement
limit_line ts =
    map_ok
    (λ p. if p.0 then statement.MaxStack p.1 else statement.MaxLocals p.1)
    (unless (both (limit_at (slice_get ts 0)) (u16_at (slice_get ts 1))) (exactly 2 ts))

-- Judges a given word and the label that follows it.
abbrev pub label_after : List ℕ → List Lexeme → ℕ → Judged (List ℕ)
label_after text ts n = unless (label_at (slice_get ts (suc n))) (keyword_at text (slice_get ts n))

-- Judges `.catch C from A to B using H`.
unfoldable pub catch_line : List Lexeme → Judged Statement
catch_line ts =
    map_ok
    (λ p. statement.Catch (record { caught = p.0; from = p.1.0; to = p.1.1.0; using = p.1.1.1 }))
    (unless
    (both (caught_at (slice_get ts 0)) (both (label_after (codes "from") ts 1) (both (label_after (codes "to") ts 3) (label_after (codes "using") ts 5))))
    (exactly 7 ts))

unfoldable pub throws_line : List Lexeme → Judged Statement
throws_line ts = map_ok (λ name. statement.Throws name) (unless (class_at (slice_get ts 0)) (exactly 1 ts))

-- Judges `.line n`, which is dropped.
unfoldable pub line_line : List Lexeme → Judged Statement
line_line ts = map_ok (λ _. statement.Dropped) (both (u16_at (slice_get ts 0)) (exactly 1 ts))

-- Judges `.var n is name descriptor from A to B`, which is dropped.
unfoldable pub var_line : List Lexeme → Judged Statement
var_line ts =
    map_ok
    (λ _. statement.Dropped)
    (unless
    (both (both (u16_at (slice_get ts 0)) (keyword_at (codes "is") (slice_get ts 1)))
    (both (both (name_at (slice_get ts 2)) (field_descriptor_at (slice_get ts 3)))
    (both (label_after (codes "from") ts 4) (label_after (codes "to") ts 6))))
    (exactly 8 ts))

abbrev pub directive_line : Directive → ClassSort → List Lexeme → Judged Statement
directive_line directive.Bytecode sort ts = bytecode_line ts
directive_line directive.Source sort ts = source_line ts
directive_line directive.Class sort ts = class_line 32 ts
directive_line directive.Interface sort ts = class_line 1536 ts
directive_line directive.Super sort ts = super_line ts
directive_line directive.Implements sort ts = implements_line ts
directive_line directive.Field sort ts = field_line ts
directive_line directive.Method sort ts = method_line sort ts
directive_line directive.End sort ts = end_line ts
directive_line directive.Limit sort ts = limit_line ts
directive_line directive.Catch sort ts = catch_line ts
directive_line directive.Throws sort ts = throws_line ts
directive_line directive.Line sort ts = line_line ts
directive_line directive.Var sort ts = var_line ts

-- ---- Instructions

abbrev pub whole : Judged Operation → Judged Instruction
whole o = map_ok (λ o. instruction.Whole o) o

-- Judges a line with a single operand.
abbrev pub alone : {A : Type 0} → (Option Lexeme → Judged A) → List Lexeme → Judged A
alone at ts = unless (at (slice_get ts 0)) (exactly 1 ts)

-- Judges the constant of `ldc`: a text, a word that is a number, or else a class.
abbrev pub loaded_word : List ℕ → Option ℤ → Judged LoadedConstant
loaded_word w (Some n) = map_ok (λ n. loaded.Integer n) (i32_at (Some (lexeme.Word w)))
loaded_word w None = map_ok (λ name. loaded.Class name) (class_at (Some (lexeme.Word w)))

abbrev pub loaded_at : Option Lexeme → Judged LoadedConstant
loaded_at (Some (lexeme.Text t)) = Ok (loaded.String t)
loaded_at (Some (lexeme.Word w)) = loaded_word w (number_of w)
loaded_at _ = Err flaw.Operand

unfoldable pub constant_operation : ConstantWidth → List Lexeme → Judged Operation
constant_operation width ts = map_ok (λ c. operation.Constant width c) (alone loaded_at ts)

unfoldable pub increment_operation : List Lexeme → Judged Operation
increment_operation ts =
    map_ok (λ p. operation.Increment p.0 p.1) (unless (both (u16_at (slice_get ts 0)) (i16_at (slice_get ts 1))) (exactly 2 ts))

unfoldable pub branch_operation : BranchWidth → Branch → List Lexeme → Judged Operation
branch_operation width how ts = map_ok (λ label. operation.Branch width how label) (alone label_at ts)

-- Judges `class/name` and a descriptor.
unfoldable pub field_operation : FieldUse → List Lexeme → Judged Operation
field_operation how ts =
    map_ok
    (λ p. operation.Field how (record { class = class_of p.0; name = name_of p.0; descriptor = p.1 }))
    (unless
    (both (word_if (is_member is_name) flaw.Name (word_at (slice_get ts 0))) (field_descriptor_at (slice_get ts 1)))
    (exactly 2 ts))

-- Judges the method of an invoke instruction. Of the names with an angle bracket, only `<init>` is allowed, and only
-- for invokespecial (JVMS 4.9.1).
abbrev pub named_method : Invoke → List ℕ → Judged (List ℕ × List ℕ)
named_method how w =
    unless
    (both
    (word_if (is_member is_method_name) flaw.Name (Ok (before_descriptor w)))
    (word_if (is_method_descriptor_for true) flaw.Descriptor (Ok (descriptor_of w))))
    (judge_test (is_invocable_name how (name_of (before_descriptor w))) flaw.Operand)

-- Judges a place that requires `class/name(..)r`.
abbrev pub method_at : Invoke → Option Lexeme → Judged (List ℕ × List ℕ)
method_at how (Some (lexeme.Word w)) = named_method how w
method_at how _ = Err flaw.Operand

-- Decides whether the count of an invokeinterface is the number of units of its arguments with the object (JVMS 4.3.3).
-- Any count passes if the descriptor is malformed.
abbrev pub is_count : ℕ → Option ℕ → Bool
is_count n None = true
is_count n (Some units) = n == units

abbrev pub counted_at : List ℕ → Judged ℕ → Judged (Unit {0})
counted_at descriptor (Ok n) = judge_test (is_count n (interface_count (Some ([], descriptor)))) flaw.Operand
counted_at descriptor (Err f) = Err f

abbrev pub operands_after_method : Invoke → List Lexeme → Judged (Unit {0})
operands_after_method invoke.Interface ts =
    unless (counted_at (descriptor_of (word_or_none (slice_get ts 0))) (u8_at (slice_get ts 1))) (exactly 2 ts)
operands_after_method _ ts = exactly 1 ts

unfoldable pub invoke_operation : Invoke → List Lexeme → Judged Operation
invoke_operation how ts =
    map_ok
    (λ p. operation.Invoke how (record { class = class_of p.0; name = name_of p.0; descriptor = p.1 }))
    (unless (method_at how (slice_get ts 0)) (operands_after_method how ts))

-- Decides whether a word names a class that the instruction takes: new takes no array, and anewarray at most 254
-- dimensions (JVMS 6.5). A malformed name passes for all but new.
abbrev pub is_usable_word : ClassUse → List ℕ → Bool
is_usable_word class_use.New w = is_usable_class class_use.New w
is_usable_word how w = not (is_class_entry_name w) || is_usable_class how w

unfoldable pub class_operation : ClassUse → List Lexeme → Judged Operation
class_operation how ts =
    map_ok
    (λ name. operation.Class how name)
    (unless
    (unless (class_at (slice_get ts 0)) (judge_test (is_usable_word how (word_or_none (slice_get ts 0))) flaw.Operand))
    (exactly 1 ts))

unfoldable pub new_array_operation : List Lexeme → Judged Operation
new_array_operation ts = map_ok (λ type. operation.NewArray type) (alone array_type_at ts)

-- Judges a number of dimensions: at least one, and at most those of the class (JVMS 6.5).
abbrev pub dimensions_at : List ℕ → Judged ℕ → Judged ℕ
dimensions_at name (Ok n) = if is_dimensions n (Some name) then Ok n else Err flaw.Operand
dimensions_at name (Err f) = Err f

unfoldable pub multi_new_array_operation : List Lexeme → Judged Operation
multi_new_array_operation ts =
    map_ok
    (λ p. operation.MultiNewArray p.0 p.1)
    (unless
    (both (class_at (slice_get ts 0)) (dimensions_at (word_or_none (slice_get ts 0)) (u8_at (slice_get ts 1))))
    (exactly 2 ts))

-- Judges the operands of an instruction. No mnemonic names `wide`, or the opcode 186 that these versions lack.
abbrev pub instruction_with : ℕ → Opcode → List Lexeme → Judged Instruction
instruction_with code (opcode.Alone s) ts = whole (map_ok (λ _. operation.Alone code) (exactly 0 ts))
instruction_with code opcode.PushByte ts = whole (map_ok (λ n. operation.PushByte n) (alone i8_at ts))
instruction_with code opcode.PushShort ts = whole (map_ok (λ n. operation.PushShort n) (alone i16_at ts))
instruction_with code opcode.Constant ts = whole (constant_operation constant_width.AsNeeded ts)
instruction_with code opcode.ConstantWide ts = whole (constant_operation constant_width.Wide ts)
instruction_with code opcode.ConstantLong ts = whole (map_ok (λ n. operation.ConstantLong n) (alone i64_at ts))
instruction_with code (opcode.Local how) ts = whole (map_ok (λ n. operation.Local how n) (alone u16_at ts))
instruction_with code opcode.Increment ts = whole (increment_operation ts)
instruction_with code (opcode.Branch how) ts = whole (branch_operation branch_width.Short how ts)
instruction_with code (opcode.BranchWide how) ts = whole (branch_operation branch_width.Wide how ts)
instruction_with code opcode.TableSwitch ts = map_ok (λ low. instruction.Table low) (alone i32_at ts)
instruction_with code opcode.LookupSwitch ts = map_ok (λ _. instruction.Lookup) (exactly 0 ts)
instruction_with code (opcode.Field how) ts = whole (field_operation how ts)
instruction_with code (opcode.Invoke how) ts = whole (invoke_operation how ts)
instruction_with code (opcode.Class how) ts = whole (class_operation how ts)
instruction_with code opcode.NewArray ts = whole (new_array_operation ts)
instruction_with code opcode.MultiNewArray ts = whole (multi_new_array_operation ts)
instruction_with code opcode.Wide ts = Err flaw.UnknownInstruction
instruction_with code opcode.Reserved ts = Err flaw.UnknownInstruction

-- Judges the operands of the instruction of an opcode.
unfoldable pub instruction_line : ℕ → List Lexeme → Judged Instruction
instruction_line code ts = of_form (slice_get OPCODES code)
  where
    of_form : Option Opcode → Judged Instruction
    of_form (Some form) = instruction_with code form ts
    of_form None = Err flaw.UnknownInstruction

-- ---- Lines of a switch

-- Judges a line of a tableswitch, which is a label. The value of the label fits an int.
unfoldable pub table_line : ℤ → List Lexeme → Judged Statement
table_line next ts =
    map_ok
    (λ label. statement.TableLabel label)
    (unless (unless (label_at (slice_get ts 0)) (exactly 1 ts)) (judge_test (int_le next (pos 2147483647)) flaw.Number))

abbrev pub colon_at : Option Lexeme → Judged (Unit {0})
colon_at (Some lexeme.Colon) = Ok tt
colon_at _ = Err flaw.Operand

-- Judges a colon and a label, the second and third of exactly three tokens.
abbrev pub label_after_colon : List Lexeme → Judged (List ℕ)
label_after_colon ts = unless (unless (label_at (slice_get ts 2)) (colon_at (slice_get ts 1))) (exactly 3 ts)

-- Judges a value that has to be above that of the line before.
abbrev pub rising_at : Option ℤ → Judged ℤ → Judged ℤ
rising_at last (Ok n) = if is_above last n then Ok n else Err flaw.Operand
rising_at last (Err f) = Err f

unfoldable pub match_line : Option ℤ → List Lexeme → Judged Statement
match_line last ts =
    map_ok
    (λ p. statement.Match (record { value = p.0; label = p.1 }))
    (both (rising_at last (i32_at (slice_get ts 0))) (label_after_colon ts))

abbrev pub case_line : OpenSwitch → List Lexeme → Judged Statement
case_line open_switch.None ts = Err flaw.OutOfPlace
case_line (open_switch.Table next) ts = table_line next ts
case_line (open_switch.Lookup last) ts = match_line last ts

-- Judges the default of a switch, whose first token is the word `default`.
unfoldable pub default_line : List Lexeme → Judged Statement
default_line ts = map_ok (λ label. statement.Default label) (label_after_colon ts)

-- ---- A line

-- Judges the label before an instruction.
abbrev pub label_line : List Lexeme → Judged (List ℕ)
label_line ts = label_at (slice_get ts 0)

-- Returns the statement of a line of a kind, or its fault. The lines before it have begun a class of this sort, and may
-- have left a switch open.
unfoldable pub statement_of : ClassSort → OpenSwitch → LineKind → List Lexeme → Judged Statement
statement_of sort switch kind.Blank ts = Ok statement.Blank
statement_of sort switch (kind.Directive d) ts = directive_line d sort (drop 1 ts)
statement_of sort switch kind.Case ts = case_line switch ts
statement_of sort switch kind.Default ts = default_line ts
statement_of sort switch kind.Label ts = map_ok (λ l. statement.Label l) (label_line ts)
statement_of sort switch (kind.Instruction code) ts = map_ok (λ i. statement.Instruction i) (instruction_line code (drop 1 ts))
statement_of sort switch (kind.LabelledInstruction code) ts =
    map_ok (λ p. statement.LabelledInstruction p.0 p.1) (both (label_line ts) (instruction_line code (drop 3 ts)))
