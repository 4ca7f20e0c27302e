-- Defines the text of a tree: its lines, one for each statement, as lists of UTF-16 code units.
use Rattle.std.specs.Prelude.{ℕ, suc, ◌+◌, ◌-◌, ◌/◌, ◌%◌, Bool, true, false, ◌==◌, ◌&&◌, nat_lt, nat_le, if◌then◌else◌, List, [], ◌∷◌, ◌++◌, map, Option, Some, None, slice_get, ℤ, pos, codes}
use Rattle.std.specs.Option.{unwrap_or}
use Rattle.std.specs.List.{flat_map}
use Rattle.std.specs.Fmt.{decimal, signed_decimal}
use Rattle.jvms_file.specs.declared.insn.ArrayType.{ArrayType}
use Rattle.jvms_file.specs.declared.insn.ArrayType.TheVariants as array_type
use Rattle.jvms_file.specs.declared.insn.Invoke.{Invoke}
use Rattle.jvms_file.specs.declared.insn.Invoke.TheVariants as invoke
use Rattle.jvms_file.specs.Instructions.{interface_count}
use Rattle.jvms_file.specs.Members.{has_flag, is_interface}
use Rattle.jasmin.specs.declared.mnemonic.TheConstants.{MNEMONICS}
use Rattle.jasmin.specs.declared.source.LoadedConstant.{LoadedConstant}
use Rattle.jasmin.specs.declared.source.LoadedConstant.TheVariants as loaded
use Rattle.jasmin.specs.declared.source.ConstantWidth.TheVariants as constant_width
use Rattle.jasmin.specs.declared.source.BranchWidth.TheVariants as branch_width
use Rattle.jasmin.specs.declared.source.MatchLine.{MatchLine}
use Rattle.jasmin.specs.declared.source.Operation.{Operation}
use Rattle.jasmin.specs.declared.source.Operation.TheVariants as operation
use Rattle.jasmin.specs.declared.source.CodeItem.{CodeItem}
use Rattle.jasmin.specs.declared.source.CodeItem.TheVariants as item
use Rattle.jasmin.specs.declared.source.Caught.{Caught}
use Rattle.jasmin.specs.declared.source.Caught.TheVariants as caught
use Rattle.jasmin.specs.declared.source.CatchLine.{CatchLine}
use Rattle.jasmin.specs.declared.source.FieldConstant.{FieldConstant}
use Rattle.jasmin.specs.declared.source.FieldConstant.TheVariants as constant
use Rattle.jasmin.specs.declared.source.FieldLine.{FieldLine}
use Rattle.jasmin.specs.declared.source.MethodLines.{MethodLines}
use Rattle.jasmin.specs.declared.source.Source.{Source}
use Rattle.jasmin.specs.Denote.{has_code}
use Rattle.jasmin.specs.Operands.{Access, field_words, method_words}
use Rattle.assembly.specs.Opcodes.{local_opcode, branch_opcode, wide_branch_opcode, field_opcode, invoke_opcode, class_opcode}

-- ---- Words

-- Joins words by single spaces.
unfoldable pub join_words : List (List ℕ) → List ℕ
join_words [] = []
join_words (w ∷ []) = w
join_words (w ∷ v ∷ ws) = w ++ 32 ∷ join_words (v ∷ ws)

-- Returns the words of the flags that are set, in the order of the table.
unfoldable pub access_names : Access → ℕ → List (List ℕ)
access_names [] access = []
access_names ((word, flag) ∷ others) access =
    if has_flag flag access then word ∷ access_names others access else access_names others access

-- Returns the access words of a class that are written. `super` isn't, since `.class` adds it.
abbrev pub written_class_words : Access
written_class_words = (codes "public", 1) ∷ (codes "final", 16) ∷ (codes "abstract", 1024) ∷ []

-- Returns the access words of an interface that are written, without those that `.interface` adds.
abbrev pub written_interface_words : Access
written_interface_words = (codes "public", 1) ∷ (codes "final", 16) ∷ (codes "super", 32) ∷ []

-- ---- Texts in quotes

-- Returns a hexadecimal digit, in lower case.
abbrev pub hexadecimal : ℕ → ℕ
hexadecimal d = if nat_lt d 10 then 48 + d else 87 + d

-- Returns the four digits that follow `\u`.
abbrev pub four_digits : ℕ → List ℕ
four_digits u = hexadecimal (u / 4096) ∷ hexadecimal (u / 256 % 16) ∷ hexadecimal (u / 16 % 16) ∷ hexadecimal (u % 16) ∷ []

-- Returns the spelling of a unit of a text: an escape, or the unit itself.
abbrev pub escape_of : ℕ → List ℕ
escape_of u =
    if u == 10 then codes "\\n"
    else (if u == 13 then codes "\\r"
    else (if u == 9 then codes "\\t"
    else (if u == 8 then codes "\\b"
    else (if u == 12 then codes "\\f"
    else (if u == 34 then codes "\\\""
    else (if u == 92 then codes "\\\\"
    else (if nat_le 32 u && nat_le u 126 then u ∷ []
    else 92 ∷ 117 ∷ four_digits u)))))))

unfoldable pub quotation : List ℕ → List ℕ
quotation text = 34 ∷ flat_map escape_of text ++ 34 ∷ []

-- ---- Instructions

-- Returns the opcode of an operation, without `wide`.
abbrev pub opcode_of : Operation → ℕ
opcode_of (operation.Alone code) = code
opcode_of (operation.PushByte n) = 16
opcode_of (operation.PushShort n) = 17
opcode_of (operation.Constant constant_width.AsNeeded c) = 18
opcode_of (operation.Constant constant_width.Wide c) = 19
opcode_of (operation.ConstantLong n) = 20
opcode_of (operation.Local how n) = local_opcode how
opcode_of (operation.Increment n by) = 132
opcode_of (operation.Branch branch_width.Short how label) = branch_opcode how
opcode_of (operation.Branch branch_width.Wide how label) = wide_branch_opcode how
opcode_of (operation.Table lines) = 170
opcode_of (operation.Lookup lines) = 171
opcode_of (operation.Field how f) = field_opcode how
opcode_of (operation.Invoke how m) = invoke_opcode how
opcode_of (operation.Class how name) = class_opcode how
opcode_of (operation.NewArray type) = 188
opcode_of (operation.MultiNewArray name count) = 197

-- Returns the mnemonic of an opcode.
abbrev pub mnemonic : ℕ → List ℕ
mnemonic code = unwrap_or (slice_get (map (λ name. name.now) MNEMONICS) code) []

abbrev pub array_type_name : ArrayType → List ℕ
array_type_name array_type.Boolean = codes "boolean"
array_type_name array_type.Char = codes "char"
array_type_name array_type.Float = codes "float"
array_type_name array_type.Double = codes "double"
array_type_name array_type.Byte = codes "byte"
array_type_name array_type.Short = codes "short"
array_type_name array_type.Int = codes "int"
array_type_name array_type.Long = codes "long"

abbrev pub loaded_word : LoadedConstant → List ℕ
loaded_word (loaded.Integer n) = signed_decimal n
loaded_word (loaded.String text) = quotation text
loaded_word (loaded.Class name) = name

-- Returns `class/name`.
abbrev pub member_word : List ℕ → List ℕ → List ℕ
member_word class name = class ++ 47 ∷ name

-- Returns the words after the method of an invokeinterface: the number of units of its arguments with the object (JVMS
-- 4.3.3).
abbrev pub count_words : Invoke → List ℕ → List (List ℕ)
count_words invoke.Interface descriptor = decimal (unwrap_or (interface_count (Some ([], descriptor))) 0) ∷ []
count_words _ descriptor = []

-- Returns the words after an instruction's mnemonic.
unfoldable pub operand_words : Operation → List (List ℕ)
operand_words (operation.Alone code) = []
operand_words (operation.PushByte n) = signed_decimal n ∷ []
operand_words (operation.PushShort n) = signed_decimal n ∷ []
operand_words (operation.Constant width c) = loaded_word c ∷ []
operand_words (operation.ConstantLong n) = signed_decimal n ∷ []
operand_words (operation.Local how n) = decimal n ∷ []
operand_words (operation.Increment n by) = decimal n ∷ signed_decimal by ∷ []
operand_words (operation.Branch width how label) = label ∷ []
operand_words (operation.Table lines) = signed_decimal lines.low ∷ []
operand_words (operation.Lookup lines) = []
operand_words (operation.Field how f) = member_word f.class f.name ∷ f.descriptor ∷ []
operand_words (operation.Invoke how m) = (member_word m.class m.name ++ m.descriptor) ∷ count_words how m.descriptor
operand_words (operation.Class how name) = name ∷ []
operand_words (operation.NewArray type) = array_type_name type ∷ []
operand_words (operation.MultiNewArray name count) = name ∷ decimal count ∷ []

-- Returns a line of a switch, indented by four spaces.
abbrev pub switch_line : List (List ℕ) → List ℕ
switch_line words = codes "    " ++ join_words words

abbrev pub default_line : List ℕ → List ℕ
default_line label = switch_line (codes "default" ∷ codes ":" ∷ label ∷ [])

abbrev pub match_line : MatchLine → List ℕ
match_line m = switch_line (signed_decimal m.value ∷ codes ":" ∷ m.label ∷ [])

-- Returns the lines that follow that of an instruction's mnemonic.
abbrev pub lines_after : Operation → List (List ℕ)
lines_after (operation.Table lines) = map (λ label. switch_line (label ∷ [])) lines.labels ++ default_line lines.default ∷ []
lines_after (operation.Lookup lines) = map match_line lines.matches ++ default_line lines.default ∷ []
lines_after _ = []

-- Returns the lines of an item: a label by itself, or an instruction indented by two spaces, with the lines of a
-- switch.
unfoldable pub item_lines : CodeItem → List (List ℕ)
item_lines (item.Label name) = (name ++ codes ":") ∷ []
item_lines (item.Operation o) = (codes "  " ++ join_words (mnemonic (opcode_of o) ∷ operand_words o)) ∷ lines_after o

-- ---- Members

abbrev pub value_words : Option FieldConstant → List (List ℕ)
value_words None = []
value_words (Some (constant.Integer n)) = codes "=" ∷ signed_decimal n ∷ []
value_words (Some (constant.Long n)) = codes "=" ∷ signed_decimal n ∷ []
value_words (Some (constant.String text)) = codes "=" ∷ quotation text ∷ []

unfoldable pub field_line : FieldLine → List ℕ
field_line f =
    join_words (codes ".field" ∷ access_names field_words f.access ++ (f.name ∷ f.descriptor ∷ value_words f.constant))

abbrev pub caught_word : Caught → List ℕ
caught_word caught.All = codes "all"
caught_word (caught.Class name) = name

abbrev pub catch_line : CatchLine → List ℕ
catch_line c =
    join_words (codes ".catch" ∷ caught_word c.caught ∷ codes "from" ∷ c.from ∷ codes "to" ∷ c.to ∷ codes "using" ∷ c.using ∷ [])

abbrev pub throws_line : List ℕ → List ℕ
throws_line name = join_words (codes ".throws" ∷ name ∷ [])

-- Returns the limits, the catches and the code of a method that has code.
unfoldable pub body_lines : MethodLines → List (List ℕ)
body_lines m =
    if has_code m.name m.access
    then join_words (codes ".limit" ∷ codes "stack" ∷ decimal m.max_stack ∷ [])
    ∷ join_words (codes ".limit" ∷ codes "locals" ∷ decimal m.max_locals ∷ [])
    ∷ map catch_line m.catches ++ flat_map item_lines m.code
    else []

unfoldable pub method_text : MethodLines → List (List ℕ)
method_text m =
    join_words (codes ".method" ∷ access_names method_words m.access ++ (m.name ++ m.descriptor) ∷ [])
    ∷ map throws_line m.throws ++ (body_lines m ++ codes ".end method" ∷ [])

-- ---- The class

abbrev pub class_line : Source → List ℕ
class_line s =
    if is_interface s.access
    then join_words (codes ".interface" ∷ access_names written_interface_words s.access ++ s.name ∷ [])
    else join_words (codes ".class" ∷ access_names written_class_words s.access ++ s.name ∷ [])

-- Returns the lines of a source.
unfoldable pub lines_of_source : Source → List (List ℕ)
lines_of_source s =
    codes ".bytecode 49.0" ∷ class_line s ∷ join_words (codes ".super" ∷ s.superclass ∷ [])
    ∷ map (λ name. join_words (codes ".implements" ∷ name ∷ [])) s.interfaces
    ++ (map field_line s.fields ++ flat_map method_text s.methods)
