-- Defines how a source is read line by line: where a statement is allowed, and what it adds. Each line is judged by the
-- lines before it. The first faulty line is reported, with the fault of the least number.
use Rattle.std.specs.Prelude.{ℕ, suc, Bool, true, false, not, ◌&&◌, ◌||◌, nat_le, if◌then◌else◌, List, [], ◌∷◌, ◌++◌, length, Option, Some, None, is_some, Result, Ok, Err, ℤ, pos, ◌+ℤ◌, codes}
use Rattle.std.specs.Option.{option_map, unwrap_or}
use Rattle.std.specs.List.{list_any}
use Rattle.std.specs.Str.Lines.{lines}
use Rattle.jvms_file.specs.Names.{same_text}
use Rattle.jvms_file.specs.Members.{is_interface}
use Rattle.jvms_file.specs.Results.{◌>>=◌}
use Rattle.jasmin.specs.declared.token.Token.{Token}
use Rattle.jasmin.specs.declared.token.Lexeme.{Lexeme}
use Rattle.jasmin.specs.declared.source.MatchLine.{MatchLine}
use Rattle.jasmin.specs.declared.source.Operation.TheVariants as operation
use Rattle.jasmin.specs.declared.source.CodeItem.{CodeItem}
use Rattle.jasmin.specs.declared.source.CodeItem.TheVariants as item
use Rattle.jasmin.specs.declared.source.CatchLine.{CatchLine}
use Rattle.jasmin.specs.declared.source.FieldLine.{FieldLine}
use Rattle.jasmin.specs.declared.source.MethodLines.{MethodLines}
use Rattle.jasmin.specs.declared.source.Source.{Source}
use Rattle.jasmin.specs.declared.statement.Flaw.{Flaw}
use Rattle.jasmin.specs.declared.statement.Flaw.TheVariants as flaw
use Rattle.jasmin.specs.declared.statement.Directive.{Directive}
use Rattle.jasmin.specs.declared.statement.Directive.TheVariants as directive
use Rattle.jasmin.specs.declared.statement.LineKind.{LineKind}
use Rattle.jasmin.specs.declared.statement.LineKind.TheVariants as kind
use Rattle.jasmin.specs.declared.statement.OpenSwitch.{OpenSwitch}
use Rattle.jasmin.specs.declared.statement.OpenSwitch.TheVariants as open_switch
use Rattle.jasmin.specs.declared.statement.ClassSort.{ClassSort}
use Rattle.jasmin.specs.declared.statement.ClassSort.TheVariants as sort
use Rattle.jasmin.specs.declared.statement.Instruction.{Instruction}
use Rattle.jasmin.specs.declared.statement.Instruction.TheVariants as instruction
use Rattle.jasmin.specs.declared.statement.Statement.{Statement}
use Rattle.jasmin.specs.declared.statement.Statement.TheVariants as statement
use Rattle.jasmin.specs.declared.reading.Part.{Part}
use Rattle.jasmin.specs.declared.reading.Part.TheVariants as part
use Rattle.jasmin.specs.declared.reading.SwitchLines.{SwitchLines}
use Rattle.jasmin.specs.declared.reading.SwitchLines.TheVariants as switch_lines
use Rattle.jasmin.specs.declared.reading.OpenMethod.{OpenMethod}
use Rattle.jasmin.specs.declared.reading.Reading.{Reading}
use Rattle.jasmin.specs.Lexing.{tokens_of, lexemes}
use Rattle.jasmin.specs.Sources.{units_of}
use Rattle.jasmin.specs.Judgements.{Judged, judge_test}
use Rattle.jasmin.specs.LineKinds.{kind_of}
use Rattle.jasmin.specs.Statements.{statement_of}
use Rattle.jasmin.specs.Denote.{has_code}

-- ---- What the lines before leave open

-- Returns the value of the last match.
abbrev pub last_value : List MatchLine → Option ℤ
last_value [] = None
last_value (m ∷ []) = Some m.value
last_value (m ∷ n ∷ ms) = last_value (n ∷ ms)

-- Returns the open switch: a tableswitch with the value of its next label, or a lookupswitch with its last value.
abbrev pub switch_of_lines : Option SwitchLines → OpenSwitch
switch_of_lines None = open_switch.None
switch_of_lines (Some (switch_lines.Table low labels)) = open_switch.Table (low +ℤ pos (length labels))
switch_of_lines (Some (switch_lines.Lookup matches)) = open_switch.Lookup (last_value matches)

abbrev pub switch_of_method : Option OpenMethod → OpenSwitch
switch_of_method None = open_switch.None
switch_of_method (Some m) = switch_of_lines m.switch

abbrev pub switch_of : Reading → OpenSwitch
switch_of r = switch_of_method r.method

abbrev pub sort_of : ℕ → ClassSort
sort_of access = if is_interface access then sort.Interface else sort.Class

-- ---- Places

abbrev pub rank : Part → ℕ
rank part.Beginning = 0
rank part.Class = 1
rank part.Super = 2
rank part.Implements = 3
rank part.Members = 4

-- Returns the part that a directive outside of methods belongs to.
abbrev pub part_of : Directive → Option Part
part_of directive.Bytecode = Some part.Beginning
part_of directive.Source = Some part.Beginning
part_of directive.Class = Some part.Class
part_of directive.Interface = Some part.Class
part_of directive.Super = Some part.Super
part_of directive.Implements = Some part.Implements
part_of directive.Field = Some part.Members
part_of directive.Method = Some part.Members
part_of _ = None

-- Decides whether a statement of a part is allowed: no later part has a statement, and all parts after the class follow
-- the class.
abbrev pub is_in_order : Part → Part → Bool
is_in_order latest part = nat_le (rank latest) (rank part) && (nat_le (rank part) 1 || nat_le 1 (rank latest))

-- Decides whether a directive is allowed at this place: one of a part outside of methods, any other inside a method.
abbrev pub is_placed : Part → Bool → Option Part → Bool
is_placed latest in_method (Some part) = not in_method && is_in_order latest part
is_placed latest in_method None = in_method

-- Decides whether the open method may have instructions. A native or abstract one may not, unless it is `<clinit>`.
abbrev pub may_have_instructions : Option OpenMethod → Bool
may_have_instructions None = false
may_have_instructions (Some m) = has_code m.name m.access

abbrev pub has_no_switch : OpenSwitch → Bool
has_no_switch open_switch.None = true
has_no_switch _ = false

-- Decides whether the open switch may have its default. That of a tableswitch follows at least one label.
abbrev pub has_labels : Option OpenMethod → Bool
has_labels (Some m) = of_lines m.switch
  where
    of_lines : Option SwitchLines → Bool
    of_lines (Some (switch_lines.Table low [])) = false
    of_lines _ = true
has_labels None = true

-- Decides whether a line of a kind is allowed at this place.
unfoldable pub is_in_place : Reading → LineKind → Bool
is_in_place r kind.Blank = true
is_in_place r (kind.Directive d) = has_no_switch (switch_of r) && is_placed r.part (is_some r.method) (part_of d)
is_in_place r kind.Case = true
is_in_place r kind.Default = has_labels r.method
is_in_place r kind.Label = is_some r.method
is_in_place r (kind.Instruction code) = may_have_instructions r.method
is_in_place r (kind.LabelledInstruction code) = may_have_instructions r.method

-- ---- What comes once

abbrev pub is_field_like : List ℕ → List ℕ → FieldLine → Bool
is_field_like name descriptor f = same_text name f.name && same_text descriptor f.descriptor

abbrev pub is_method_like : List ℕ → List ℕ → MethodLines → Bool
is_method_like name descriptor m = same_text name m.name && same_text descriptor m.descriptor

abbrev pub has_stack : Option OpenMethod → Bool
has_stack None = false
has_stack (Some m) = is_some m.max_stack

abbrev pub has_locals : Option OpenMethod → Bool
has_locals None = false
has_locals (Some m) = is_some m.max_locals

-- Decides whether a statement that is allowed once is repeated, or a member with this name and descriptor exists.
unfoldable pub is_repeated : Reading → Statement → Bool
is_repeated r statement.Bytecode = r.has_bytecode
is_repeated r statement.SourceFile = r.has_source
is_repeated r (statement.Class access name) = is_some r.name
is_repeated r (statement.Superclass name) = is_some r.superclass
is_repeated r (statement.Field f) = list_any (is_field_like f.name f.descriptor) r.fields
is_repeated r (statement.Method access name descriptor) = list_any (is_method_like name descriptor) r.methods
is_repeated r (statement.MaxStack n) = has_stack r.method
is_repeated r (statement.MaxLocals n) = has_locals r.method
is_repeated r _ = false

-- ---- What a statement adds

abbrev pub in_method : Reading → (OpenMethod → OpenMethod) → Reading
in_method r change = record r { method = option_map change r.method }

abbrev pub with_throws : List ℕ → OpenMethod → OpenMethod
with_throws name m = record m { throws = m.throws ++ name ∷ [] }

abbrev pub with_catch : CatchLine → OpenMethod → OpenMethod
with_catch c m = record m { catches = m.catches ++ c ∷ [] }

abbrev pub with_item : CodeItem → OpenMethod → OpenMethod
with_item i m = record m { code = m.code ++ i ∷ [] }

abbrev pub with_instruction : Instruction → OpenMethod → OpenMethod
with_instruction (instruction.Whole o) m = with_item (item.Operation o) m
with_instruction (instruction.Table low) m = record m { switch = Some (switch_lines.Table low []) }
with_instruction instruction.Lookup m = record m { switch = Some (switch_lines.Lookup []) }

abbrev pub with_table_label : List ℕ → Option SwitchLines → Option SwitchLines
with_table_label label (Some (switch_lines.Table low labels)) = Some (switch_lines.Table low (labels ++ label ∷ []))
with_table_label label other = other

abbrev pub with_match : MatchLine → Option SwitchLines → Option SwitchLines
with_match m (Some (switch_lines.Lookup matches)) = Some (switch_lines.Lookup (matches ++ m ∷ []))
with_match m other = other

-- Adds the switch that a default closes to the code.
abbrev pub closed_switch : Option SwitchLines → List ℕ → OpenMethod → OpenMethod
closed_switch (Some (switch_lines.Table low labels)) default m =
    record (with_item (item.Operation (operation.Table (record { low = low; labels = labels; default = default }))) m) { switch = None }
closed_switch (Some (switch_lines.Lookup matches)) default m =
    record (with_item (item.Operation (operation.Lookup (record { matches = matches; default = default }))) m) { switch = None }
closed_switch None default m = m

abbrev pub new_method : ℕ → List ℕ → List ℕ → OpenMethod
new_method access name descriptor =
    record { access = access; name = name; descriptor = descriptor; throws = []; max_stack = None; max_locals = None; catches = []; code = []; switch = None }

-- Returns the closed method. A limit that no line gives is 1.
abbrev pub method_lines_of : OpenMethod → MethodLines
method_lines_of m =
    record { access = m.access; name = m.name; descriptor = m.descriptor; throws = m.throws; max_stack = unwrap_or m.max_stack 1; max_locals = unwrap_or m.max_locals 1; catches = m.catches; code = m.code }

abbrev pub with_method : Option OpenMethod → Reading → Reading
with_method None r = r
with_method (Some m) r = record r { methods = r.methods ++ method_lines_of m ∷ []; method = None }

-- Returns the state of the reader after this statement.
unfoldable pub with_statement : Reading → Statement → Reading
with_statement r statement.Blank = r
with_statement r statement.Bytecode = record r { has_bytecode = true }
with_statement r statement.SourceFile = record r { has_source = true }
with_statement r (statement.Class access name) = record r { part = part.Class; access = access; name = Some name }
with_statement r (statement.Superclass name) = record r { part = part.Super; superclass = Some name }
with_statement r (statement.Implements name) = record r { part = part.Implements; interfaces = r.interfaces ++ name ∷ [] }
with_statement r (statement.Field f) = record r { part = part.Members; fields = r.fields ++ f ∷ [] }
with_statement r (statement.Method access name descriptor) =
    record r { part = part.Members; method = Some (new_method access name descriptor) }
with_statement r statement.EndMethod = with_method r.method r
with_statement r (statement.MaxStack n) = in_method r (λ m. record m { max_stack = Some n })
with_statement r (statement.MaxLocals n) = in_method r (λ m. record m { max_locals = Some n })
with_statement r (statement.Catch c) = in_method r (with_catch c)
with_statement r (statement.Throws name) = in_method r (with_throws name)
with_statement r statement.Dropped = r
with_statement r (statement.TableLabel label) = in_method r (λ m. record m { switch = with_table_label label m.switch })
with_statement r (statement.Match line) = in_method r (λ m. record m { switch = with_match line m.switch })
with_statement r (statement.Default label) = in_method r (λ m. closed_switch m.switch label m)
with_statement r (statement.Label label) = in_method r (with_item (item.Label label))
with_statement r (statement.Instruction i) = in_method r (with_instruction i)
with_statement r (statement.LabelledInstruction label i) =
    in_method r (λ m. with_instruction i (with_item (item.Label label) m))

-- ---- Lines

-- Adds a statement that doesn't repeat another.
abbrev pub judge_statement : Reading → Statement → Judged Reading
judge_statement r s = if is_repeated r s then Err flaw.Repeated else Ok (with_statement r s)

-- Judges a line of a kind, and adds its statement.
abbrev pub judge_line : Reading → LineKind → List Lexeme → Judged Reading
judge_line r k ts = do
  _ ← judge_test (is_in_place r k) flaw.OutOfPlace
  s ← statement_of (sort_of r.access) (switch_of r) k ts
  judge_statement r s

abbrev pub with_lexemes : Reading → List Lexeme → Judged Reading
with_lexemes r ts = do
  k ← kind_of (switch_of r) ts
  judge_line r k ts

-- Returns the state of the reader after a line of these units, or the line's fault.
unfoldable pub with_line : Reading → List ℕ → Judged Reading
with_line r line = lexed (tokens_of line)
  where
    lexed : Option (List Token) → Judged Reading
    lexed None = Err flaw.Lexeme
    lexed (Some ts) = with_lexemes r (lexemes ts)

-- Returns the state of the reader before the first line.
abbrev pub empty_reading : Reading
empty_reading =
    record { part = part.Beginning; has_bytecode = false; has_source = false; access = 0; name = None; superclass = None; interfaces = []; fields = []; methods = []; method = None }

-- Returns a line's fault with the line's number.
abbrev pub at_line : {A : Type 0} → ℕ → Judged A → Result A (ℕ × Flaw)
at_line n (Ok a) = Ok a
at_line n (Err f) = Err (n, f)

-- Returns the state of the reader after these lines, or the first fault with the number of its line. `n` is the number
-- of the line before them.
unfoldable pub with_lines : ℕ → Reading → List (List ℕ) → Result Reading (ℕ × Flaw)
with_lines n r [] = Ok r
with_lines n r (line ∷ others) = do
  s ← at_line (suc n) (with_line r (units_of line))
  with_lines (suc n) s others

-- Returns the number of the last line, and 1 for a text without lines. It is reported if something is missing.
abbrev pub last_line : List (List ℕ) → ℕ
last_line [] = 1
last_line (line ∷ others) = length (line ∷ others)

-- Returns the source, if it has a class and no method is open.
abbrev pub source_of_reading : ℕ → Reading → Result Source (ℕ × Flaw)
source_of_reading last r = of_parts r.name r.method
  where
    of_parts : Option (List ℕ) → Option OpenMethod → Result Source (ℕ × Flaw)
    of_parts (Some name) None =
        Ok (record { access = r.access; name = name; superclass = unwrap_or r.superclass (codes "java/lang/Object"); interfaces = r.interfaces; fields = r.fields; methods = r.methods })
    of_parts _ _ = Err (last, flaw.Missing)

-- Returns the syntax tree of a text, or the number of the first faulty line, from 1, with the least number of its
-- faults. Lines end at LF or CR LF.
unfoldable pub source_of : List ℕ → Result Source (ℕ × Flaw)
source_of text = do
  r ← with_lines 0 empty_reading (lines text)
  source_of_reading (last_line (lines text)) r
