-- Defines which tree the statements of the lines of a source write.
use Rattle.std.specs.Prelude.{◌≡◌, ◌⊎◌, ◌<◌, IsTrue, ℕ, ◌-◌, Bool, true, false, ◌&&◌, ◌||◌, List, [], ◌∷◌, ◌++◌, length, map, Option, Some, None, ℤ, pos, int_le, ◌+ℤ◌, if◌then◌else◌, codes}
use Rattle.std.specs.List.{AllByRecursion, list_all}
use Rattle.std.specs.Str.Lines.{lines}
use Rattle.jvms_file.specs.Names.{same_text}
use Rattle.jvms_file.specs.Members.{is_interface}
use Rattle.jvms_file.specs.Instructions.{is_above}
use Rattle.jvms_file.specs.Spelling.{IsDistinctBy}
use Rattle.jasmin.specs.declared.token.Token.{Token}
use Rattle.jasmin.specs.declared.source.MatchLine.{MatchLine}
use Rattle.jasmin.specs.declared.source.Operation.TheVariants as operation
use Rattle.jasmin.specs.declared.source.CodeItem.{CodeItem}
use Rattle.jasmin.specs.declared.source.CodeItem.TheVariants as item
use Rattle.jasmin.specs.declared.source.CatchLine.{CatchLine}
use Rattle.jasmin.specs.declared.source.FieldLine.{FieldLine}
use Rattle.jasmin.specs.declared.source.MethodLines.{MethodLines}
use Rattle.jasmin.specs.declared.source.Source.{Source}
use Rattle.jasmin.specs.declared.statement.ClassSort.{ClassSort}
use Rattle.jasmin.specs.declared.statement.ClassSort.TheVariants as sort
use Rattle.jasmin.specs.declared.statement.Instruction.TheVariants as instruction
use Rattle.jasmin.specs.declared.statement.Statement.{Statement}
use Rattle.jasmin.specs.declared.statement.Statement.TheVariants as statement
use Rattle.jasmin.specs.Lexing.{Lexes, lexemes}
use Rattle.jasmin.specs.Sources.{units_of}
use Rattle.jasmin.specs.Denote.{has_code}
use Rattle.source_grammar_laws.specs.Lines.{Spells, IsPermitted}

-- ---- Lines

-- Returns the statements of a line: none for a blank line, and two for a label before an instruction.
abbrev pub apart : Statement → List Statement
apart statement.Blank = []
apart (statement.LabelledInstruction label i) = statement.Label label ∷ statement.Instruction i ∷ []
apart s = s ∷ []

-- A line spells these statements.
abbrev pub SpellsLine : List ℕ → List Statement → Type 0
SpellsLine line ss = (ts : List Token) × (s : Statement) × Lexes true 0 line ts × Spells (lexemes ts) s × (ss ≡ apart s)

abbrev pub SpellsLines : List (List ℕ) → List Statement → Type 0
SpellsLines [] ss = ss ≡ []
SpellsLines (line ∷ others) ss =
    (here behind : List Statement) × (ss ≡ here ++ behind) × SpellsLine (units_of line) here × SpellsLines others behind

-- ---- Code

-- A statement is a directive inside a method. It may be anywhere in the method's code.
abbrev pub IsDirective : Statement → Type 0
IsDirective (statement.MaxStack n) = Unit {0}
IsDirective (statement.MaxLocals n) = Unit {0}
IsDirective (statement.Catch c) = Unit {0}
IsDirective (statement.Throws name) = Unit {0}
IsDirective statement.Dropped = Unit {0}
IsDirective _ = ⊥

-- Each value is above the one before it.
abbrev pub AreRising : Option ℤ → List MatchLine → Type 0
AreRising last [] = Unit {0}
AreRising last (m ∷ ms) = IsTrue (is_above last m.value) × AreRising (Some m.value) ms

-- Statements make an item of code: a label, an instruction, or a switch. A tableswitch has at least one label, its
-- greatest value fits an int, and its default follows. A lookupswitch has matches of increasing values, and its default
-- follows.
abbrev pub MakesItem : List Statement → CodeItem → Type 0
MakesItem ss (item.Label label) = ss ≡ statement.Label label ∷ []
MakesItem ss (item.Operation (operation.Table lines)) =
    (ss ≡ statement.Instruction (instruction.Table lines.low) ∷ (map (λ label. statement.TableLabel label) lines.labels ++ statement.Default lines.default ∷ []))
    × (0 < length lines.labels) × IsTrue (int_le (lines.low +ℤ pos (length lines.labels - 1)) (pos 2147483647))
MakesItem ss (item.Operation (operation.Lookup lines)) =
    (ss ≡ statement.Instruction instruction.Lookup ∷ (map (λ m. statement.Match m) lines.matches ++ statement.Default lines.default ∷ []))
    × AreRising None lines.matches
MakesItem ss (item.Operation o) = ss ≡ statement.Instruction (instruction.Whole o) ∷ []

-- Statements make these items in their order. Directives may precede, separate and follow the items.
abbrev pub MakesCode : List Statement → List CodeItem → Type 0
MakesCode ss [] = AllByRecursion IsDirective ss
MakesCode ss (i ∷ items) =
    (directives mine behind : List Statement) × (ss ≡ directives ++ (mine ++ behind)) × AllByRecursion IsDirective directives
    × MakesItem mine i × MakesCode behind items

-- ---- Methods

abbrev pub throws_in : List Statement → List (List ℕ)
throws_in [] = []
throws_in (statement.Throws name ∷ ss) = name ∷ throws_in ss
throws_in (s ∷ ss) = throws_in ss

abbrev pub catches_in : List Statement → List CatchLine
catches_in [] = []
catches_in (statement.Catch c ∷ ss) = c ∷ catches_in ss
catches_in (s ∷ ss) = catches_in ss

abbrev pub stacks_in : List Statement → List ℕ
stacks_in [] = []
stacks_in (statement.MaxStack n ∷ ss) = n ∷ stacks_in ss
stacks_in (s ∷ ss) = stacks_in ss

abbrev pub locals_in : List Statement → List ℕ
locals_in [] = []
locals_in (statement.MaxLocals n ∷ ss) = n ∷ locals_in ss
locals_in (s ∷ ss) = locals_in ss

-- The limits of a method determine this number. There is at most one limit, and without one the number is 1.
abbrev pub IsLimit : List ℕ → ℕ → Type 0
IsLimit [] n = n ≡ 1
IsLimit (limit ∷ []) n = n ≡ limit
IsLimit _ n = ⊥

abbrev pub is_label_item : CodeItem → Bool
is_label_item (item.Label name) = true
is_label_item (item.Operation o) = false

-- The statements between `.method` and `.end method` make this method. A method without code has no instructions.
abbrev pub MakesMethod : List Statement → MethodLines → Type 0
MakesMethod body m =
    MakesCode body m.code × (m.throws ≡ throws_in body) × (m.catches ≡ catches_in body) × IsLimit (stacks_in body) m.max_stack
    × IsLimit (locals_in body) m.max_locals × IsTrue (has_code m.name m.access || list_all is_label_item m.code)

-- ---- Members

abbrev pub sort_of : ℕ → ClassSort
sort_of access = if is_interface access then sort.Interface else sort.Class

-- A member of a class.
pub data Member : Type 0 where
  is_field : (line : FieldLine) → Member
  is_method : (lines : MethodLines) → Member

-- Statements make these members of a class with these flags. Fields and methods may alternate.
abbrev pub MakesMembers : ℕ → List Statement → List Member → Type 0
MakesMembers access ss [] = ss ≡ []
MakesMembers access ss (is_field f ∷ members) =
    (behind : List Statement) × (ss ≡ statement.Field f ∷ behind) × MakesMembers access behind members
MakesMembers access ss (is_method m ∷ members) =
    (body behind : List Statement) × (ss ≡ statement.Method m.access m.name m.descriptor ∷ (body ++ statement.EndMethod ∷ behind))
    × IsPermitted (sort_of access) m.access m.name × MakesMethod body m × MakesMembers access behind members

abbrev pub fields_in : List Member → List FieldLine
fields_in [] = []
fields_in (is_field f ∷ members) = f ∷ fields_in members
fields_in (is_method m ∷ members) = fields_in members

abbrev pub methods_in : List Member → List MethodLines
methods_in [] = []
methods_in (is_field f ∷ members) = methods_in members
methods_in (is_method m ∷ members) = m ∷ methods_in members

-- Decide whether two members have the same name and descriptor.
abbrev pub same_field : FieldLine → FieldLine → Bool
same_field f g = same_text g.name f.name && same_text g.descriptor f.descriptor

abbrev pub same_method : MethodLines → MethodLines → Bool
same_method m n = same_text n.name m.name && same_text n.descriptor m.descriptor

-- ---- The source

-- Statements are `.bytecode` and `.source` in either order, each at most once. Both are dropped.
abbrev pub IsBeginning : List Statement → Type 0
IsBeginning ss =
    (ss ≡ []) ⊎ ((ss ≡ statement.Bytecode ∷ []) ⊎ ((ss ≡ statement.SourceFile ∷ [])
    ⊎ ((ss ≡ statement.Bytecode ∷ statement.SourceFile ∷ []) ⊎ (ss ≡ statement.SourceFile ∷ statement.Bytecode ∷ []))))

-- Statements make the superclass: `.super`, or no statement for java/lang/Object.
abbrev pub MakesSuper : List Statement → List ℕ → Type 0
MakesSuper ss name = ((ss ≡ []) × (name ≡ codes "java/lang/Object")) ⊎ (ss ≡ statement.Superclass name ∷ [])

-- Statements make a source, with its parts in their order.
pub record MakesSource (ss : List Statement) (s : Source) : Type 0 where
  pub beginning : List Statement
  pub super : List Statement
  pub behind : List Statement
  pub members : List Member
  pub parts : ss ≡ beginning ++ (statement.Class s.access s.name ∷ (super ++ (map (λ name. statement.Implements name) s.interfaces ++ behind)))
  pub begins : IsBeginning beginning
  pub superclass : MakesSuper super s.superclass
  pub body : MakesMembers s.access behind members
  pub fields : s.fields ≡ fields_in members
  pub methods : s.methods ≡ methods_in members
  pub distinct_fields : IsDistinctBy same_field s.fields
  pub distinct_methods : IsDistinctBy same_method s.methods

-- A text writes a source's tree. Lines end at LF or CR LF.
pub record Writes (text : List ℕ) (s : Source) : Type 0 where
  pub statements : List Statement
  pub lines_spell : SpellsLines (lines text) statements
  pub source : MakesSource statements s
