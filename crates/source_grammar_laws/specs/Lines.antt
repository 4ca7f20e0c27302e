-- Defines which statement the tokens of one line spell.
use Rattle.std.specs.Prelude.{◌≡◌, ◌⊎◌, IsTrue, ℕ, ◌||◌, List, [], ◌∷◌, Option, codes, ℤ, pos, int_le}
use Rattle.jvms_file.specs.Names.{is_initializer_name}
use Rattle.jvms_file.specs.Members.{is_abstract}
use Rattle.jvms_file.specs.Instructions.{is_above}
use Rattle.jasmin.specs.declared.token.Lexeme.{Lexeme}
use Rattle.jasmin.specs.declared.token.Lexeme.TheVariants as lexeme
use Rattle.jasmin.specs.declared.source.MatchLine.{MatchLine}
use Rattle.jasmin.specs.declared.statement.OpenSwitch.{OpenSwitch}
use Rattle.jasmin.specs.declared.statement.OpenSwitch.TheVariants as open_switch
use Rattle.jasmin.specs.declared.statement.ClassSort.{ClassSort}
use Rattle.jasmin.specs.declared.statement.ClassSort.TheVariants as sort
use Rattle.jasmin.specs.declared.statement.Statement.{Statement}
use Rattle.jasmin.specs.declared.statement.Statement.TheVariants as statement
use Rattle.source_grammar_laws.specs.Numbers.{SpellsSigned}
use Rattle.source_grammar_laws.specs.Words.{IsLabel}
use Rattle.source_grammar_laws.specs.Directives.{SpellsBytecode, SpellsSourceFile, SpellsClass, SpellsSuper, SpellsImplements, SpellsField, SpellsMethod, SpellsEnd, SpellsLimit, SpellsCatch, SpellsThrows, SpellsLineNumber, SpellsVariable}
use Rattle.source_grammar_laws.specs.Instructions.{SpellsInstruction}

-- `number : label`.
abbrev pub SpellsMatch : List Lexeme → MatchLine → Type 0
SpellsMatch ts m =
    (w : List ℕ) × (ts ≡ lexeme.Word w ∷ lexeme.Colon ∷ lexeme.Word m.label ∷ []) × SpellsSigned 31 w m.value × IsLabel m.label

-- Tokens spell a statement. What depends on the place, as that a line of a switch is inside one, is required elsewhere.
unfoldable pub Spells : List Lexeme → Statement → Type 0
Spells ts statement.Blank = ts ≡ []
Spells ts statement.Bytecode = SpellsBytecode ts
Spells ts statement.SourceFile = SpellsSourceFile ts
Spells ts (statement.Class access name) = SpellsClass ts access name
Spells ts (statement.Superclass name) = SpellsSuper ts name
Spells ts (statement.Implements name) = SpellsImplements ts name
Spells ts (statement.Field f) = SpellsField ts f
Spells ts (statement.Method access name descriptor) = SpellsMethod ts access name descriptor
Spells ts statement.EndMethod = SpellsEnd ts
Spells ts (statement.MaxStack n) = SpellsLimit (codes "stack") ts n
Spells ts (statement.MaxLocals n) = SpellsLimit (codes "locals") ts n
Spells ts (statement.Catch c) = SpellsCatch ts c
Spells ts (statement.Throws name) = SpellsThrows ts name
Spells ts statement.Dropped = SpellsLineNumber ts ⊎ SpellsVariable ts
Spells ts (statement.TableLabel label) = (ts ≡ lexeme.Word label ∷ []) × IsLabel label
Spells ts (statement.Match m) = SpellsMatch ts m
Spells ts (statement.Default label) =
    (ts ≡ lexeme.Word (codes "default") ∷ lexeme.Colon ∷ lexeme.Word label ∷ []) × IsLabel label
Spells ts (statement.Label label) = (ts ≡ lexeme.Word label ∷ lexeme.Colon ∷ []) × IsLabel label
Spells ts (statement.Instruction i) = SpellsInstruction ts i
Spells ts (statement.LabelledInstruction label i) =
    (behind : List Lexeme) × (ts ≡ lexeme.Word label ∷ lexeme.Colon ∷ behind) × IsLabel label × SpellsInstruction behind i

-- ---- What depends on the lines before

-- A method's flags are allowed. A method of an interface is abstract, except `<clinit>`.
abbrev pub IsPermitted : ClassSort → ℕ → List ℕ → Type 0
IsPermitted sort.Class access name = Unit {0}
IsPermitted sort.Interface access name = IsTrue (is_abstract access || is_initializer_name name)

-- A statement suits a class of this sort and the open switch. A line of a switch requires an open one of its kind. A
-- tableswitch's value fits an int, and a match is above the one before it. A label or an instruction requires that no
-- switch is open.
unfoldable pub Suits : ClassSort → OpenSwitch → Statement → Type 0
Suits sort switch (statement.Method access name descriptor) = IsPermitted sort access name
Suits sort switch (statement.TableLabel label) =
    (next : ℤ) × (switch ≡ open_switch.Table next) × IsTrue (int_le next (pos 2147483647))
Suits sort switch (statement.Match m) =
    (last : Option ℤ) × (switch ≡ open_switch.Lookup last) × IsTrue (is_above last m.value)
Suits sort switch (statement.Default label) =
    ((next : ℤ) × (switch ≡ open_switch.Table next)) ⊎ ((last : Option ℤ) × (switch ≡ open_switch.Lookup last))
Suits sort switch (statement.Label label) = switch ≡ open_switch.None
Suits sort switch (statement.Instruction i) = switch ≡ open_switch.None
Suits sort switch (statement.LabelledInstruction label i) = switch ≡ open_switch.None
Suits sort switch _ = Unit {0}
