-- Defines the kind of a line, by its first tokens.
use Rattle.std.specs.Prelude.{ℕ, Bool, true, false, not, ◌&&◌, if◌then◌else◌, List, [], ◌∷◌, Option, Some, None, position, Ok, Err, codes}
use Rattle.jvms_file.specs.Names.{same_text, begins_with}
use Rattle.jasmin.specs.declared.token.Lexeme.{Lexeme}
use Rattle.jasmin.specs.declared.token.Lexeme.TheVariants as lexeme
use Rattle.jasmin.specs.declared.mnemonic.TheConstants.{MNEMONICS}
use Rattle.jasmin.specs.declared.statement.Flaw.TheVariants as flaw
use Rattle.jasmin.specs.declared.statement.Directive.{Directive}
use Rattle.jasmin.specs.declared.statement.Directive.TheVariants as directive
use Rattle.jasmin.specs.declared.statement.LineKind.{LineKind}
use Rattle.jasmin.specs.declared.statement.LineKind.TheVariants as kind
use Rattle.jasmin.specs.declared.statement.OpenSwitch.{OpenSwitch}
use Rattle.jasmin.specs.declared.statement.OpenSwitch.TheVariants as open_switch
use Rattle.jasmin.specs.Judgements.{Judged}

-- Returns the directive of this name, which begins with a dot.
abbrev pub directive_named : List ℕ → Option Directive
directive_named w =
    if same_text (codes ".bytecode") w then Some directive.Bytecode
    else (if same_text (codes ".source") w then Some directive.Source
    else (if same_text (codes ".class") w then Some directive.Class
    else (if same_text (codes ".interface") w then Some directive.Interface
    else (if same_text (codes ".super") w then Some directive.Super
    else (if same_text (codes ".implements") w then Some directive.Implements
    else (if same_text (codes ".field") w then Some directive.Field
    else (if same_text (codes ".method") w then Some directive.Method
    else (if same_text (codes ".end") w then Some directive.End
    else (if same_text (codes ".limit") w then Some directive.Limit
    else (if same_text (codes ".catch") w then Some directive.Catch
    else (if same_text (codes ".throws") w then Some directive.Throws
    else (if same_text (codes ".line") w then Some directive.Line
    else (if same_text (codes ".var") w then Some directive.Var
    else None)))))))))))))

-- Returns the opcode of a mnemonic. `invokenonvirtual` is another name of invokespecial.
abbrev pub opcode_named : List ℕ → Option ℕ
opcode_named w =
    if same_text (codes "invokenonvirtual") w then Some 183 else position (λ name. same_text name.now w) MNEMONICS

abbrev pub directive_kind : Option Directive → Judged LineKind
directive_kind (Some d) = Ok (kind.Directive d)
directive_kind None = Err flaw.UnknownDirective

-- Returns the kind of a line whose instruction is this token.
abbrev pub instruction_kind : (ℕ → LineKind) → Lexeme → Judged LineKind
instruction_kind make (lexeme.Word w) = named (opcode_named w)
  where
    named : Option ℕ → Judged LineKind
    named (Some code) = Ok (make code)
    named None = Err flaw.UnknownInstruction
instruction_kind make _ = Err flaw.UnknownInstruction

-- Returns the kind of a line of code: a label, a label and an instruction, or an instruction.
abbrev pub code_kind : List Lexeme → Judged LineKind
code_kind [] = Ok kind.Blank
code_kind (lexeme.Word w ∷ lexeme.Colon ∷ []) = Ok kind.Label
code_kind (lexeme.Word w ∷ lexeme.Colon ∷ t ∷ ts) = instruction_kind (λ code. kind.LabelledInstruction code) t
code_kind (t ∷ ts) = instruction_kind (λ code. kind.Instruction code) t

-- Decides whether a line's first token is the word `default`.
abbrev pub is_default : List Lexeme → Bool
is_default (lexeme.Word w ∷ ts) = same_text (codes "default") w
is_default _ = false

abbrev pub is_alone : List Lexeme → Bool
is_alone (t ∷ []) = true
is_alone _ = false

-- Returns the kind of a line of a switch. Its last line begins with `default`. In a tableswitch, that word and nothing
-- else is a label.
abbrev pub switch_kind : OpenSwitch → List Lexeme → LineKind
switch_kind (open_switch.Table next) ts = if is_default ts && not (is_alone ts) then kind.Default else kind.Case
switch_kind _ ts = if is_default ts then kind.Default else kind.Case

-- Returns the kind of a line without a directive.
abbrev pub other_kind : OpenSwitch → List Lexeme → Judged LineKind
other_kind open_switch.None ts = code_kind ts
other_kind switch [] = Ok kind.Blank
other_kind switch (t ∷ ts) = Ok (switch_kind switch (t ∷ ts))

-- Returns the kind of a line, or the fault of its name. A line whose first token is a word that begins with a dot is a
-- directive's, at any place.
unfoldable pub kind_of : OpenSwitch → List Lexeme → Judged LineKind
kind_of switch (lexeme.Word w ∷ ts) =
    if begins_with 46 w then directive_kind (directive_named w) else other_kind switch (lexeme.Word w ∷ ts)
kind_of switch ts = other_kind switch ts
