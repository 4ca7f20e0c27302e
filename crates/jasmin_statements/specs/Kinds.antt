-- Defines parts of the kinds of lines.
use Rattle.std.specs.Prelude.{List, [], ◌∷◌, Ok}
use Rattle.jasmin.specs.declared.token.Lexeme.{Lexeme}
use Rattle.jasmin.specs.declared.statement.LineKind.{LineKind}
use Rattle.jasmin.specs.declared.statement.LineKind.TheVariants as kind
use Rattle.jasmin.specs.Judgements.{Judged}
use Rattle.jasmin.specs.LineKinds.{instruction_kind}

-- Returns the kind of a line that begins with a label, by the tokens after it.
abbrev pub labelled_kind : List Lexeme → Judged LineKind
labelled_kind [] = Ok kind.Label
labelled_kind (t ∷ ts) = instruction_kind (λ code. kind.LabelledInstruction code) t
