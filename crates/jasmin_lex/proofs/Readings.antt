-- Derives the spelling of a line from its tokens.
use Rattle.std.proofs.Common.{ℕ, true, List, Result, Ok, Err}
use Rattle.std.specs.Prelude.{IfOk}
use Rattle.jasmin.specs.declared.token.Token.{Token}
use Rattle.jasmin.specs.Lexing.{tokens_of, Lexes}
use Rattle.jasmin.proofs.Tokens.{lexed_is_spelled}
use Rattle.jasmin_lex.specs.declared.fault.LexFault.{LexFault}
use Rattle.jasmin_lex.specs.Lexed.{IsLexed}

-- The tokens that were read spell the line.
pub found_from : {X : Type 0} (all : X → List Token) (r : Result X LexFault) (line : List ℕ) → IsLexed all r (tokens_of line) → IfOk r (λ x. Lexes true 0 line (all x))
found_from all (Ok x) line e = lexed_is_spelled line (all x) e
found_from all (Err fault) line e = tt
