-- Derives the clauses about the grammar from the exact clause.
use Rattle.std.proofs.Common.{subst}
use Rattle.jasmin.specs.Sources.{units_of}
use Rattle.jasmin.proofs.Tokens.{spelled_is_lexed}
use Rattle.jasmin_lex.specs.Lexed.{IsLexed}
use Rattle.jasmin_lex.proofs.Readings.{found_from}
use Rattle.jasmin_lex.proofs.token_list.tokens.Goals as goal

pub returns-clause-found : goal.returns-clause-found
returns-clause-found c = found_from (λ v. v.items) c.tokens_of_text.result (units_of c.args.line.now) c.tokens_of_text.ensures

pub returns-clause-only : goal.returns-clause-only
returns-clause-only c = λ ts spells. subst (IsLexed (λ v. v.items) c.tokens_of_text.result) (spelled_is_lexed (units_of c.args.line.now) ts spells) c.tokens_of_text.ensures
