-- Proves that a loop judges access words one at a time.
use Rattle.std.proofs.Common.{◌≡◌, ℕ, suc, ◌<◌, List, [], ◌∷◌, length, drop, get_or, sym, ap, ◌∙◌}
use Rattle.std.proofs.Math.Seq.{drop-cons}
use Rattle.jasmin.specs.declared.token.Token.{Token}
use Rattle.jasmin.specs.Lexing.{lexemes}
use Rattle.jasmin.specs.Judgements.{Judged, unless}
use Rattle.jasmin.specs.Operands.{Access, access_word, access_words_after, flags_with}
use Rattle.jasmin_operands.proofs.Judgements.{unless_again}

-- Combines the judgement of the tokens so far with that of the tokens from a place on.
abbrev pub judged_from : Access → ℕ → Judged (Unit {0}) → ℕ → List Token → Judged (Unit {0})
judged_from words before judged place ts = unless judged (access_words_after words before (lexemes (drop place ts)))

pub one_more : (words : Access) (before : ℕ) (judged : Judged (Unit {0})) (place : ℕ) (ts : List Token) (t : Token) → place < length ts → t ≡ get_or ts place t
    → judged_from words (flags_with words before (t.lexeme ∷ [])) (unless judged (access_word words before t.lexeme)) (suc place) ts ≡ judged_from words before judged place ts
one_more words before judged place ts t within is =
    let next : drop place ts ≡ get_or ts place t ∷ drop (suc place) ts = drop-cons ts place t within in
    let front : drop place ts ≡ t ∷ drop (suc place) ts = next ∙ ap (λ (k : Token). k ∷ drop (suc place) ts) (sym is) in
    unless_again judged (access_word words before t.lexeme) (access_words_after words (flags_with words before (t.lexeme ∷ [])) (lexemes (drop (suc place) ts)))
    ∙ sym (ap (λ (r : List Token). unless judged (access_words_after words before (lexemes r))) front)
