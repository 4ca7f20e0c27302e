-- Proves that lexemes of parts of a line are those parts of the lexemes.
use Rattle.std.proofs.Common.{◌≡◌, ℕ, suc, ◌+◌, ◌-◌, ◌≤◌, Bool, true, false, not, cond, if◌then◌else◌, List, [], ◌∷◌, length, take, drop, refl, ap, sym, ◌∙◌, arith}
use Rattle.std.specs.List.{position_or_len}
use Rattle.std.proofs.lemmas.List.{take-map, drop-map, length-map, length-drop, take_all}
use Rattle.jasmin.specs.declared.token.Token.{Token}
use Rattle.jasmin.specs.Lexing.{lexemes}
use Rattle.jasmin.specs.Statements.{but_last, is_equals, field_head, field_access}

pub lexemes_length : (ts : List Token) → length (lexemes ts) ≡ length ts
lexemes_length ts = length-map ts (λ t. t.lexeme)

lexemes_take : (n : ℕ) (ts : List Token) → take n (lexemes ts) ≡ lexemes (take n ts)
lexemes_take n ts = take-map (λ t. t.lexeme) n ts

pub lexemes_drop : (n : ℕ) (ts : List Token) → drop n (lexemes ts) ≡ lexemes (drop n ts)
lexemes_drop n ts = drop-map (λ t. t.lexeme) n ts

pub lexemes_behind : (n : ℕ) (ts : List Token) → lexemes (take (length ts - n) (drop n ts)) ≡ drop n (lexemes ts)
lexemes_behind n ts =
    let whole : length (drop n ts) ≤ length ts - n = rw (length-drop n ts) (omega arith) in
    ap lexemes (take_all (length ts - n) (drop n ts) whole) ∙ sym (lexemes_drop n ts)

pub lexemes_but_last : (ts : List Token) → but_last (lexemes ts) ≡ lexemes (take (length ts - 1) ts)
lexemes_but_last ts = ap (λ n. take (n - 1) (lexemes ts)) (lexemes_length ts) ∙ lexemes_take (length ts - 1) ts

pub lexemes_access : (ts : List Token) → field_access (lexemes ts) ≡ lexemes (take (length ts - 2) ts)
lexemes_access ts = ap (λ n. take (n - 2) (lexemes ts)) (lexemes_length ts) ∙ lexemes_take (length ts - 2) ts

abbrev pub has_equals : Token → Bool
has_equals t = is_equals t.lexeme

-- The lexemes before the first equals sign are those of the tokens before it.
pub lexemes_head : (ts : List Token) → lexemes (take (position_or_len has_equals ts) ts) ≡ field_head (lexemes ts)
lexemes_head [] = refl
lexemes_head (t ∷ ts) = by_test (is_equals t.lexeme) (lexemes_head ts)
  where
    behind : lexemes (take (position_or_len has_equals ts) ts) ≡ field_head (lexemes ts)
        → lexemes (take (1 + position_or_len has_equals ts) (t ∷ ts)) ≡ t.lexeme ∷ field_head (lexemes ts)
    behind e =
        let one_more : 1 + position_or_len has_equals ts ≡ suc (position_or_len has_equals ts) = omega arith in
        rw one_more (ap (λ us. t.lexeme ∷ us) e)

    by_test : (b : Bool) → lexemes (take (position_or_len has_equals ts) ts) ≡ field_head (lexemes ts)
        → lexemes (take (cond (not b) (1 + position_or_len has_equals ts) 0) (t ∷ ts)) ≡ (if b then [] else t.lexeme ∷ field_head (lexemes ts))
    by_test true e = refl
    by_test false e = behind e
