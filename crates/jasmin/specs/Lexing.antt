-- Defines the tokens of a line of a source. A line is the list of its UTF-16 code units, without its line end.
use Rattle.std.specs.Prelude.{IsTrue, ◌≡◌, ◌⊎◌, ℕ, ◌+◌, ◌-◌, ◌*◌, zero, suc, Bool, true, false, not, ◌&&◌, ◌||◌, ◌==◌, nat_le, if◌then◌else◌, List, [], ◌∷◌, ◌++◌, length, map, Option, Some, None}
use Rattle.std.specs.Option.{option_and_then, option_map, unwrap_or}
use Rattle.std.specs.List.{list_all}
use Rattle.jvms_file.specs.Names.{begins_with}
use Rattle.jasmin.specs.declared.token.Lexeme.{Lexeme}
use Rattle.jasmin.specs.declared.token.Lexeme.TheVariants as lexeme
use Rattle.jasmin.specs.declared.token.Token.{Token}

-- Decides whether a unit is white space: a space, a tab, a form feed, or a carriage return that is no part of a line's
-- end.
abbrev pub is_space : ℕ → Bool
is_space u = u == 32 || (u == 9 || (u == 12 || u == 13))

-- Decides whether no word contains a unit: it is white space, a quote, a colon or an equals sign.
abbrev pub ends_word : ℕ → Bool
ends_word u = is_space u || (u == 34 || (u == 58 || u == 61))

-- Decides whether a word ends before these units.
abbrev pub is_word_end : List ℕ → Bool
is_word_end [] = true
is_word_end (u ∷ us) = ends_word u

abbrev pub is_empty : List ℕ → Bool
is_empty [] = true
is_empty (u ∷ us) = false

-- ---- Escapes

-- Returns the value of a hexadecimal digit of either case.
abbrev pub digit : ℕ → Option ℕ
digit u =
    if nat_le 48 u && nat_le u 57 then Some (u - 48)
    else (if nat_le 97 u && nat_le u 102 then Some (u - 87)
    else (if nat_le 65 u && nat_le u 70 then Some (u - 55)
    else None))

-- Returns the number whose hexadecimal digits are those of `n` and this one.
abbrev pub with_digit : ℕ → ℕ → Option ℕ
with_digit u n = option_map (λ d. n * 16 + d) (digit u)

-- Returns the unit of four hexadecimal digits.
abbrev pub four_digits : ℕ → ℕ → ℕ → ℕ → Option ℕ
four_digits a b c d =
    option_and_then (with_digit d) (option_and_then (with_digit c) (option_and_then (with_digit b) (digit a)))

-- Returns the unit that a letter after a backslash denotes.
abbrev pub unit_of_escape : ℕ → Option ℕ
unit_of_escape u =
    if u == 110 then Some 10
    else (if u == 114 then Some 13
    else (if u == 116 then Some 9
    else (if u == 98 then Some 8
    else (if u == 102 then Some 12
    else (if u == 34 || (u == 39 || u == 92) then Some u
    else None)))))

-- ---- Grammar

-- The units spell this unit of a text. They are the unit itself if it is no quote or backslash, or a backslash and a
-- letter, or a backslash, `u` and four hexadecimal digits.
abbrev pub SpellsUnit : List ℕ → ℕ → Type 0
SpellsUnit spelled v =
    ((spelled ≡ v ∷ []) × IsTrue (not (v == 34 || v == 92)))
    ⊎ (((letter : ℕ) × (spelled ≡ 92 ∷ letter ∷ []) × (unit_of_escape letter ≡ Some v))
    ⊎ ((a b c d : ℕ) × (spelled ≡ 92 ∷ 117 ∷ a ∷ b ∷ c ∷ d ∷ []) × (four_digits a b c d ≡ Some v)))

-- The units spell these units of a text, between its quotes.
abbrev pub SpellsUnits : List ℕ → List ℕ → Type 0
SpellsUnits spelled [] = spelled ≡ []
SpellsUnits spelled (v ∷ vs) =
    (first behind : List ℕ) × (spelled ≡ first ++ behind) × SpellsUnit first v × SpellsUnits behind vs

-- The first units spell a token, and the last ones follow it. A word is as long as possible.
abbrev pub SpellsToken : List ℕ → Lexeme → List ℕ → Type 0
SpellsToken spelled (lexeme.Word us) behind =
    (spelled ≡ us) × IsTrue (not (is_empty us)) × IsTrue (list_all (λ u. not (ends_word u)) us)
    × IsTrue (is_word_end behind)
SpellsToken spelled (lexeme.Text us) behind =
    (inside : List ℕ) × (spelled ≡ 34 ∷ inside ++ 34 ∷ []) × SpellsUnits inside us
SpellsToken spelled lexeme.Colon behind = spelled ≡ 58 ∷ []
SpellsToken spelled lexeme.Equals behind = spelled ≡ 61 ∷ []

-- Decides whether a semicolon begins a comment. One does only at a line's start or after white space.
abbrev pub begins_comment : Bool → List ℕ → List ℕ → Bool
begins_comment at_start space us = begins_with 59 us && (at_start || not (is_empty space))

-- A line, or the rest of one from this place on, consists of these tokens. White space or nothing precedes each token,
-- and its place is that of its spelling. White space or nothing follows the last token, and then a comment or nothing.
abbrev pub Lexes : Bool → ℕ → List ℕ → List Token → Type 0
Lexes at_start place line [] =
    (space behind : List ℕ) × (line ≡ space ++ behind) × IsTrue (list_all is_space space)
    × IsTrue (is_empty behind || begins_comment at_start space behind)
Lexes at_start place line (t ∷ ts) =
    (space spelled behind : List ℕ) × (line ≡ space ++ (spelled ++ behind)) × IsTrue (list_all is_space space)
    × IsTrue (not (begins_comment at_start space spelled)) × SpellsToken spelled t.lexeme behind
    × (t.start ≡ place + length space) × (t.end ≡ t.start + length spelled) × Lexes false t.end behind ts

-- ---- Reading

-- Reads four hexadecimal digits, which follow a `u`, and returns their unit and the rest.
abbrev pub digits_from : List ℕ → Option (ℕ × List ℕ)
digits_from (a ∷ b ∷ c ∷ d ∷ behind) = option_map (λ u. (u, behind)) (four_digits a b c d)
digits_from _ = None

-- Reads the rest of an escape after its backslash, a letter or a `u` and four digits. Returns its unit and the rest.
abbrev pub escape_from : List ℕ → Option (ℕ × List ℕ)
escape_from [] = None
escape_from (u ∷ behind) = if u == 117 then digits_from behind else option_map (λ v. (v, behind)) (unit_of_escape u)

-- Reads one unit of a text, and returns it and the rest. The closing quote is none.
unfoldable pub unit_from : List ℕ → Option (ℕ × List ℕ)
unit_from [] = None
unit_from (u ∷ behind) = if u == 34 then None else (if u == 92 then escape_from behind else Some (u, behind))

-- Reads as many units of a text as possible, at most `most`, and returns them and the rest.
unfoldable pub units_from : ℕ → List ℕ → List ℕ × List ℕ
units_from zero us = ([], us)
units_from (suc most) us =
    unwrap_or (option_map (λ v. (v.0 ∷ (units_from most v.1).0, (units_from most v.1).1)) (unit_from us)) ([], us)

-- Returns the units and the rest after the quote that closes their text.
abbrev pub closed_text : List ℕ → List ℕ → Option (List ℕ × List ℕ)
closed_text vs [] = None
closed_text vs (u ∷ behind) = if u == 34 then Some (vs, behind) else None

-- Reads a text after its opening quote, and returns it and the rest after its closing quote.
abbrev pub text_from : List ℕ → Option (List ℕ × List ℕ)
text_from us = closed_text (units_from (length us) us).0 (units_from (length us) us).1

-- Reads a word, and returns it and the rest. The word is empty if none begins here.
unfoldable pub word_from : List ℕ → List ℕ × List ℕ
word_from [] = ([], [])
word_from (u ∷ us) = if ends_word u then ([], u ∷ us) else (u ∷ (word_from us).0, (word_from us).1)

-- Reads a token without its place, and returns it and the rest.
unfoldable pub lexeme_from : List ℕ → Option (Lexeme × List ℕ)
lexeme_from [] = None
lexeme_from (u ∷ us) =
    if u == 34 then option_map (λ t. (lexeme.Text t.0, t.1)) (text_from us)
    else (if u == 58 then Some (lexeme.Colon, us)
    else (if u == 61 then Some (lexeme.Equals, us)
    else Some (lexeme.Word (word_from (u ∷ us)).0, (word_from (u ∷ us)).1)))

-- Returns the token with its place in a line of `size` units, and the rest. A place is `size` less the number of units
-- from there on.
abbrev pub at_its_place : ℕ → List ℕ → Lexeme × List ℕ → Token × List ℕ
at_its_place size us l = (record { lexeme = l.0; start = size - length us; end = size - length l.1 }, l.1)

-- Reads a token from the rest of a line of `size` units, and returns it and what follows it.
unfoldable pub token_from : ℕ → List ℕ → Option (Token × List ℕ)
token_from size us = option_map (at_its_place size us) (lexeme_from us)

-- Returns the rest of a line from its next token on: it drops white space, and everything if a comment begins.
unfoldable pub begin_from : Bool → List ℕ → List ℕ
begin_from may_comment [] = []
begin_from may_comment (u ∷ us) =
    if is_space u then begin_from true us else (if u == 59 && may_comment then [] else u ∷ us)

-- Returns the tokens of the rest of a line of `size` units, if they are at most `most`. The rest is empty or begins
-- with a token.
unfoldable pub tokens_from : ℕ → ℕ → List ℕ → Option (List Token)
tokens_from size most [] = Some []
tokens_from size zero (u ∷ us) = None
tokens_from size (suc most) (u ∷ us) =
    option_and_then
    (λ t. option_map (λ ts. t.0 ∷ ts) (tokens_from size most (begin_from false t.1)))
    (token_from size (u ∷ us))

-- Returns the tokens of a line, if it consists of tokens.
abbrev pub tokens_of : List ℕ → Option (List Token)
tokens_of line = tokens_from (length line) (length line) (begin_from true line)

-- Returns the tokens of a line without their places.
abbrev pub lexemes : List Token → List Lexeme
lexemes ts = map (λ t. t.lexeme) ts
