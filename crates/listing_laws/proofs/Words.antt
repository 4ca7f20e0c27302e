-- Proves that words separated by single spaces are read as they are spelled.
use Rattle.std.proofs.Common.{◌≡◌, ℕ, ◌+◌, ◌&&◌, ◌||◌, eqb, Bool, true, false, not, List, [], ◌∷◌, ◌++◌, length, refl, sym, ap, append-nil}
use Rattle.std.proofs.lemmas.Bool.{and_parts, not-true}
use Rattle.std.specs.List.{list_all, AllZip}
use Rattle.jvms_file.specs.Names.{begins_with}
use Rattle.jasmin.specs.declared.token.Lexeme.{Lexeme}
use Rattle.jasmin.specs.declared.token.Lexeme.TheVariants as lexeme
use Rattle.jasmin.specs.declared.token.Token.{Token}
use Rattle.jasmin.specs.declared.reading.Reading.{Reading}
use Rattle.jasmin.specs.Lexing.{is_space, ends_word, is_word_end, is_empty, begins_comment, SpellsToken, Lexes, lexemes}
use Rattle.jasmin.specs.Reading.{with_line, with_lexemes}
use Rattle.jasmin.proofs.Tokens.{spelled_is_lexed}
use Rattle.listing_spec.specs.Printed.{join_words}
use Rattle.listing_spec.specs.Printable.{is_word, is_word_unit, is_paired}

-- ---- One token

-- A piece spells a token before anything that no word continues into.
pub record IsPiece (spelled : List ℕ) (l : Lexeme) : Type 0 where
  pub spells : (behind : List ℕ) → is_word_end behind ≡ true → SpellsToken spelled l behind
  pub plain : begins_with 59 spelled ≡ false

-- A plain word isn't empty, has no unit that ends a word, and doesn't begin with a semicolon.
pub record IsPlain (w : List ℕ) : Type 0 where
  pub some : not (is_empty w) ≡ true
  pub units : list_all (λ u. not (ends_word u)) w ≡ true
  pub plain : begins_with 59 w ≡ false

-- Decides whether a given word is plain.
abbrev pub is_plain : List ℕ → Bool
is_plain w = not (is_empty w) && (list_all (λ u. not (ends_word u)) w && not (begins_with 59 w))

pub plain_from : (w : List ℕ) → is_plain w ≡ true → IsPlain w
plain_from w e =
    let first = and_parts (not (is_empty w)) (list_all (λ u. not (ends_word u)) w && not (begins_with 59 w)) e in
    let second = and_parts (list_all (λ u. not (ends_word u)) w) (not (begins_with 59 w)) first.1 in
    record { some = first.0; units = second.0; plain = not-true (begins_with 59 w) second.1 }

-- A given plain word is a piece.
pub fixed_piece : (w : List ℕ) → is_plain w ≡ true → IsPiece w (lexeme.Word w)
fixed_piece w e = record { spells = λ behind ends. (refl, (plain_from w e).some, (plain_from w e).units, ends); plain = (plain_from w e).plain }

pub plain_piece : (w : List ℕ) → IsPlain w → IsPiece w (lexeme.Word w)
plain_piece w p = record { spells = λ behind ends. (refl, p.some, p.units, ends); plain = p.plain }

pub colon_piece : IsPiece (58 ∷ []) lexeme.Colon
colon_piece = record { spells = λ behind ends. refl; plain = refl }

pub equals_piece : IsPiece (61 ∷ []) lexeme.Equals
equals_piece = record { spells = λ behind ends. refl; plain = refl }

no_end : (a b : Bool) → not (a || b) ≡ true → not a ≡ true
no_end true b e = e
no_end false b e = refl

-- No unit of a name ends a word.
pub units_plain : (w : List ℕ) → list_all is_word_unit w ≡ true → list_all (λ u. not (ends_word u)) w ≡ true
units_plain [] e = refl
units_plain (u ∷ us) e =
    let both = and_parts (is_word_unit u) (list_all is_word_unit us) e in
    rw (no_end (ends_word u) (eqb u 10) both.0, units_plain us both.1) refl

pub word_units : (w : List ℕ) → is_word w ≡ true → list_all (λ u. not (ends_word u)) w ≡ true
unfolding is_word
word_units w e = units_plain w (and_parts (list_all is_word_unit w) (is_paired w) e).0

-- ---- Words separated by spaces

-- A line consists of tokens with these lexemes.
pub record LexesAs (at_start : Bool) (place : ℕ) (line : List ℕ) (ls : List Lexeme) : Type 0 where
  pub tokens : List Token
  pub lexes : Lexes at_start place line tokens
  pub are : lexemes tokens ≡ ls

no_comment : (at_start : Bool) (space w : List ℕ) → begins_with 59 w ≡ false → not (begins_comment at_start space w) ≡ true
no_comment at_start space w e = rw e refl

-- Each word is a piece that spells one of these tokens.
abbrev pub ArePieces : List (List ℕ) → List Lexeme → Type 0
ArePieces ws ls = AllZip IsPiece ws ls

pub pieces_push : (ws vs : List (List ℕ)) (ls ms : List Lexeme) → ArePieces ws ls → ArePieces vs ms → ArePieces (ws ++ vs) (ls ++ ms)
pieces_push [] vs [] ms are more = more
pieces_push [] vs (l ∷ ls) ms are more = absurd are
pieces_push (w ∷ ws) vs [] ms are more = absurd are
pieces_push (w ∷ ws) vs (l ∷ ls) ms are more = (are.0, pieces_push ws vs ls ms are.1 more)

pub joined_lexes : (ws : List (List ℕ)) (ls : List Lexeme) → ArePieces ws ls → (at_start : Bool) (place : ℕ) (space : List ℕ) → list_all is_space space ≡ true → LexesAs at_start place (space ++ join_words ws) ls
unfolding join_words
joined_lexes [] [] are at_start place space spaces = record { tokens = []; lexes = (space, [], refl, spaces, refl); are = refl }
joined_lexes [] (l ∷ ls) are at_start place space spaces = absurd are
joined_lexes (w ∷ ws) [] are at_start place space spaces = absurd are
joined_lexes (w ∷ []) (l ∷ []) are at_start place space spaces =
    let start = place + length space in
    record {
      tokens = (record { lexeme = l; start = start; end = start + length w }) ∷ [];
      lexes = (space, w, [], ap (λ (v : List ℕ). space ++ v) (sym (append-nil w)), spaces, no_comment at_start space w are.0.plain, are.0.spells [] refl, refl, refl, ([], [], refl, refl, refl));
      are = refl;
    }
joined_lexes (w ∷ []) (l ∷ m ∷ ls) are at_start place space spaces = absurd are.1
joined_lexes (w ∷ v ∷ ws) (l ∷ []) are at_start place space spaces = absurd are.1
joined_lexes (w ∷ v ∷ ws) (l ∷ m ∷ ls) are at_start place space spaces =
    let start = place + length space in
    let later = joined_lexes (v ∷ ws) (m ∷ ls) are.1 false (start + length w) (32 ∷ []) refl in
    record {
      tokens = (record { lexeme = l; start = start; end = start + length w }) ∷ later.tokens;
      lexes = (space, w, 32 ∷ join_words (v ∷ ws), refl, spaces, no_comment at_start space w are.0.plain, are.0.spells (32 ∷ join_words (v ∷ ws)) refl, refl, refl, later.lexes);
      are = ap (λ (ks : List Lexeme). l ∷ ks) later.are;
    }

-- A word directly followed by a colon consists of these two tokens.
pub label_lexes : (w : List ℕ) → IsPlain w → LexesAs true 0 (w ++ 58 ∷ []) (lexeme.Word w ∷ lexeme.Colon ∷ [])
label_lexes w p = record {
  tokens = (record { lexeme = lexeme.Word w; start = 0; end = 0 + length w }) ∷ (record { lexeme = lexeme.Colon; start = (0 + length w) + 0; end = ((0 + length w) + 0) + 1 }) ∷ [];
  lexes = ([], w, 58 ∷ [], refl, refl, no_comment true [] w p.plain, (refl, p.some, p.units, refl), refl, refl, ([], 58 ∷ [], [], refl, refl, refl, refl, refl, refl, ([], [], refl, refl, refl)));
  are = refl;
}

-- ---- A line

-- The tokens of a line determine what the line adds.
pub line_is : (r : Reading) (line : List ℕ) (ls : List Lexeme) → LexesAs true 0 line ls → with_line r line ≡ with_lexemes r ls
unfolding with_line
line_is r line ls l = rw (spelled_is_lexed line l.tokens l.lexes, l.are) refl

pub words_are : (r : Reading) (ws : List (List ℕ)) (ls : List Lexeme) → ArePieces ws ls → with_line r (join_words ws) ≡ with_lexemes r ls
words_are r ws ls are = line_is r (join_words ws) ls (joined_lexes ws ls are true 0 [] refl)
