-- Proves that the tokens that are read from a line spell it, and that tokens that spell a line are read from it.
use Rattle.std.proofs.Common.{◌≡◌, ◌⊎◌, ℕ, zero, suc, ◌<◌, ◌≤◌, ◌+◌, ◌-◌, ◌&&◌, ◌||◌, Bool, true, false, not, cond, eqb, List, [], ◌∷◌, ◌++◌, length, Some, refl, sym, ap, subst, ◌∙◌, append_assoc, arith, inl, inr}
use Rattle.std.proofs.lemmas.Bool.{eqb-true, not-true, and_parts}
use Rattle.std.proofs.lemmas.List.{length-append}
use Rattle.std.proofs.lemmas.Option.{none-some, same_Some}
use Rattle.std.specs.List.{list_all}
use Rattle.std.specs.Option.{option_map}
use Rattle.jasmin.specs.declared.token.Lexeme.{Lexeme}
use Rattle.jasmin.specs.declared.token.Lexeme.TheVariants as lexeme
use Rattle.jasmin.specs.declared.token.Token.{Token}
use Rattle.jasmin.specs.Lexing.{is_space, ends_word, is_word_end, is_empty, begins_comment, SpellsToken, Lexes, word_from, text_from, lexeme_from, at_its_place, token_from, begin_from, tokens_from, tokens_of}
use Rattle.jasmin.proofs.Steps.{choose, mapped, before}
use Rattle.jasmin.proofs.Texts.{text_found, text_again}

-- ---- Words

abbrev goes_on : ℕ → Bool
goes_on u = not (ends_word u)

-- A word that was read, and the rest after it.
record WordFound (us : List ℕ) (read : List ℕ × List ℕ) : Type 0 where
  pub parts : us ≡ read.0 ++ read.1
  pub units : list_all goes_on read.0 ≡ true
  pub ends : is_word_end read.1 ≡ true

word_more : (u : ℕ) (us : List ℕ) (b : Bool) → ends_word u ≡ b → WordFound us (word_from us) → WordFound (u ∷ us) (cond b ([], u ∷ us) (u ∷ (word_from us).0, (word_from us).1))
word_more u us true e f = record { parts = refl; units = refl; ends = e }
word_more u us false e f = record { parts = ap (λ (w : List ℕ). u ∷ w) f.parts; units = rw (e, f.units) refl; ends = f.ends }

word_found : (us : List ℕ) → WordFound us (word_from us)
unfolding word_from
word_found [] = record { parts = refl; units = refl; ends = refl }
word_found (u ∷ us) = word_more u us (ends_word u) refl (word_found us)

word_ended : (behind : List ℕ) → is_word_end behind ≡ true → word_from behind ≡ ([], behind)
unfolding word_from
word_ended [] e = refl
word_ended (u ∷ us) e = rw e refl

word_again : (w behind : List ℕ) → list_all goes_on w ≡ true → is_word_end behind ≡ true → word_from (w ++ behind) ≡ (w, behind)
unfolding word_from
word_again [] behind units ends = word_ended behind ends
word_again (u ∷ w) behind units ends =
    let both = and_parts (goes_on u) (list_all goes_on w) units in
    rw (not-true (ends_word u) both.0, word_again w behind both.1 ends) refl

-- ---- What a token is

abbrev pub begins_space : List ℕ → Bool
begins_space [] = false
begins_space (u ∷ us) = is_space u

-- A token that was read is spelled by the units before the rest.
record LexemeFound (us : List ℕ) (l : Lexeme) (behind : List ℕ) : Type 0 where
  pub spelled : List ℕ
  pub parts : us ≡ spelled ++ behind
  pub spells : SpellsToken spelled l behind
  pub some : is_empty spelled ≡ false

-- A unit that is none of four sorts ends no word.
no_end : (u : ℕ) → is_space u ≡ false → eqb u 34 ≡ false → eqb u 58 ≡ false → eqb u 61 ≡ false → ends_word u ≡ false
no_end u a b c d = rw (a, b, c, d) refl

word_lexeme : (u : ℕ) (us behind : List ℕ) (l : Lexeme) (read : List ℕ × List ℕ) → WordFound (u ∷ us) read → ends_word u ≡ false → ◌≡◌ {A = Lexeme × List ℕ} (lexeme.Word read.0, read.1) (l, behind) → LexemeFound (u ∷ us) l behind
word_lexeme u us behind l ([], left) f runs e =
    let bad : ends_word u ≡ true = subst (λ (w : List ℕ). is_word_end w ≡ true) (sym f.parts) f.ends in
    absurd cc
word_lexeme u us behind l (v ∷ vs, left) f runs e =
    subst (λ (p : Lexeme × List ℕ). LexemeFound (u ∷ us) p.0 p.1) e
    (record { spelled = v ∷ vs; parts = f.parts; spells = (refl, refl, f.units, f.ends); some = refl })

lexeme_found : (us : List ℕ) (l : Lexeme) (behind : List ℕ) → begins_space us ≡ false → lexeme_from us ≡ Some (l, behind) → LexemeFound us l behind
unfolding lexeme_from
lexeme_found [] l behind apart e = absurd (none-some _ e)
lexeme_found (u ∷ us) l behind apart e =
    choose (eqb u 34) (option_map (λ t. (lexeme.Text t.0, t.1)) (text_from us)) (cond (eqb u 58) (Some (lexeme.Colon, us)) (cond (eqb u 61) (Some (lexeme.Equals, us)) (Some (lexeme.Word (word_from (u ∷ us)).0, (word_from (u ∷ us)).1)))) (Some (l, behind)) e
    (λ quote read. mapped (λ t. (lexeme.Text t.0, t.1)) (text_from us) (l, behind) read (λ x is same.
    let f = text_found us x.0 x.1 is in
    subst (λ (p : Lexeme × List ℕ). LexemeFound (u ∷ us) p.0 p.1) same
    (record {
      spelled = 34 ∷ f.inside ++ 34 ∷ [];
      parts = rw (eqb-true u 34 quote) (ap (λ (w : List ℕ). 34 ∷ w) (f.parts ∙ sym (append_assoc f.inside (34 ∷ []) x.1)));
      spells = (f.inside, refl, f.spells);
      some = refl;
    })))
    (λ no_quote read. choose (eqb u 58) (Some (lexeme.Colon, us)) (cond (eqb u 61) (Some (lexeme.Equals, us)) (Some (lexeme.Word (word_from (u ∷ us)).0, (word_from (u ∷ us)).1))) (Some (l, behind)) read
    (λ colon is. subst (λ (p : Lexeme × List ℕ). LexemeFound (u ∷ us) p.0 p.1) (same_Some _ _ is)
    (record { spelled = 58 ∷ []; parts = ap (λ (n : ℕ). n ∷ us) (eqb-true u 58 colon); spells = refl; some = refl }))
    (λ no_colon read. choose (eqb u 61) (Some (lexeme.Equals, us)) (Some (lexeme.Word (word_from (u ∷ us)).0, (word_from (u ∷ us)).1)) (Some (l, behind)) read
    (λ equals is. subst (λ (p : Lexeme × List ℕ). LexemeFound (u ∷ us) p.0 p.1) (same_Some _ _ is)
    (record { spelled = 61 ∷ []; parts = ap (λ (n : ℕ). n ∷ us) (eqb-true u 61 equals); spells = refl; some = refl }))
    (λ no_equals is. word_lexeme u us behind l (word_from (u ∷ us)) (word_found (u ∷ us)) (no_end u apart no_quote no_colon no_equals) (same_Some _ _ is))))

-- The rest after a token is no longer than the line.
pub lexeme_fits : (us : List ℕ) (l : Lexeme) (behind : List ℕ) → lexeme_from us ≡ Some (l, behind) → length behind ≤ length us
unfolding lexeme_from
lexeme_fits [] l behind e = absurd (none-some _ e)
lexeme_fits (u ∷ us) l behind e =
    choose (eqb u 34) (option_map (λ t. (lexeme.Text t.0, t.1)) (text_from us)) (cond (eqb u 58) (Some (lexeme.Colon, us)) (cond (eqb u 61) (Some (lexeme.Equals, us)) (Some (lexeme.Word (word_from (u ∷ us)).0, (word_from (u ∷ us)).1)))) (Some (l, behind)) e
    (λ quote read. mapped (λ t. (lexeme.Text t.0, t.1)) (text_from us) (l, behind) read (λ x is same.
    let f = text_found us x.0 x.1 is in
    let whole : length us ≡ length f.inside + length (34 ∷ x.1) = ap length f.parts ∙ length-append f.inside (34 ∷ x.1) in
    let left : length x.1 ≡ length behind = ap (λ (p : Lexeme × List ℕ). length p.1) same in
    omega arith))
    (λ no_quote read. choose (eqb u 58) (Some (lexeme.Colon, us)) (cond (eqb u 61) (Some (lexeme.Equals, us)) (Some (lexeme.Word (word_from (u ∷ us)).0, (word_from (u ∷ us)).1))) (Some (l, behind)) read
    (λ colon is.
    let left : length us ≡ length behind = ap (λ (p : Lexeme × List ℕ). length p.1) (same_Some _ _ is) in
    omega arith)
    (λ no_colon read. choose (eqb u 61) (Some (lexeme.Equals, us)) (Some (lexeme.Word (word_from (u ∷ us)).0, (word_from (u ∷ us)).1)) (Some (l, behind)) read
    (λ equals is.
    let left : length us ≡ length behind = ap (λ (p : Lexeme × List ℕ). length p.1) (same_Some _ _ is) in
    omega arith)
    (λ no_equals is.
    let f = word_found (u ∷ us) in
    let whole : length (u ∷ us) ≡ length (word_from (u ∷ us)).0 + length (word_from (u ∷ us)).1 = ap length f.parts ∙ length-append (word_from (u ∷ us)).0 (word_from (u ∷ us)).1 in
    let left : length (word_from (u ∷ us)).1 ≡ length behind = ap (λ (p : Lexeme × List ℕ). length p.1) (same_Some _ _ is) in
    omega arith)))

-- A word that is spelled is read.
word_read : (us behind : List ℕ) → not (is_empty us) ≡ true → list_all goes_on us ≡ true → is_word_end behind ≡ true → lexeme_from (us ++ behind) ≡ Some (lexeme.Word us, behind)
unfolding lexeme_from
word_read [] behind some units ends = absurd cc
word_read (u ∷ us) behind some units ends =
    let both = and_parts (goes_on u) (list_all goes_on us) units in
    let four = no_parts (is_space u) (eqb u 34) (eqb u 58) (eqb u 61) (not-true (ends_word u) both.0) in
    rw (four.1, four.2, four.3, word_again (u ∷ us) behind units ends) refl
  where
    no_parts : (a b c d : Bool) → (a || (b || (c || d))) ≡ false → (a ≡ false) × (b ≡ false) × (c ≡ false) × (d ≡ false)
    no_parts true b c d e = absurd cc
    no_parts false true c d e = absurd cc
    no_parts false false true d e = absurd cc
    no_parts false false false true e = absurd cc
    no_parts false false false false e = (refl, refl, refl, refl)

lexeme_again : (spelled behind : List ℕ) (l : Lexeme) → SpellsToken spelled l behind → lexeme_from (spelled ++ behind) ≡ Some (l, behind)
unfolding lexeme_from
lexeme_again spelled behind (lexeme.Word us) (is, some, units, ends) = rw is (word_read us behind some units ends)
lexeme_again spelled behind (lexeme.Text us) (inside, is, spells) =
    let parts : (inside ++ 34 ∷ []) ++ behind ≡ inside ++ 34 ∷ behind = append_assoc inside (34 ∷ []) behind in
    rw (is, parts, text_again inside us behind spells) refl
lexeme_again spelled behind lexeme.Colon is = rw is refl
lexeme_again spelled behind lexeme.Equals is = rw is refl

-- The spelling of a token isn't empty, and doesn't begin with white space.
record Starts (spelled : List ℕ) : Type 0 where
  pub some : is_empty spelled ≡ false
  pub apart : begins_space spelled ≡ false

word_starts : (us : List ℕ) → not (is_empty us) ≡ true → list_all goes_on us ≡ true → Starts us
word_starts [] some units = absurd cc
word_starts (u ∷ us) some units =
    let both = and_parts (goes_on u) (list_all goes_on us) units in
    record { some = refl; apart = first (is_space u) (eqb u 34 || (eqb u 58 || eqb u 61)) (not-true (ends_word u) both.0) }
  where
    first : (a b : Bool) → (a || b) ≡ false → a ≡ false
    first true b e = absurd cc
    first false b e = refl

token_starts : (spelled behind : List ℕ) (l : Lexeme) → SpellsToken spelled l behind → Starts spelled
token_starts spelled behind (lexeme.Word us) (is, some, units, ends) = rw is (word_starts us some units)
token_starts spelled behind (lexeme.Text us) (inside, is, spells) = rw is (record { some = refl; apart = refl })
token_starts spelled behind lexeme.Colon is = rw is (record { some = refl; apart = refl })
token_starts spelled behind lexeme.Equals is = rw is (record { some = refl; apart = refl })

-- ---- A token at its place

-- A token that was read, with its place.
record TokenRead (size : ℕ) (us : List ℕ) (t : Token) (behind : List ℕ) : Type 0 where
  pub is : lexeme_from us ≡ Some (t.lexeme, behind)
  pub starts : t.start ≡ size - length us
  pub ends : t.end ≡ size - length behind

token_read : (size : ℕ) (us : List ℕ) (t : Token) (behind : List ℕ) → token_from size us ≡ Some (t, behind) → TokenRead size us t behind
unfolding token_from
token_read size us t behind e =
    mapped (at_its_place size us) (lexeme_from us) (t, behind) e (λ l is same.
    record {
      is = is ∙ ap (λ (p : Token × List ℕ). Some (p.0.lexeme, p.1)) same;
      starts = sym (ap (λ (p : Token × List ℕ). p.0.start) same);
      ends = sym (ap (λ (p : Token × List ℕ). p.0.end) same) ∙ ap (λ (p : Token × List ℕ). size - length p.1) same;
    })

-- A token that is spelled is read at its place.
token_again : (size : ℕ) (spelled behind : List ℕ) (t : Token) → SpellsToken spelled t.lexeme behind → t.start ≡ size - length (spelled ++ behind) → t.end ≡ size - length behind → token_from size (spelled ++ behind) ≡ Some (t, behind)
unfolding token_from
token_again size spelled behind t spells starts ends = rw (lexeme_again spelled behind t.lexeme spells, ← starts, ← ends) refl

-- ---- Where a token begins

-- A line consists of white space, followed by a token, a comment or nothing.
record Begun (at_start : Bool) (line begin : List ℕ) : Type 0 where
  pub space : List ℕ
  pub behind : List ℕ
  pub parts : line ≡ space ++ behind
  pub spaces : list_all is_space space ≡ true
  pub is : ((begin ≡ []) × ((is_empty behind || begins_comment at_start space behind) ≡ true))
      ⊎ ((begin ≡ behind) × (begins_comment at_start space behind ≡ false) × (begins_space behind ≡ false) × (is_empty behind ≡ false))

-- After white space, a comment may begin even if the line doesn't start here.
anywhere : (at_start : Bool) (u : ℕ) (space behind : List ℕ) → begins_comment at_start (u ∷ space) behind ≡ begins_comment true space behind
anywhere true u space behind = refl
anywhere false u space behind = refl

more_space : (at_start : Bool) (u : ℕ) (us begin : List ℕ) → is_space u ≡ true → Begun true us begin → Begun at_start (u ∷ us) begin
more_space at_start u us begin e b = record {
  space = u ∷ b.space;
  behind = b.behind;
  parts = ap (λ (w : List ℕ). u ∷ w) b.parts;
  spaces = rw (e, b.spaces) refl;
  is = rw (anywhere at_start u b.space b.behind) b.is;
}

no_space : (at_start : Bool) (u : ℕ) (us : List ℕ) (c : Bool) → is_space u ≡ false → (eqb u 59 && at_start) ≡ c → Begun at_start (u ∷ us) (cond c [] (u ∷ us))
no_space at_start u us c e is = record { space = []; behind = u ∷ us; parts = refl; spaces = refl; is = which at_start c is }
  where
    which : (b d : Bool) → (eqb u 59 && b) ≡ d → ((cond d [] (u ∷ us) ≡ []) × ((false || begins_comment b [] (u ∷ us)) ≡ true))
        ⊎ ((cond d [] (u ∷ us) ≡ u ∷ us) × (begins_comment b [] (u ∷ us) ≡ false) × (is_space u ≡ false) × (false ≡ false))
    which true true f = inl (refl, f)
    which false true f = inl (refl, f)
    which true false f = inr (refl, f, e, refl)
    which false false f = inr (refl, f, e, refl)

by_space : (at_start : Bool) (u : ℕ) (us : List ℕ) (b : Bool) → is_space u ≡ b → Begun true us (begin_from true us)
    → Begun at_start (u ∷ us) (cond b (begin_from true us) (cond (eqb u 59 && at_start) [] (u ∷ us)))
by_space at_start u us true e later = more_space at_start u us (begin_from true us) e later
by_space at_start u us false e later = no_space at_start u us (eqb u 59 && at_start) e refl

begin_found : (at_start : Bool) (line : List ℕ) → Begun at_start line (begin_from at_start line)
unfolding begin_from
begin_found at_start [] = record { space = []; behind = []; parts = refl; spaces = refl; is = inl (refl, refl) }
begin_found at_start (u ∷ us) = by_space at_start u us (is_space u) refl (begin_found true us)

-- Where a token begins, there is no white space.
pub begin_apart : (at_start : Bool) (line : List ℕ) → begins_space (begin_from at_start line) ≡ false
begin_apart at_start line =
    let b = begin_found at_start line in
    elim b.is [ inl (nothing, end) ↦ ap begins_space nothing | inr (same, no_comment, apart, some) ↦ ap begins_space same ∙ apart ]

pub begin_shorter : (at_start : Bool) (line : List ℕ) → length (begin_from at_start line) ≤ length line
begin_shorter at_start line =
    let b = begin_found at_start line in
    let size : length line ≡ length b.space + length b.behind = ap length b.parts ∙ length-append b.space b.behind in
    elim b.is [
      | inl (nothing, end) ↦ let none : length (begin_from at_start line) ≡ 0 = ap length nothing in omega arith
      | inr (same, no_comment, apart, some) ↦ let left : length (begin_from at_start line) ≡ length b.behind = ap length same in omega arith
    ]

some_length : (us : List ℕ) → is_empty us ≡ false → 0 < length us
some_length [] some = absurd cc
some_length (u ∷ us) some = omega arith

-- The rest after a token is shorter.
pub token_shorter : (size : ℕ) (us : List ℕ) (t : Token) (behind : List ℕ) → begins_space us ≡ false → token_from size us ≡ Some (t, behind) → length behind < length us
token_shorter size us t behind apart e =
    let r = token_read size us t behind e in
    let f = lexeme_found us t.lexeme behind apart r.is in
    let some = some_length f.spelled f.some in
    let whole : length us ≡ length f.spelled + length behind = ap length f.parts ∙ length-append f.spelled behind in
    omega arith

-- White space at the end is skipped, with a comment or without one.
begin_end : (space behind : List ℕ) (at_start : Bool) → list_all is_space space ≡ true → (is_empty behind || begins_comment at_start space behind) ≡ true → begin_from at_start (space ++ behind) ≡ []
unfolding begin_from
begin_end [] [] at_start spaces e = refl
begin_end [] (u ∷ us) true spaces e = let both = and_parts (eqb u 59) true e in rw (eqb-true u 59 both.0) refl
begin_end [] (u ∷ us) false spaces e = let both = and_parts (eqb u 59) false e in absurd cc
begin_end (s ∷ space) behind at_start spaces e =
    let both = and_parts (is_space s) (list_all is_space space) spaces in
    rw both.0 (begin_end space behind true both.1 (ap (λ (b : Bool). is_empty behind || b) (sym (anywhere at_start s space behind)) ∙ e))

-- White space before a token is skipped.
begin_again : (space us : List ℕ) (at_start : Bool) → list_all is_space space ≡ true → begins_comment at_start space us ≡ false → begins_space us ≡ false → begin_from at_start (space ++ us) ≡ us
unfolding begin_from
begin_again [] [] at_start spaces e apart = refl
begin_again [] (u ∷ us) true spaces e apart = rw (apart, e) refl
begin_again [] (u ∷ us) false spaces e apart = rw (apart, e) refl
begin_again (s ∷ space) us at_start spaces e apart =
    let both = and_parts (is_space s) (list_all is_space space) spaces in
    rw both.0 (begin_again space us true both.1 (sym (anywhere at_start s space us) ∙ e) apart)

-- ---- Lines

-- What follows the spelling of a token doesn't change its first units.
same_front : (at_start : Bool) (space spelled behind : List ℕ) → is_empty spelled ≡ false → begins_comment at_start space (spelled ++ behind) ≡ begins_comment at_start space spelled
same_front at_start space [] behind some = absurd cc
same_front at_start space (u ∷ us) behind some = refl

same_space : (spelled behind : List ℕ) → is_empty spelled ≡ false → begins_space (spelled ++ behind) ≡ begins_space spelled
same_space [] behind some = absurd cc
same_space (u ∷ us) behind some = refl

not_so : (b : Bool) → b ≡ false → not b ≡ true
not_so true e = absurd cc
not_so false e = refl

none_found : (size most : ℕ) (ts : List Token) → tokens_from size most [] ≡ Some ts → [] ≡ ts
unfolding tokens_from
none_found size zero ts e = same_Some [] ts e
none_found size (suc most) ts e = same_Some [] ts e

some_found : (size : ℕ) (us : List ℕ) (ts : List Token) → is_empty us ≡ false → tokens_from size zero us ≡ Some ts → ⊥
unfolding tokens_from
some_found size [] ts some e = cc
some_found size (u ∷ us) ts some e = none-some ts e

token_step : (size most : ℕ) (at_start : Bool) (place : ℕ) (line space begun : List ℕ) (ts : List Token) → size ≡ place + length line → line ≡ space ++ begun → list_all is_space space ≡ true → begins_comment at_start space begun ≡ false → begins_space begun ≡ false → is_empty begun ≡ false
    → ((next : ℕ) (rest : List ℕ) (vs : List Token) → size ≡ next + length rest → tokens_from size most (begin_from false rest) ≡ Some vs → Lexes false next rest vs) → tokens_from size (suc most) begun ≡ Some ts → Lexes at_start place line ts
unfolding tokens_from
token_step size most at_start place line space [] ts all parts spaces no_comment apart some later e = absurd cc
token_step size most at_start place line space (u ∷ us) ts all parts spaces no_comment apart some later e =
    before (λ t. option_map (λ vs. t.0 ∷ vs) (tokens_from size most (begin_from false t.1))) (token_from size (u ∷ us)) ts e (λ t here behind.
    mapped (λ vs. t.0 ∷ vs) (tokens_from size most (begin_from false t.1)) ts behind (λ vs is same.
    let r = token_read size (u ∷ us) t.0 t.1 here in
    let f = lexeme_found (u ∷ us) t.0.lexeme t.1 apart r.is in
    let no : begins_comment at_start space f.spelled ≡ false = sym (same_front at_start space f.spelled t.1 f.some) ∙ ap (λ (w : List ℕ). begins_comment at_start space w) (sym f.parts) ∙ no_comment in
    let p = places size place line space (u ∷ us) f.spelled t.1 t.0 all parts f.parts r.starts r.ends in
    subst (λ (ws : List Token). Lexes at_start place line ws) same
    (space, f.spelled, t.1, parts ∙ ap (λ (w : List ℕ). space ++ w) f.parts, spaces, not_so (begins_comment at_start space f.spelled) no, f.spells, p.0, p.1, later t.0.end t.1 vs p.2 is)))
  where
    places : (size place : ℕ) (line space begun spelled behind : List ℕ) (t : Token) → size ≡ place + length line → line ≡ space ++ begun → begun ≡ spelled ++ behind → t.start ≡ size - length begun → t.end ≡ size - length behind
        → (t.start ≡ place + length space) × (t.end ≡ t.start + length spelled) × (size ≡ t.end + length behind)
    places size place line space begun spelled behind t all parts inner starts ends =
        let outside : length line ≡ length space + length begun = ap length parts ∙ length-append space begun in
        let inside : length begun ≡ length spelled + length behind = ap length inner ∙ length-append spelled behind in
        (omega arith, omega arith, omega arith)

-- Tokens that are read from a line spell it.
tokens_found : (size most : ℕ) (at_start : Bool) (place : ℕ) (line : List ℕ) (ts : List Token) → size ≡ place + length line → tokens_from size most (begin_from at_start line) ≡ Some ts → Lexes at_start place line ts
tokens_found size zero at_start place line ts all e =
    let b = begin_found at_start line in
    elim b.is [
      | inl (nothing, end) ↦ subst (λ (ws : List Token). Lexes at_start place line ws) (none_found size zero ts (rw (sym nothing) e)) (b.space, b.behind, b.parts, b.spaces, end)
      | inr (same, no_comment, apart, some) ↦ absurd (some_found size b.behind ts some (rw (sym same) e))
    ]
tokens_found size (suc most) at_start place line ts all e =
    let b = begin_found at_start line in
    elim b.is [
      | inl (nothing, end) ↦ subst (λ (ws : List Token). Lexes at_start place line ws) (none_found size (suc most) ts (rw (sym nothing) e)) (b.space, b.behind, b.parts, b.spaces, end)
      | inr (same, no_comment, apart, some) ↦ token_step size most at_start place line b.space b.behind ts all b.parts b.spaces no_comment apart some (tokens_found size most false) (rw (sym same) e)
    ]

-- One token is read before the others.
token_more : (size : ℕ) (t : Token) (ts : List Token) (most : ℕ) (spelled behind : List ℕ) → is_empty spelled ≡ false → token_from size (spelled ++ behind) ≡ Some (t, behind) → length spelled + length behind ≤ most
    → ((m : ℕ) → length behind ≤ m → tokens_from size m (begin_from false behind) ≡ Some ts) → tokens_from size most (spelled ++ behind) ≡ Some (t ∷ ts)
unfolding tokens_from
token_more size t ts most [] behind some here fits later = absurd cc
token_more size t ts zero (u ∷ us) behind some here fits later = absurd (omega arith)
token_more size t ts (suc most) (u ∷ us) behind some here fits later = rw (here, later most (omega arith)) refl

-- Tokens that spell a line are read from it.
tokens_again : (size : ℕ) (ts : List Token) (most : ℕ) (at_start : Bool) (place : ℕ) (line : List ℕ) → Lexes at_start place line ts → size ≡ place + length line → length line ≤ most → tokens_from size most (begin_from at_start line) ≡ Some ts
unfolding tokens_from
tokens_again size [] zero at_start place line (space, behind, parts, spaces, end) all fits = rw (parts, begin_end space behind at_start spaces end) refl
tokens_again size [] (suc most) at_start place line (space, behind, parts, spaces, end) all fits = rw (parts, begin_end space behind at_start spaces end) refl
tokens_again size (t ∷ ts) most at_start place line (space, spelled, behind, parts, spaces, no_comment, spells, starts, ends, later) all fits =
    let s = token_starts spelled behind t.lexeme spells in
    let no : begins_comment at_start space (spelled ++ behind) ≡ false = same_front at_start space spelled behind s.some ∙ not-true (begins_comment at_start space spelled) no_comment in
    let apart : begins_space (spelled ++ behind) ≡ false = same_space spelled behind s.some ∙ s.apart in
    let inside : length (spelled ++ behind) ≡ length spelled + length behind = length-append spelled behind in
    let outside : length line ≡ length space + length (spelled ++ behind) = ap length parts ∙ length-append space (spelled ++ behind) in
    let here = token_again size spelled behind t spells (omega arith) (omega arith) in
    rw (parts, begin_again space (spelled ++ behind) at_start spaces no apart)
    (token_more size t ts most spelled behind s.some here (omega arith) (λ m few. tokens_again size ts m false t.end behind later (omega arith) few))

pub lexed_is_spelled : (line : List ℕ) (ts : List Token) → tokens_of line ≡ Some ts → Lexes true 0 line ts
lexed_is_spelled line ts e = tokens_found (length line) (length line) true 0 line ts (omega arith) e

pub spelled_is_lexed : (line : List ℕ) (ts : List Token) → Lexes true 0 line ts → tokens_of line ≡ Some ts
spelled_is_lexed line ts spells = tokens_again (length line) ts (length line) true 0 line spells (omega arith) (omega arith)
