-- Proves that loops read units and tokens one at a time.
use Rattle.std.proofs.Common.{◌≡◌, ℕ, zero, suc, ◌+◌, ◌-◌, ◌<◌, ◌≤◌, false, List, [], ◌∷◌, ◌++◌, length, Option, Some, None, Err, refl, sym, ap, ◌∙◌, append_assoc, arith}
use Rattle.std.proofs.lemmas.List.{append-nil, length-append}
use Rattle.std.specs.Option.{option_map}
use Rattle.jasmin.specs.declared.token.Token.{Token}
use Rattle.jasmin.specs.Lexing.{unit_from, units_from, token_from, begin_from, tokens_from}
use Rattle.jasmin.proofs.Texts.{shorter_behind}
use Rattle.jasmin_lex.specs.declared.fault.LexFault.{LexFault}
use Rattle.jasmin_lex.specs.declared.fault.LexFault.TheVariants.{Lexeme, Memory}
use Rattle.jasmin_lex.specs.Lexed.{IsLexed}

-- ---- Units

-- Returns the text of `size` units: what was read before the rest, with what is still to be read.
abbrev pub units_still : ℕ → List ℕ → List ℕ → List ℕ × List ℕ
units_still size front rest = (front ++ (units_from (size - length front) rest).0, (units_from (size - length front) rest).1)

one_unit : (most : ℕ) (rest : List ℕ) (u : ℕ) (behind : List ℕ) → unit_from rest ≡ Some (u, behind) → units_from (suc most) rest ≡ (u ∷ (units_from most behind).0, (units_from most behind).1)
unfolding units_from
one_unit most rest u behind e = rw e refl

no_unit : (most : ℕ) (rest : List ℕ) → unit_from rest ≡ None → units_from most rest ≡ ([], rest)
unfolding units_from
no_unit zero rest e = refl
no_unit (suc most) rest e = rw e refl

with_one : (front : List ℕ) (u : ℕ) (later here total : List ℕ × List ℕ) → here ≡ (u ∷ later.0, later.1) → (front ++ here.0, here.1) ≡ total → ((front ++ u ∷ []) ++ later.0, later.1) ≡ total
with_one front u later here total one so_far =
    ap (λ (w : List ℕ). (w, later.1)) (append_assoc front (u ∷ []) later.0) ∙ sym (ap (λ (p : List ℕ × List ℕ). (front ++ p.0, p.1)) one) ∙ so_far

pub unit_more : (size : ℕ) (front rest : List ℕ) (u : ℕ) (behind : List ℕ) (total : List ℕ × List ℕ) → length front + length rest ≤ size → unit_from rest ≡ Some (u, behind)
    → units_still size front rest ≡ total → units_still size (front ++ u ∷ []) behind ≡ total
unit_more size front rest u behind total fits e so_far =
    let less : length behind < length rest = shorter_behind rest u behind e in
    let longer : length (front ++ u ∷ []) ≡ length front + 1 = length-append front (u ∷ []) in
    let steps : size - length front ≡ suc (size - length (front ++ u ∷ [])) = omega arith in
    let one = ap (λ (n : ℕ). units_from n rest) steps ∙ one_unit (size - length (front ++ u ∷ [])) rest u behind e in
    with_one front u (units_from (size - length (front ++ u ∷ [])) behind) (units_from (size - length front) rest) total one so_far

pub units_done : (size : ℕ) (front rest : List ℕ) (total : List ℕ × List ℕ) → unit_from rest ≡ None → units_still size front rest ≡ total → (front, rest) ≡ total
units_done size front rest total e so_far =
    ap (λ (w : List ℕ). (w, rest)) (sym (append-nil front)) ∙ sym (ap (λ (p : List ℕ × List ℕ). (front ++ p.0, p.1)) (no_unit (size - length front) rest e)) ∙ so_far

-- ---- Tokens

-- Returns the tokens that were read before the rest, with those that are still to be read.
abbrev pub tokens_still : ℕ → List Token → List ℕ → Option (List Token)
tokens_still size front rest = option_map (λ ts. front ++ ts) (tokens_from size (size - length front) rest)

one_token : (size most : ℕ) (rest : List ℕ) (t : Token) (behind : List ℕ) → 0 < length rest → token_from size rest ≡ Some (t, behind) → tokens_from size (suc most) rest ≡ option_map (λ ts. t ∷ ts) (tokens_from size most (begin_from false behind))
unfolding tokens_from
one_token size most [] t behind some e = absurd (omega arith)
one_token size most (u ∷ us) t behind some e = rw e refl

no_token : (size most : ℕ) (rest : List ℕ) → 0 < length rest → token_from size rest ≡ None → tokens_from size most rest ≡ None
unfolding tokens_from
no_token size most [] some e = absurd (omega arith)
no_token size zero (u ∷ us) some e = refl
no_token size (suc most) (u ∷ us) some e = rw e refl

nothing_left : (size most : ℕ) → tokens_from size most [] ≡ Some []
unfolding tokens_from
nothing_left size zero = refl
nothing_left size (suc most) = refl

regroup : (front : List Token) (t : Token) (o : Option (List Token)) → option_map (λ ts. (front ++ t ∷ []) ++ ts) o ≡ option_map (λ ts. front ++ ts) (option_map (λ ts. t ∷ ts) o)
regroup front t None = refl
regroup front t (Some ts) = ap (λ (w : List Token). Some w) (append_assoc front (t ∷ []) ts)

pub token_more : (size : ℕ) (front : List Token) (rest : List ℕ) (t : Token) (behind : List ℕ) (total : Option (List Token)) → length front + length rest ≤ size → 0 < length rest → token_from size rest ≡ Some (t, behind)
    → tokens_still size front rest ≡ total → tokens_still size (front ++ t ∷ []) (begin_from false behind) ≡ total
token_more size front rest t behind total fits some e so_far =
    let longer : length (front ++ t ∷ []) ≡ length front + 1 = length-append front (t ∷ []) in
    let steps : size - length front ≡ suc (size - length (front ++ t ∷ [])) = omega arith in
    let one : tokens_from size (size - length front) rest ≡ option_map (λ ts. t ∷ ts) (tokens_from size (size - length (front ++ t ∷ [])) (begin_from false behind)) =
    ap (λ (n : ℕ). tokens_from size n rest) steps ∙ one_token size (size - length (front ++ t ∷ [])) rest t behind some e in
    regroup front t (tokens_from size (size - length (front ++ t ∷ [])) (begin_from false behind)) ∙ sym (ap (option_map (λ ts. front ++ ts)) one) ∙ so_far

pub tokens_fail : (size : ℕ) (front : List Token) (rest : List ℕ) (total : Option (List Token)) → 0 < length rest → token_from size rest ≡ None → tokens_still size front rest ≡ total → total ≡ None
tokens_fail size front rest total some e so_far = sym so_far ∙ ap (option_map (λ ts. front ++ ts)) (no_token size (size - length front) rest some e)

pub tokens_done : (size : ℕ) (front : List Token) (rest : List ℕ) (total : Option (List Token)) → rest ≡ [] → tokens_still size front rest ≡ total → total ≡ Some front
tokens_done size front rest total e so_far =
    sym so_far ∙ ap (λ (w : List ℕ). tokens_still size front w) e ∙ ap (option_map (λ ts. front ++ ts)) (nothing_left size (size - length front)) ∙ ap (λ (ts : List Token). Some ts) (append-nil front)

-- If a token isn't read, for either reason, the fault is that of the whole line.
pub token_failed : {X Y : Type 0} (one : X → Token × List ℕ) (all : Y → List Token) (fault : LexFault) (size : ℕ) (front : List Token) (rest : List ℕ) (total : Option (List Token)) → 0 < length rest → IsLexed one (Err fault) (token_from size rest)
    → tokens_still size front rest ≡ total → IsLexed all (Err fault) total
token_failed one all Lexeme size front rest total some e so_far = tokens_fail size front rest total some e so_far
token_failed one all Memory size front rest total some e so_far = tt

without_front : (o : Option (List Token)) → option_map (λ ts. [] ++ ts) o ≡ o
without_front None = refl
without_front (Some ts) = refl

-- Before the first token, all tokens are still to be read.
pub all_still : (size : ℕ) (rest : List ℕ) → tokens_still size [] rest ≡ tokens_from size size rest
all_still size rest =
    let whole : size - 0 ≡ size = omega arith in
    rw whole (without_front (tokens_from size size rest))
