-- Proves where a word ends.
use Rattle.std.proofs.Common.{◌≡◌, ℕ, suc, ◌+◌, ◌≤◌, Bool, true, false, not, cond, ltb, List, [], ◌∷◌, length, take, drop, Some, None, refl, sym, ap, ◌∙◌, arith}
use Rattle.std.proofs.lemmas.Bool.{ltb-false}
use Rattle.std.proofs.lemmas.List.{take_all}
use Rattle.std.proofs.Math.ListN.{drop_of_length-le}
use Rattle.std.proofs.lemmas.Option.{none-some, same_Some}
use Rattle.std.specs.List.{prefix_len, position}
use Rattle.jasmin.specs.Lexing.{ends_word, word_from}
use Rattle.jasmin.proofs.Steps.{choose}

abbrev goes_on : ℕ → Bool
goes_on u = not (ends_word u)

abbrev cut : ℕ → List ℕ → List ℕ × List ℕ
cut n us = (take n us, drop n us)

word_more : (u : ℕ) (us : List ℕ) (b : Bool) → cut (prefix_len goes_on us) us ≡ word_from us
    → cut (cond (not b) (1 + prefix_len goes_on us) 0) (u ∷ us) ≡ cond b ([], u ∷ us) (u ∷ (word_from us).0, (word_from us).1)
word_more u us true e = refl
word_more u us false e =
    let next : 1 + prefix_len goes_on us ≡ suc (prefix_len goes_on us) = omega arith in
    rw next (ap (λ (p : List ℕ × List ℕ). (u ∷ p.0, p.1)) e)

word_cut : (us : List ℕ) → cut (prefix_len goes_on us) us ≡ word_from us
unfolding word_from
word_cut [] = refl
word_cut (u ∷ us) = word_more u us (ends_word u) (word_cut us)

-- The word ends at the first unit that ends words.
pub word_ends : (us : List ℕ) (n : ℕ) → position ends_word us ≡ Some n → (take n us, drop n us) ≡ word_from us
word_ends us n e =
    choose (ltb (prefix_len goes_on us) (length us)) (Some (prefix_len goes_on us)) None (Some n) e
    (λ met is. ap (λ (k : ℕ). cut k us) (sym (same_Some _ _ is)) ∙ word_cut us)
    (λ unmet is. absurd (none-some _ is))

cut_behind : (n : ℕ) (us : List ℕ) → length us ≤ n → cut n us ≡ (us, [])
cut_behind n us few = rw (take_all n us few, drop_of_length-le us few) refl

-- The word continues to the end if no unit ends words.
pub word_goes_on : (us : List ℕ) → position ends_word us ≡ None → (us, []) ≡ word_from us
word_goes_on us e = goes (ltb (prefix_len goes_on us) (length us)) refl e
  where
    goes : (b : Bool) → ltb (prefix_len goes_on us) (length us) ≡ b → cond b (Some (prefix_len goes_on us)) None ≡ None → (us, []) ≡ word_from us
    goes true is f = absurd (none-some (prefix_len goes_on us) (sym f))
    goes false is f = sym (cut_behind (prefix_len goes_on us) us (ltb-false _ _ is)) ∙ word_cut us
