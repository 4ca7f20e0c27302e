-- Proves that the texts between quotes that are read are spelled so, and that those that are spelled are read.
use Rattle.std.proofs.Common.{◌≡◌, ℕ, zero, suc, ◌<◌, ◌≤◌, ◌+◌, ◌||◌, Bool, true, false, not, cond, eqb, List, [], ◌∷◌, ◌++◌, length, Option, Some, None, refl, sym, ap, subst, ◌∙◌, append_assoc, arith, inl, inr}
use Rattle.std.proofs.lemmas.Bool.{eqb-true}
use Rattle.std.proofs.lemmas.List.{length-append}
use Rattle.std.proofs.lemmas.Option.{none-some, same_Some}
use Rattle.std.specs.Option.{option_map, unwrap_or}
use Rattle.jasmin.specs.Lexing.{unit_of_escape, four_digits, digits_from, escape_from, unit_from, units_from, closed_text, text_from, SpellsUnit, SpellsUnits}
use Rattle.jasmin.proofs.Steps.{choose, mapped}

-- A unit is spelled at the front, before the rest.
pub record Found (us : List ℕ) (v : ℕ) (behind : List ℕ) : Type 0 where
  pub first : List ℕ
  pub parts : us ≡ first ++ behind
  pub spells : SpellsUnit first v

-- Four digits that were read spell a unit.
digits_found : (us : List ℕ) (v : ℕ) (behind : List ℕ) → digits_from us ≡ Some (v, behind) → Found (92 ∷ 117 ∷ us) v behind
digits_found [] v behind e = absurd (none-some _ e)
digits_found (a ∷ []) v behind e = absurd (none-some _ e)
digits_found (a ∷ b ∷ []) v behind e = absurd (none-some _ e)
digits_found (a ∷ b ∷ c ∷ []) v behind e = absurd (none-some _ e)
digits_found (a ∷ b ∷ c ∷ d ∷ rest) v behind e =
    mapped (λ u. (u, rest)) (four_digits a b c d) (v, behind) e (λ u is same.
    let unit : u ≡ v = ap (λ (p : ℕ × List ℕ). p.0) same in
    let left : rest ≡ behind = ap (λ (p : ℕ × List ℕ). p.1) same in
    record {
      first = 92 ∷ 117 ∷ a ∷ b ∷ c ∷ d ∷ [];
      parts = ap (λ (w : List ℕ). 92 ∷ 117 ∷ a ∷ b ∷ c ∷ d ∷ w) left;
      spells = inr (inr (a, b, c, d, refl, is ∙ ap (λ (n : ℕ). Some n) unit));
    })

-- An escape that was read spells a unit.
escape_found : (us : List ℕ) (v : ℕ) (behind : List ℕ) → escape_from us ≡ Some (v, behind) → Found (92 ∷ us) v behind
escape_found [] v behind e = absurd (none-some _ e)
escape_found (u ∷ us) v behind e =
    choose (eqb u 117) (digits_from us) (option_map (λ n. (n, us)) (unit_of_escape u)) (Some (v, behind)) e
    (λ met read. rw (eqb-true u 117 met) (digits_found us v behind read))
    (λ unmet read. mapped (λ n. (n, us)) (unit_of_escape u) (v, behind) read (λ n is same.
    record {
      first = 92 ∷ u ∷ [];
      parts = ap (λ (p : ℕ × List ℕ). 92 ∷ u ∷ p.1) same;
      spells = inr (inl (u, refl, is ∙ ap (λ (p : ℕ × List ℕ). Some p.0) same));
    }))

-- A unit that was read is spelled at the front.
unit_found : (us : List ℕ) (v : ℕ) (behind : List ℕ) → unit_from us ≡ Some (v, behind) → Found us v behind
unfolding unit_from
unit_found [] v behind e = absurd (none-some _ e)
unit_found (u ∷ us) v behind e =
    choose (eqb u 34) None (cond (eqb u 92) (escape_from us) (Some (u, us))) (Some (v, behind)) e
    (λ met read. absurd (none-some _ read))
    (λ no_quote read. choose (eqb u 92) (escape_from us) (Some (u, us)) (Some (v, behind)) read
    (λ met escape. rw (eqb-true u 92 met) (escape_found us v behind escape))
    (λ no_escape plain.
    let same : (u, us) ≡ (v, behind) = same_Some _ _ plain in
    let unit : u ≡ v = ap (λ (p : ℕ × List ℕ). p.0) same in
    record {
      first = v ∷ [];
      parts = ap (λ (p : ℕ × List ℕ). p.0 ∷ p.1) same;
      spells = inl (refl, subst (λ (n : ℕ). not (eqb n 34 || eqb n 92) ≡ true) unit (rw (no_quote, no_escape) refl));
    }))

-- ---- Consecutive units

-- The units that were read are spelled before the rest.
pub record AllFound (us : List ℕ) (read : List ℕ × List ℕ) : Type 0 where
  pub inside : List ℕ
  pub parts : us ≡ inside ++ read.1
  pub spells : SpellsUnits inside read.0

-- One unit is read before the others.
one_more : (most : ℕ) (us : List ℕ) (o : Option (ℕ × List ℕ)) → unit_from us ≡ o → ((behind : List ℕ) → AllFound behind (units_from most behind))
    → AllFound us (unwrap_or (option_map (λ v. (v.0 ∷ (units_from most v.1).0, (units_from most v.1).1)) o) ([], us))
one_more most us None e later = record { inside = []; parts = refl; spells = refl }
one_more most us (Some (v, behind)) e later =
    let f = unit_found us v behind e in
    let l = later behind in
    record {
      inside = f.first ++ l.inside;
      parts = f.parts ∙ ap (λ (w : List ℕ). f.first ++ w) l.parts ∙ sym (append_assoc f.first l.inside (units_from most behind).1);
      spells = (f.first, l.inside, refl, f.spells, l.spells);
    }

units_found : (most : ℕ) (us : List ℕ) → AllFound us (units_from most us)
unfolding units_from
units_found zero us = record { inside = []; parts = refl; spells = refl }
units_found (suc most) us = one_more most us (unit_from us) refl (units_found most)

-- An escape that is spelled is read.
escape_again : (letter v : ℕ) (behind : List ℕ) → unit_of_escape letter ≡ Some v → escape_from (letter ∷ behind) ≡ Some (v, behind)
escape_again letter v behind e =
    let no_digits : (b : Bool) → eqb letter 117 ≡ b → cond b (digits_from behind) (option_map (λ n. (n, behind)) (unit_of_escape letter)) ≡ Some (v, behind) = λ b is. letter_again b is in
    no_digits (eqb letter 117) refl
  where
    letter_again : (b : Bool) → eqb letter 117 ≡ b → cond b (digits_from behind) (option_map (λ n. (n, behind)) (unit_of_escape letter)) ≡ Some (v, behind)
    letter_again true is = absurd (none-some v (subst (λ (n : ℕ). unit_of_escape n ≡ Some v) (eqb-true letter 117 is) e))
    letter_again false is = rw e refl

unit_again : (first behind : List ℕ) (v : ℕ) → SpellsUnit first v → unit_from (first ++ behind) ≡ Some (v, behind)
unfolding unit_from
unit_again first behind v (inl (is, plain)) = rw is (plain_again (eqb v 34) (eqb v 92) plain)
  where
    plain_again : (a b : Bool) → not (a || b) ≡ true → cond a None (cond b (escape_from behind) (Some (v, behind))) ≡ Some (v, behind)
    plain_again true b e = absurd cc
    plain_again false true e = absurd cc
    plain_again false false e = refl
unit_again first behind v (inr (inl (letter, is, e))) = rw is (escape_again letter v behind e)
unit_again first behind v (inr (inr (a, b, c, d, is, e))) = rw (is, e) refl

-- A spelling of a unit isn't empty.
some_units : (first : List ℕ) (v : ℕ) → SpellsUnit first v → 0 < length first
some_units first v (inl (is, plain)) = rw is (omega arith)
some_units first v (inr (inl (letter, is, e))) = rw is (omega arith)
some_units first v (inr (inr (a, b, c, d, is, e))) = rw is (omega arith)

-- The rest after a unit is shorter.
pub shorter_behind : (us : List ℕ) (v : ℕ) (behind : List ℕ) → unit_from us ≡ Some (v, behind) → length behind < length us
shorter_behind us v behind e =
    let f = unit_found us v behind e in
    let some = some_units f.first v f.spells in
    let size : length us ≡ length f.first + length behind = ap length f.parts ∙ length-append f.first behind in
    omega arith

-- No unit is read at the closing quote.
units_end : (most : ℕ) (behind : List ℕ) → units_from most (34 ∷ behind) ≡ ([], 34 ∷ behind)
unfolding units_from unit_from
units_end zero behind = refl
units_end (suc most) behind = refl

-- Units that are spelled are read.
units_again : (vs : List ℕ) (most : ℕ) (inside behind : List ℕ) → SpellsUnits inside vs → length inside ≤ most → units_from most (inside ++ 34 ∷ behind) ≡ (vs, 34 ∷ behind)
unfolding units_from
units_again [] most inside behind is fits = rw is (units_end most behind)
units_again (v ∷ vs) zero inside behind (first, later, is, spells, more) fits =
    let some = some_units first v spells in
    let size : length inside ≡ length first + length later = ap length is ∙ length-append first later in
    absurd (omega arith)
units_again (v ∷ vs) (suc most) inside behind (first, later, is, spells, more) fits =
    let some = some_units first v spells in
    let size : length inside ≡ length first + length later = ap length is ∙ length-append first later in
    let whole : inside ++ 34 ∷ behind ≡ first ++ (later ++ 34 ∷ behind) = ap (λ (w : List ℕ). w ++ 34 ∷ behind) is ∙ append_assoc first later (34 ∷ behind) in
    let here = unit_again first (later ++ 34 ∷ behind) v spells in
    let rest = units_again vs most later behind more (omega arith) in
    rw (whole, here, rest) refl

-- ---- Texts

-- A text that was read is spelled before its closing quote and the rest.
pub record TextFound (us vs behind : List ℕ) : Type 0 where
  pub inside : List ℕ
  pub parts : us ≡ inside ++ 34 ∷ behind
  pub spells : SpellsUnits inside vs

closed_found : (us ws left vs behind : List ℕ) → AllFound us (ws, left) → closed_text ws left ≡ Some (vs, behind) → TextFound us vs behind
closed_found us ws [] vs behind f e = absurd (none-some _ e)
closed_found us ws (u ∷ rest) vs behind f e =
    choose (eqb u 34) (Some (ws, rest)) None (Some (vs, behind)) e
    (λ met is.
    let same : (ws, rest) ≡ (vs, behind) = same_Some _ _ is in
    record {
      inside = f.inside;
      parts = f.parts ∙ ap (λ (w : List ℕ). f.inside ++ w) (ap (λ (n : ℕ). n ∷ rest) (eqb-true u 34 met) ∙ ap (λ (p : List ℕ × List ℕ). 34 ∷ p.1) same);
      spells = subst (λ (p : List ℕ × List ℕ). SpellsUnits f.inside p.0) same f.spells;
    })
    (λ unmet is. absurd (none-some _ is))

pub text_found : (us vs behind : List ℕ) → text_from us ≡ Some (vs, behind) → TextFound us vs behind
text_found us vs behind e = closed_found us (units_from (length us) us).0 (units_from (length us) us).1 vs behind (units_found (length us) us) e

pub text_again : (inside vs behind : List ℕ) → SpellsUnits inside vs → text_from (inside ++ 34 ∷ behind) ≡ Some (vs, behind)
text_again inside vs behind spells =
    let size : length (inside ++ 34 ∷ behind) ≡ length inside + length (34 ∷ behind) = length-append inside (34 ∷ behind) in
    rw (units_again vs (length (inside ++ 34 ∷ behind)) inside behind spells (omega arith)) refl
