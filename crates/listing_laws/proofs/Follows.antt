-- Proves which state consecutive lines lead to.
use Rattle.std.proofs.Common.{◌≡◌, ℕ, suc, true, false, List, [], ◌∷◌, ◌++◌, map, Ok, refl, sym, ap, subst, ◌∙◌}
use Rattle.jasmin.specs.declared.token.Lexeme.{Lexeme}
use Rattle.jasmin.specs.declared.statement.LineKind.{LineKind}
use Rattle.jasmin.specs.declared.statement.Statement.{Statement}
use Rattle.jasmin.specs.declared.reading.Reading.{Reading}
use Rattle.jasmin.specs.LineKinds.{kind_of}
use Rattle.jasmin.specs.Statements.{statement_of}
use Rattle.jasmin.specs.Sources.{units_of}
use Rattle.jasmin.specs.Reading.{with_line, with_lines, with_lexemes, with_statement, is_in_place, is_repeated, sort_of, switch_of}
use Rattle.listing_spec.specs.Printed.{join_words}
use Rattle.listing_laws.proofs.Words.{ArePieces, words_are}

-- Lines of units lead from one state to another.
abbrev pub Follows : Reading → List (List ℕ) → Reading → Type 0
Follows r [] s = r ≡ s
Follows r (u ∷ us) s = (m : Reading) × (with_line r u ≡ Ok m) × Follows m us s

pub follow : (us vs : List (List ℕ)) (r m s : Reading) → Follows r us m → Follows m vs s → Follows r (us ++ vs) s
follow [] vs r m s first later = subst (λ (q : Reading). Follows q vs s) (sym first) later
follow (u ∷ us) vs r m s (next, e, first) later = (next, e, follow us vs next m s first later)

pub one_line : (r s : Reading) (u : List ℕ) → with_line r u ≡ Ok s → Follows r (u ∷ []) s
one_line r s u e = (s, e, refl)

-- The lines of a text that have these units lead to the same state.
pub lines_follow : (ls : List (List ℕ)) (us : List (List ℕ)) (n : ℕ) (r s : Reading) → map units_of ls ≡ us → Follows r us s → with_lines n r ls ≡ Ok s
unfolding with_lines
lines_follow [] [] n r s same f = ap (λ (q : Reading). Ok q) f
lines_follow [] (u ∷ us) n r s same f = absurd cc
lines_follow (l ∷ ls) [] n r s same f = absurd cc
lines_follow (l ∷ ls) (u ∷ us) n r s same (m, e, f) =
    let here : units_of l ≡ u = head_same (units_of l) u (map units_of ls) us same in
    let later : map units_of ls ≡ us = tail_same (units_of l) u (map units_of ls) us same in
    let is : with_line r (units_of l) ≡ Ok m = ap (λ (w : List ℕ). with_line r w) here ∙ e in
    rw is (lines_follow ls us (suc n) m s later f)
  where
    head_same : (a b : List ℕ) (xs ys : List (List ℕ)) → (a ∷ xs) ≡ (b ∷ ys) → a ≡ b
    head_same a b xs ys e = cc

    tail_same : (a b : List ℕ) (xs ys : List (List ℕ)) → (a ∷ xs) ≡ (b ∷ ys) → xs ≡ ys
    tail_same a b xs ys e = cc

-- A line adds its statement.
pub lexemes_add : (r : Reading) (ls : List Lexeme) (k : LineKind) (s : Statement) → kind_of (switch_of r) ls ≡ Ok k → is_in_place r k ≡ true → statement_of (sort_of r.access) (switch_of r) k ls ≡ Ok s → is_repeated r s ≡ false → with_lexemes r ls ≡ Ok (with_statement r s)
lexemes_add r ls k s a b c d = rw (a, b, c, d) refl

pub words_add : (r : Reading) (ws : List (List ℕ)) (ls : List Lexeme) (k : LineKind) (s : Statement) → ArePieces ws ls → kind_of (switch_of r) ls ≡ Ok k → is_in_place r k ≡ true → statement_of (sort_of r.access) (switch_of r) k ls ≡ Ok s → is_repeated r s ≡ false → with_line r (join_words ws) ≡ Ok (with_statement r s)
words_add r ws ls k s are a b c d = words_are r ws ls are ∙ lexemes_add r ls k s a b c d
