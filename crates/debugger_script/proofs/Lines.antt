-- Lines and their answers, one after another.
use Rattle.std.proofs.Common.{◌≡◌, ◌≢◌, ℕ, ◌==◌, false, List, [], ◌∷◌, ◌++◌, length, refl, sym, ap, ◌∙◌, subst, append_assoc, append-nil}
use Rattle.std.specs.List.{AllByRecursion, flat_map}
use Rattle.std.proofs.lemmas.List.Concat.{flat_map-append}
use Rattle.std.proofs.lemmas.Bool.{false≢true}
use Rattle.debugger_commands.specs.Sessions.{Session}
use Rattle.debugger.specs.States.{Setting}
use Rattle.debugger_script.specs.Answers.{AreAnswers, IsAnswer}
use Rattle.debugger_script.specs.Scripts.{AreLines, HasNoEnd, with_lf, with_rest}

-- ---- Answers

pub no_answers : (g : Setting) (x : Session) → AreAnswers g x [] [] x
no_answers g x = (refl, refl)

pub one_answer : (g : Setting) (x y : Session) (line text : List ℕ) → IsAnswer g x line text y → AreAnswers g x (line ∷ []) text y
one_answer g x y line text is = (text, [], y, is, (refl, refl), sym (append-nil text))

-- The answers to lines, followed by those to more lines.
pub answers-append : (g : Setting) (x m y : Session) (first second : List (List ℕ)) (s t : List ℕ) → AreAnswers g x first s m → AreAnswers g m second t y → AreAnswers g x (first ++ second) (s ++ t) y
answers-append g x m y [] second s t p q =
    subst (λ (z : Session). AreAnswers g z second (s ++ t) y) p.1 (subst (λ (u : List ℕ). AreAnswers g m second (u ++ t) y) (sym p.0) q)
answers-append g x m y (line ∷ lines) second s t p q =
    (p.0, p.1 ++ t, p.2, p.3, answers-append g p.2 m y lines second p.1 t p.4 q, ap (λ l. l ++ t) p.5 ∙ append_assoc p.0 p.1 t)

-- ---- Lines

both_end : (first second : List (List ℕ)) → AllByRecursion HasNoEnd first → AllByRecursion HasNoEnd second → AllByRecursion HasNoEnd (first ++ second)
both_end [] second p q = q
both_end (line ∷ lines) second p q = (p.0, both_end lines second p.1 q)

-- Lines, followed by those of the rest and more bytes.
pub lines-append : (begun a b mid rest : List ℕ) (first second : List (List ℕ)) → AreLines (begun ++ a) first mid → AreLines (mid ++ b) second rest → AreLines (begun ++ (a ++ b)) (first ++ second) rest
lines-append begun a b mid rest first second p q = record {
  bytes_are =
      sym (append_assoc begun a b) ∙ ap (λ l. l ++ b) p.bytes_are ∙ append_assoc (flat_map with_lf first) mid b
      ∙ ap (λ l. flat_map with_lf first ++ l) q.bytes_are ∙ sym (append_assoc (flat_map with_lf first) (flat_map with_lf second) rest)
      ∙ ap (λ l. l ++ rest) (sym (flat_map-append with_lf first second));
  lines_end = both_end first second p.lines_end q.lines_end;
  rest_is_open = q.rest_is_open;
}

-- Only the beginning of a line.
pub no_lines : (begun : List ℕ) → HasNoEnd begun → AreLines (begun ++ []) [] begun
no_lines begun is_open = record { bytes_are = append-nil begun; lines_end = tt; rest_is_open = is_open }

-- The end of the line.
pub one_line : (begun : List ℕ) → HasNoEnd begun → AreLines (begun ++ 10 ∷ []) (begun ∷ []) []
one_line begun is_open = record {
  bytes_are = sym (append-nil (with_lf begun ++ []) ∙ append-nil (with_lf begun));
  lines_end = (is_open, tt);
  rest_is_open = refl;
}

-- ---- The last line

pub rest_is_line : (lines : List (List ℕ)) (rest : List ℕ) → rest ≢ [] → with_rest lines rest ≡ lines ++ rest ∷ []
rest_is_line lines [] some = absurd (some refl)
rest_is_line lines (b ∷ rest) some = refl

pub not_empty : (l : List ℕ) (n : ℕ) → n ≡ length l → false ≡ (n == 0) → l ≢ []
not_empty l n count some none = false≢true (some ∙ ap (λ k. k == 0) (count ∙ ap length none))
