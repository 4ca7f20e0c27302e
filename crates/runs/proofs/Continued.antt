-- The choices that a chooser gives, first some of them and then the others.
use Rattle.std.proofs.Common.{◌≡◌, ℕ, zero, suc, ◌+◌, ◌<◌, List, [], ◌∷◌, ◌++◌, length, refl, ap, sym, ◌∙◌, arith, Option, Some, None}
use Rattle.machine.specs.Machine.{Machine, with_state}
use Rattle.machine.specs.Runs.{run_of}
use Rattle.jvms_machine.specs.Run.{run_from}
use Rattle.schedule.specs.Choosers.{Chooser}
use Rattle.runs.specs.Choices.{after_turn, choice_of, chooser_after, choices_from, chooser_after_choices}
use Rattle.runs.proofs.ChosenTurns.{one_left, none_left, one_behind, none_behind, nothing_behind, nothing_left}

-- Returns the machine after the choices that a chooser gives, at most this number of them.
abbrev pub machine_after_choices : ℕ → Chooser → Machine → Machine
machine_after_choices most chooser m = with_state m (run_of m (choices_from most chooser m)).state

no_run : (m : Machine) → with_state m (run_of m []).state ≡ m
unfolding run_from
no_run m = refl

one_run : (m : Machine) (t : ℕ) (ts : List ℕ) → with_state m (run_of m (t ∷ ts)).state ≡ with_state (after_turn m t) (run_of (after_turn m t) ts).state
unfolding run_from
one_run m t ts = refl

none_run : (chooser : Chooser) (m : Machine) → machine_after_choices 0 chooser m ≡ m
none_run chooser m = ap (λ l. with_state m (run_of m l).state) (nothing_left chooser m) ∙ no_run m

-- Returns the choices that follow the first ones: at most `b`, after at most `a`.
abbrev pub rest_of : ℕ → ℕ → Chooser → Machine → List ℕ
rest_of a b chooser m = choices_from b (chooser_after_choices a chooser m) (machine_after_choices a chooser m)

machine_step : (a : ℕ) (chooser : Chooser) (m : Machine) (t : ℕ) → choice_of chooser m ≡ Some t → machine_after_choices (suc a) chooser m ≡ machine_after_choices a (chooser_after chooser m) (after_turn m t)
machine_step a chooser m t is =
    ap (λ l. with_state m (run_of m l).state) (one_left a chooser m t is)
    ∙ one_run m t (choices_from a (chooser_after chooser m) (after_turn m t))

rest_step : (a b : ℕ) (chooser : Chooser) (m : Machine) (t : ℕ) → choice_of chooser m ≡ Some t → rest_of (suc a) b chooser m ≡ rest_of a b (chooser_after chooser m) (after_turn m t)
rest_step a b chooser m t is =
    ap (λ c. choices_from b c (machine_after_choices (suc a) chooser m)) (one_behind a chooser m t is)
    ∙ ap (λ n. choices_from b (chooser_after_choices a (chooser_after chooser m) (after_turn m t)) n) (machine_step a chooser m t is)

shorter : (a : ℕ) (chooser : Chooser) (m : Machine) (t : ℕ) → choice_of chooser m ≡ Some t → length (choices_from (suc a) chooser m) ≡ suc (length (choices_from a (chooser_after chooser m) (after_turn m t)))
shorter a chooser m t is = ap length (one_left a chooser m t is)

-- A chooser that gave all `a` choices asked for continues from there, if asked for `a + b`.
abbrev Continues : ℕ → ℕ → Chooser → Machine → Type 0
Continues a b chooser m =
    length (choices_from a chooser m) ≡ a →
    (choices_from (a + b) chooser m ≡ choices_from a chooser m ++ rest_of a b chooser m)
    × (chooser_after_choices (a + b) chooser m ≡ chooser_after_choices b (chooser_after_choices a chooser m) (machine_after_choices a chooser m))

continues_zero : (b : ℕ) (chooser : Chooser) (m : Machine) → Continues 0 b chooser m
continues_zero b chooser m = λ full. let none : 0 + b ≡ b = omega arith in rw none (
  sym (
      ap (λ l. l ++ rest_of 0 b chooser m) (nothing_left chooser m)
      ∙ ap (λ c. choices_from b c (machine_after_choices 0 chooser m)) (nothing_behind chooser m)
      ∙ ap (λ n. choices_from b chooser n) (none_run chooser m)
      ),
  sym (
      ap (λ c. chooser_after_choices b c (machine_after_choices 0 chooser m)) (nothing_behind chooser m)
      ∙ ap (λ n. chooser_after_choices b chooser n) (none_run chooser m)
      ),
)

continues_by : (a b : ℕ) (chooser : Chooser) (m : Machine) (o : Option ℕ) → choice_of chooser m ≡ o
    → ((c : Chooser) (n : Machine) → Continues a b c n) → Continues (suc a) b chooser m
continues_by a b chooser m None is rest = λ full. let never : ⊥ = omega (arith, full, ap length (none_left (suc a) chooser m is)) in absurd never
continues_by a b chooser m (Some t) is rest = λ full.
    let c = chooser_after chooser m in
    let n = after_turn m t in
    let more = rest c n (let s = shorter a chooser m t is in omega (arith, full, s)) in
    let one : suc a + b ≡ suc (a + b) = omega arith in rw one (
      one_left (a + b) chooser m t is
          ∙ ap (λ l. t ∷ l) more.0
          ∙ ap (λ l. t ∷ (choices_from a c n ++ l)) (sym (rest_step a b chooser m t is))
          ∙ ap (λ l. l ++ rest_of (suc a) b chooser m) (sym (one_left a chooser m t is)),
      one_behind (a + b) chooser m t is
          ∙ more.1
          ∙ ap (λ d. chooser_after_choices b d (machine_after_choices a c n)) (sym (one_behind a chooser m t is))
          ∙ ap (λ d. chooser_after_choices b (chooser_after_choices (suc a) chooser m) d) (sym (machine_step a chooser m t is)),
    )

pub continues : (a b : ℕ) (chooser : Chooser) (m : Machine) → Continues a b chooser m
continues zero b chooser m = continues_zero b chooser m
continues (suc a) b chooser m = continues_by a b chooser m (choice_of chooser m) refl (λ c n. continues a b c n)

-- A chooser that gave fewer choices than asked for gives no more.
abbrev Ends : ℕ → ℕ → Chooser → Machine → Type 0
Ends a b chooser m =
    length (choices_from a chooser m) < a →
    (choices_from (a + b) chooser m ≡ choices_from a chooser m)
    × (chooser_after_choices (a + b) chooser m ≡ chooser_after_choices a chooser m)

ends_by : (a b : ℕ) (chooser : Chooser) (m : Machine) (o : Option ℕ) → choice_of chooser m ≡ o
    → ((c : Chooser) (n : Machine) → Ends a b c n) → Ends (suc a) b chooser m
ends_by a b chooser m None is rest = λ few. let one : suc a + b ≡ suc (a + b) = omega arith in rw one (
  none_left (suc (a + b)) chooser m is ∙ sym (none_left (suc a) chooser m is),
  none_behind (a + b) chooser m is ∙ sym (none_behind a chooser m is),
)
ends_by a b chooser m (Some t) is rest = λ few.
    let more = rest (chooser_after chooser m) (after_turn m t) (let s = shorter a chooser m t is in omega (arith, few, s)) in
    let one : suc a + b ≡ suc (a + b) = omega arith in rw one (
      one_left (a + b) chooser m t is ∙ ap (λ l. t ∷ l) more.0 ∙ sym (one_left a chooser m t is),
      one_behind (a + b) chooser m t is ∙ more.1 ∙ sym (one_behind a chooser m t is),
    )

pub ends : (a b : ℕ) (chooser : Chooser) (m : Machine) → Ends a b chooser m
ends zero b chooser m = λ few. let never : ⊥ = omega (arith, few) in absurd never
ends (suc a) b chooser m = ends_by a b chooser m (choice_of chooser m) refl (λ c n. ends a b c n)
