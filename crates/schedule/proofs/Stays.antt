-- Departures from a default.
use Rattle.std.proofs.Common.{◌≡◌, ℕ, zero, suc, pred, ◌+◌, ◌-◌, ◌<◌, ◌≤◌, Bool, List, [], ◌∷◌, length, drop, Option, Some, None, slice_get, IfSome, add-one, refl, ap, sym, ◌∙◌, arith, inl, inr}
use Rattle.std.proofs.Math.Seq.{drop-cons}
use Rattle.std.proofs.lemmas.Option.{get_or_from_slice_get, none-some, slice_get_within}
use Rattle.departures.specs.declared.departure.Departure.{Departure}
use Rattle.schedule.specs.Choosers.{Staying, default, enabled_of, may_be_enabled, next, stay, with_choices, IsNextBeside, IsNextFor}
use Rattle.schedule.specs.Rules.{IsDefaultFor}
use Rattle.schedule.proofs.Beside.{choice_some}
use Rattle.schedule.proofs.Candidates.{same_stays}

-- ---- The departures that are left

pub left_after : (ds : List Departure) (place : ℕ) (d : Departure) → slice_get ds place ≡ Some d → drop place ds ≡ d ∷ drop (place + 1) ds
left_after ds place d is =
    drop-cons ds place d (slice_get_within ds place d is)
    ∙ ap (λ x. x ∷ drop (suc place) ds) (get_or_from_slice_get ds place d d is)
    ∙ ap (λ n. d ∷ drop n ds) (sym (add-one place))

pub none_left : (ds : List Departure) (place : ℕ) → slice_get ds place ≡ None → drop place ds ≡ []
none_left [] zero is = refl
none_left [] (suc place) is = refl
none_left (d ∷ ds) zero is = absurd (none-some d (sym is))
none_left (d ∷ ds) (suc place) is = none_left ds place is

-- ---- The default

pub has_turn : (turns before : ℕ) (ds : List Departure) → 1 ≤ turns → IsDefaultFor turns before ds → IsDefaultFor 1 before ds
has_turn turns before ds some (inl none) = inl none
has_turn turns before ds some (inr fits) = inr (omega arith)

next_default : (before last : ℕ) (ds : List Departure) (enabled : List ℕ) → IsDefaultFor 1 before ds → next (Staying before last ds) enabled ≡ stay before last ds (default last enabled)
next_default before last [] enabled has = refl
next_default zero last (d ∷ ds) enabled (inl none) = absurd (omega (arith, ap length none))
next_default zero last (d ∷ ds) enabled (inr some) = absurd (omega (arith, some))
next_default (suc before) last (d ∷ ds) enabled has = refl

-- A default choice is the next one, and leaves the chooser with that choice counted.
next_is : (before last chosen : ℕ) (ds : List Departure) (enabled : List ℕ) → IsDefaultFor 1 before ds → default last enabled ≡ Some chosen
    → next (Staying before last ds) enabled ≡ (Some chosen, Staying (pred before) chosen ds)
next_is before last chosen ds enabled has is = next_default before last ds enabled has ∙ ap (stay before last ds) is

fewer_turns : (turns before : ℕ) (ds : List Departure) → IsDefaultFor (suc turns) before ds → IsDefaultFor turns (pred before) ds
fewer_turns turns before ds (inl none) = inl none
fewer_turns turns before ds (inr fits) = inr (omega arith)

-- The last thread stays the choice before the next departure.
pub last_for : (turns count before last : ℕ) (ds : List Departure) → IsDefaultFor turns before ds → last < count → IsNextFor turns last count (Staying before last ds)
unfolding IsNextFor
last_for zero count before last ds has there = tt
last_for (suc turns) count before last ds has there = (
  λ p enabled. next_is before last last ds (enabled_of p count) (has_turn (suc turns) before ds (omega arith) has) (same_stays p count 1 last 0 (omega arith) there enabled),
  last_for turns count (pred before) last ds (fewer_turns turns before ds has) there,
)

default_for : (idle : List Bool) (count before last chosen : ℕ) (ds : List Departure) → IsDefaultFor 1 before ds → Some chosen ≡ default last (enabled_of (may_be_enabled idle) count)
    → IsNextBeside idle chosen count (Staying before last ds)
unfolding IsNextBeside
default_for idle count before last chosen ds has is = λ p beside enabled.
    next_is before last chosen ds (enabled_of p count) has (choice_some p (may_be_enabled idle) beside count 1 last 0 chosen (sym is) enabled)

-- The default beside idle threads is the choice if it is enabled.
pub default_beside : (idle : List Bool) (count before last : ℕ) (ds : List Departure) (o : Option ℕ) → IsDefaultFor 1 before ds
    → o ≡ default last (enabled_of (may_be_enabled idle) count) → IfSome o (λ t. IsNextBeside idle t count (Staying before last ds))
default_beside idle count before last ds None has is = tt
default_beside idle count before last ds (Some chosen) has is = default_for idle count before last chosen ds has is

-- ---- Counted turns

counted_on : (times chosen before : ℕ) (ds : List Departure) → with_choices times chosen (Staying before chosen ds) ≡ Staying (before - times) chosen ds
unfolding with_choices
counted_on zero chosen before ds = let all : before ≡ before - 0 = omega arith in ap (λ n. Staying n chosen ds) all
counted_on (suc times) chosen before ds =
    let rest : pred before - times ≡ before - suc times = omega arith in
    counted_on times chosen (pred before) ds ∙ ap (λ n. Staying n chosen ds) rest

pub counted : (times chosen before last : ℕ) (ds : List Departure) → 1 ≤ times → with_choices times chosen (Staying before last ds) ≡ Staying (before - times) chosen ds
unfolding with_choices
counted zero chosen before last ds some = let never : ⊥ = omega arith in absurd never
counted (suc times) chosen before last ds some =
    let rest : pred before - times ≡ before - suc times = omega arith in
    counted_on times chosen (pred before) ds ∙ ap (λ n. Staying n chosen ds) rest
