-- The choices of departures from a default, by their positions.
use Rattle.std.proofs.Common.{◌≡◌, ℕ, suc, ◌+◌, ◌-◌, ◌<◌, ◌≤◌, Bool, true, false, nat_eq, nat_lt, ◌==◌, List, [], ◌∷◌, slice_index_or, Some, Contains, refl, ap, subst, ◌∙◌, arith}
use Rattle.std.specs.List.{All, list_any}
use Rattle.std.proofs.lemmas.Bool.Decides.{nat_tests}
use Rattle.std.proofs.lemmas.List.Elements.{All-cons, All-head, All-nil, All-weaker}
use Rattle.std.proofs.lemmas.List.Folds.{list_any_at}
use Rattle.departures.specs.Departures.{chosen_at, left_at, rest_if, this_if}
use Rattle.departures.specs.declared.departure.Departure.{Departure}
use Rattle.schedule.specs.Choosers.{Listed, default, depart, next, round_robin, stay, stay_or_depart}
use Rattle.schedule.specs.Positions.{staying_at, AreRisingFrom}
use Rattle.schedule.proofs.Choices.{contains_any}

pub turns_left : (quantum turns last : ℕ) (enabled : List ℕ) → turns < quantum → default last enabled ≡ round_robin quantum last turns enabled
turns_left quantum turns last enabled fewer =
    let few : nat_lt turns quantum ≡ true = grind (arith, nat_tests) in
    rw few refl

-- ---- Threads in a list

any_contained : (thread : ℕ) (xs : List ℕ) → Contains xs thread → list_any (λ t. nat_eq t thread) xs ≡ true
any_contained thread xs (k, inside, is) =
    let same : nat_eq (slice_index_or xs k thread) thread ≡ true = grind (arith, nat_tests) in
    list_any_at (λ t. nat_eq t thread) xs k thread inside same

none_contained : (thread : ℕ) (xs : List ℕ) → ¬ (Contains xs thread) → list_any (λ t. nat_eq t thread) xs ≡ false
none_contained thread xs none =
    elim (list_any (λ t. nat_eq t thread) xs) as (λ b. (b ≡ true → Contains xs thread) → b ≡ false)
    [ true ↦ λ held. absurd (none (held refl)) | false ↦ λ _. refl ] (contains_any thread xs)

-- ---- One turn

departs : (last : ℕ) (d : Departure) (ds : List Departure) (enabled : List ℕ) → next (staying_at d.position last (d ∷ ds)) enabled ≡ depart d ds enabled
departs last d ds enabled = let due : d.position - d.position ≡ 0 = omega arith in ap (λ n. stay_or_depart n last (d ∷ ds) enabled) due

pub ended : (last : ℕ) (d : Departure) (ds : List Departure) (enabled : List ℕ) → ¬ (Contains enabled d.thread)
    → next (staying_at d.position last (d ∷ ds)) enabled ≡ (Some d.thread, Listed [])
ended last d ds enabled none = departs last d ds enabled ∙ rw (none_contained d.thread enabled none) refl

made : (last : ℕ) (d : Departure) (ds : List Departure) (enabled : List ℕ) → Contains enabled d.thread
    → next (staying_at d.position last (d ∷ ds)) enabled ≡ (Some d.thread, staying_at (d.position + 1) d.thread ds)
made last d ds enabled held = departs last d ds enabled ∙ rw (any_contained d.thread enabled held) refl

stayed : (position last t : ℕ) (d : Departure) (ds : List Departure) (enabled : List ℕ) → position < d.position → default last enabled ≡ Some t
    → next (staying_at position last (d ∷ ds)) enabled ≡ (Some t, staying_at (position + 1) t (d ∷ ds))
stayed position last t d ds enabled later is =
    let turns : d.position - position ≡ suc (d.position - (position + 1)) = omega arith in
    ap (λ n. stay_or_depart n last (d ∷ ds) enabled) turns ∙ ap (stay (suc (d.position - (position + 1))) last (d ∷ ds)) is

pub turn : (position last t : ℕ) (ds : List Departure) (enabled : List ℕ) → AreRisingFrom position ds → default last enabled ≡ Some t
    → Contains enabled (chosen_at position t ds) → next (staying_at position last ds) enabled ≡ (Some (chosen_at position t ds), staying_at (position + 1) (chosen_at position t ds) (left_at position ds))
turn position last t [] enabled rising is held = ap (stay 0 last []) is
turn position last t (d ∷ ds) enabled rising is held = by_place (d.position == position) refl held
  where
    by_place : (b : Bool) → (d.position == position) ≡ b → Contains enabled (this_if b d.thread t)
        → next (staying_at position last (d ∷ ds)) enabled ≡ (Some (this_if b d.thread t), staying_at (position + 1) (this_if b d.thread t) (rest_if b ds (d ∷ ds)))
    by_place true here contained =
        let same : d.position ≡ position = grind (arith, nat_tests) in
        let P : ℕ → Type 0 = λ n. next (staying_at n last (d ∷ ds)) enabled ≡ (Some d.thread, staying_at (n + 1) d.thread ds) in
        subst P same (made last d ds enabled contained)
    by_place false other contained =
        let from : position ≤ d.position = All-head (λ (e : Departure). position ≤ e.position) d ds rising.0 in
        let later : position < d.position = grind (arith, nat_tests) in
        stayed position last t d ds enabled later is

-- ---- The departures that are left

later_from : (position n : ℕ) (ds : List Departure) → position ≤ n + 1 → All (λ later. n < later.position) ds → All (λ (d : Departure). position ≤ d.position) ds
later_from position n ds fits later =
    All-weaker (λ (d : Departure). n < d.position) (λ (d : Departure). position ≤ d.position) (λ d above. omega (arith, above)) ds later

pub rest : (position : ℕ) (ds : List Departure) → AreRisingFrom position ds → AreRisingFrom (position + 1) (left_at position ds)
rest position [] rising = (All-nil (λ (d : Departure). position + 1 ≤ d.position), tt)
rest position (d ∷ ds) rising = by_place (d.position == position) refl
  where
    by_place : (b : Bool) → (d.position == position) ≡ b → AreRisingFrom (position + 1) (rest_if b ds (d ∷ ds))
    by_place true here =
        let same : d.position ≡ position = grind (arith, nat_tests) in
        (later_from (position + 1) d.position ds (omega arith) rising.1.0, rising.1.1)
    by_place false other =
        let from : position ≤ d.position = All-head (λ (e : Departure). position ≤ e.position) d ds rising.0 in
        let later : position + 1 ≤ d.position = grind (arith, nat_tests) in
        (All-cons (λ (e : Departure). position + 1 ≤ e.position) d ds later (later_from (position + 1) d.position ds (omega arith) rising.1.0), rising.1)
