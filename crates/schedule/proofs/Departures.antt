-- Departures in texts.
use Rattle.std.proofs.Common.{◌≡◌, ℕ, ◌<◌, ◌^◌, ◌⊎◌, List, [], ◌∷◌, ◌++◌, Some, None, arith, inr, subst, sym}
use Rattle.std.proofs.lemmas.List.Elements.{All-cons, All-contains, All-head, All-nil, All-push, Contains-push}
use Rattle.departures.specs.declared.departure.Departure.{Departure}
use Rattle.schedule.specs.Schedules.{AreRising, WritesDeparture, WritesNumber, WritesThread}
use Rattle.schedule.specs.Lists.{IsLastOf}
use Rattle.schedule.specs.Parts.{Lacks}
use Rattle.schedule.proofs.Texts.{numerals_are_cut, numerals_have_byte}

equals_sign : (61 < 48) ⊎ (57 < 61)
equals_sign = inr (omega arith)

-- If a departure is cut at its first equals sign, the parts write its position and its thread.
pub departure_is_cut : (text front back : List ℕ) (d : Departure) → text ≡ front ++ 61 ∷ back → Lacks 61 front → WritesDeparture text d
    → (WritesNumber front d.position × (d.position < 2 ^ 64)) × WritesThread back d.thread
departure_is_cut text front back d e none (first, second, position, low, thread, f) =
    let same = numerals_are_cut 61 text front back first second equals_sign e none position.0 thread.0.0 f in
    let P : List ℕ → Type 0 = λ digits. WritesNumber digits d.position in
    let Q : List ℕ → Type 0 = λ digits. WritesThread digits d.thread in
    ((subst P (sym same.0) position, low), subst Q (sym same.1) thread)

-- A departure has an equals sign.
pub departure_has_sign : (text : List ℕ) (d : Departure) → Lacks 61 text → ¬ (WritesDeparture text d)
departure_has_sign text d none (first, second, position, low, thread, f) =
    numerals_have_byte 61 text first second equals_sign none position.0 thread.0.0 f

-- ---- Rising positions

rising_more : (front : List Departure) (l d : Departure) → AreRising (front ++ l ∷ []) → l.position < d.position → AreRising ((front ++ l ∷ []) ++ d ∷ [])
rising_more [] l d rising above =
    let Later : Departure → Type 0 = λ later. l.position < later.position in
    (All-cons Later d [] above (All-nil Later), (All-nil (λ later. d.position < later.position), tt))
rising_more (x ∷ front) l d rising above =
    let Later : Departure → Type 0 = λ later. x.position < later.position in
    let below : x.position < l.position = All-contains Later (front ++ l ∷ []) l rising.0 (Contains-push front l) in
    (All-push Later (front ++ l ∷ []) d rising.0 (omega arith), rising_more front l d rising.1 above)

-- The last two of rising departures rise.
last_rises : (front : List Departure) (l d : Departure) → AreRising ((front ++ l ∷ []) ++ d ∷ []) → l.position < d.position
last_rises [] l d rising = All-head (λ later. l.position < later.position) d [] rising.0
last_rises (x ∷ front) l d rising = last_rises front l d rising.1

-- ---- The next departure

pub first_rises : (before : List Departure) (d : Departure) → IsLastOf before None → AreRising (before ++ d ∷ [])
first_rises before d none =
    let P : List Departure → Type 0 = λ ds. AreRising (ds ++ d ∷ []) in
    subst P (sym none) (All-nil (λ later. d.position < later.position), tt)

pub next_rises : (before : List Departure) (l d : Departure) → AreRising before → IsLastOf before (Some l) → l.position < d.position → AreRising (before ++ d ∷ [])
next_rises before l d rising (front, is) above =
    let P : List Departure → Type 0 = λ ds. AreRising (ds ++ d ∷ []) in
    subst P (sym is) (rising_more front l d (subst AreRising is rising) above)

pub next_is_above : (before : List Departure) (l d : Departure) → IsLastOf before (Some l) → AreRising (before ++ d ∷ []) → l.position < d.position
next_is_above before l d (front, is) rising =
    let P : List Departure → Type 0 = λ ds. AreRising (ds ++ d ∷ []) in
    last_rises front l d (subst P is rising)
