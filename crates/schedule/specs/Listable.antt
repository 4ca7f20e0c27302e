-- Laws of the values that are listed in texts: threads and departures.
use Rattle.std.specs.Prelude.{◌≡◌, ℕ, ◌<◌, ◌⊎◌, false, List, [], ◌∷◌, ◌++◌, eqb}
use Rattle.std.specs.List.{All}
use Rattle.std.specs.Str.Parse.{digits_value}
use Rattle.std.proofs.Common.{arith, ap, inl, inr, refl, subst, sym, ◌∙◌}
use Rattle.std.proofs.lemmas.List.Elements.{All-append, All-cons, All-head, All-nil, All-tail}
use Rattle.departures.specs.declared.departure.Departure.{Departure}
use Rattle.schedule.specs.Schedules.{AreRising, WritesDeparture, WritesThread}
use Rattle.schedule.specs.Parts.{Lacks, numeral_lacks, two_parts}

-- ---- Threads

-- What writes a thread has no comma.
pub thread_lacks_comma : (text : List ℕ) (thread : ℕ) → WritesThread text thread → Lacks 44 text
thread_lacks_comma text thread written = numeral_lacks 44 text written.0.0 (inl (omega arith))

-- A text writes one thread at most.
pub one_thread : (text : List ℕ) (a b : ℕ) → WritesThread text a → WritesThread text b → a ≡ b
one_thread text a b one two = sym one.0.1 ∙ two.0.1

-- ---- Departures

-- What writes a departure has no comma.
pub departure_lacks_comma : (text : List ℕ) (d : Departure) → WritesDeparture text d → Lacks 44 text
departure_lacks_comma text d (first, second, position, low, thread, e) =
    let comma : ℕ → Type 0 = λ b. eqb b 44 ≡ false in
    let whole : Lacks 44 (first ++ 61 ∷ second) =
    All-append comma first (61 ∷ second) (numeral_lacks 44 first position.0 (inl (omega arith)))
    (All-cons comma 61 second refl (thread_lacks_comma second d.thread thread)) in
    subst (Lacks 44) (sym e) whole

same_parts : (a b c d : List ℕ) → a ∷ b ∷ [] ≡ c ∷ d ∷ [] → (a ≡ c) × (b ≡ d)
same_parts a b c d e = (cc, cc)

same_departure : (a b : Departure) → a.position ≡ b.position → a.thread ≡ b.thread → a ≡ b
same_departure a b position thread =
    let made : ℕ → ℕ → Departure = λ p t. record { position = p; thread = t } in
    ap (λ p. made p a.thread) position ∙ ap (made b.position) thread

-- A text writes one departure at most.
pub one_departure : (text : List ℕ) (a b : Departure) → WritesDeparture text a → WritesDeparture text b → a ≡ b
one_departure text a b (first, second, position, low, thread, e) (other, last, position_too, low_too, thread_too, f) =
    let no_digit : (61 < 48) ⊎ (57 < 61) = inr (omega arith) in
    let same = same_parts first second other last (sym (two_parts 61 text first second no_digit position.0 thread.0.0 e) ∙ two_parts 61 text other last no_digit position_too.0 thread_too.0.0 f) in
    same_departure a b (sym position.1 ∙ ap (digits_value 10) same.0 ∙ position_too.1) (sym thread.0.1 ∙ ap (digits_value 10) same.1 ∙ thread_too.0.1)

all_front : (P : Departure → Type 0) (before after : List Departure) → All P (before ++ after) → All P before
all_front P [] after all = All-nil P
all_front P (d ∷ before) after all =
    All-cons P d before (All-head P d (before ++ after) all) (all_front P before after (All-tail P d (before ++ after) all))

-- The first of rising departures rise.
pub front_rises : (before after : List Departure) → AreRising (before ++ after) → AreRising before
front_rises [] after rising = tt
front_rises (d ∷ before) after (later, rest) =
    (all_front (λ other. d.position < other.position) before after later, front_rises before after rest)
