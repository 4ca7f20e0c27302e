-- The schedule that a text spells.
use Rattle.std.proofs.Common.{◌≡◌, ◌≢◌, true, false, is_some, Result, Ok, Err, IsErr, IsErrAnd, IsErrOf, ◌↔◌, Option, None, Some, MatchOption, drop, ℕ, ◌<◌, ◌^◌, ◌⊎◌, List, ◌∷◌, ◌++◌, length, get_or, codes, refl, ◌∙◌, ap, sym, subst, arith, inl, inr}
use Rattle.std.proofs.lemmas.List.{append_cancel_left, length-append}
use Rattle.departures.specs.declared.departure.Departure.{Departure}
use Rattle.schedule.specs.declared.fault.ScheduleFault.{ScheduleFault}
use Rattle.schedule.specs.declared.fault.ScheduleFault.TheVariants.{Syntax, Memory}
use Rattle.schedule.specs.Listable.{departure_lacks_comma, one_departure, one_thread, thread_lacks_comma}
use Rattle.schedule.specs.Parts.{Lacks, numeral_lacks}
use Rattle.schedule.specs.Schedules.{Schedule, Listed, Ranked, RoundRobin, Seeded, Staying, Spells, SpellsListOrDepartures, WritesDeparture, WritesDepartures, WritesNumber, WritesQuantum, WritesRanking, WritesSeed, WritesThread, WritesThreads}
use Rattle.schedule.proofs.Colons.{same_ranking}
use Rattle.schedule.proofs.Texts.{numerals_are_cut, numerals_have_byte, same_list}

-- Returns the bytes with which the spelling of a list begins.
abbrev pub list_kind : List ℕ
list_kind = codes "list:"

-- Returns the bytes with which the spelling of round robin begins.
abbrev pub round_kind : List ℕ
round_kind = codes "rr:"

-- Returns the bytes with which the spelling of random words begins.
abbrev pub seed_kind : List ℕ
seed_kind = codes "seed:"

-- Returns the bytes with which the spelling of departures begins.
abbrev pub stay_kind : List ℕ
stay_kind = codes "stay:"

-- Returns the bytes with which the spelling of priorities begins.
abbrev pub rank_kind : List ℕ
rank_kind = codes "pct:"

-- Any two kinds differ in their second bytes.
other_kind : (text first second : List ℕ) → text ≡ first → text ≡ second → get_or first 1 0 ≢ get_or second 1 0 → ⊥
other_kind text first second e f differ = differ (ap (λ l. get_or l 1 0) (sym e ∙ f))

pub list_only : (text rest : List ℕ) (s : Schedule) → text ≡ list_kind ++ rest → Spells text s → (threads : List ℕ) × (s ≡ Listed threads) × WritesThreads rest threads
list_only text rest (Listed threads) e (own, written, f) =
    let P : List ℕ → Type 0 = λ r. WritesThreads r threads in
    (threads, refl, subst P (append_cancel_left list_kind own rest (sym f ∙ e)) written)
list_only text rest (RoundRobin quantum) e (own, written, f) = absurd (other_kind text (list_kind ++ rest) (round_kind ++ own) e f (λ h. omega (arith, h)))
list_only text rest (Seeded state stream) e (own, written, f) = absurd (other_kind text (list_kind ++ rest) (seed_kind ++ own) e f (λ h. omega (arith, h)))
list_only text rest (Staying departures) e (own, written, f) = absurd (other_kind text (list_kind ++ rest) (stay_kind ++ own) e f (λ h. omega (arith, h)))
list_only text rest (Ranked state stream depth turns) e (own, written, f) = absurd (other_kind text (list_kind ++ rest) (rank_kind ++ own) e f (λ h. omega (arith, h)))

pub round_only : (text rest : List ℕ) (s : Schedule) → text ≡ round_kind ++ rest → Spells text s → (quantum : ℕ) × (s ≡ RoundRobin quantum) × WritesQuantum rest quantum
round_only text rest (Listed threads) e (own, written, f) = absurd (other_kind text (round_kind ++ rest) (list_kind ++ own) e f (λ h. omega (arith, h)))
round_only text rest (RoundRobin quantum) e (own, written, f) =
    let P : List ℕ → Type 0 = λ r. WritesQuantum r quantum in
    (quantum, refl, subst P (append_cancel_left round_kind own rest (sym f ∙ e)) written)
round_only text rest (Seeded state stream) e (own, written, f) = absurd (other_kind text (round_kind ++ rest) (seed_kind ++ own) e f (λ h. omega (arith, h)))
round_only text rest (Staying departures) e (own, written, f) = absurd (other_kind text (round_kind ++ rest) (stay_kind ++ own) e f (λ h. omega (arith, h)))
round_only text rest (Ranked state stream depth turns) e (own, written, f) = absurd (other_kind text (round_kind ++ rest) (rank_kind ++ own) e f (λ h. omega (arith, h)))

pub seed_only : (text rest : List ℕ) (s : Schedule) → text ≡ seed_kind ++ rest → Spells text s → (state : ℕ) × (stream : ℕ) × (s ≡ Seeded state stream) × WritesSeed rest state stream
seed_only text rest (Listed threads) e (own, written, f) = absurd (other_kind text (seed_kind ++ rest) (list_kind ++ own) e f (λ h. omega (arith, h)))
seed_only text rest (RoundRobin quantum) e (own, written, f) = absurd (other_kind text (seed_kind ++ rest) (round_kind ++ own) e f (λ h. omega (arith, h)))
seed_only text rest (Seeded state stream) e (own, written, f) =
    let P : List ℕ → Type 0 = λ r. WritesSeed r state stream in
    (state, stream, refl, subst P (append_cancel_left seed_kind own rest (sym f ∙ e)) written)
seed_only text rest (Staying departures) e (own, written, f) = absurd (other_kind text (seed_kind ++ rest) (stay_kind ++ own) e f (λ h. omega (arith, h)))
seed_only text rest (Ranked state stream depth turns) e (own, written, f) = absurd (other_kind text (seed_kind ++ rest) (rank_kind ++ own) e f (λ h. omega (arith, h)))

pub stay_only : (text rest : List ℕ) (s : Schedule) → text ≡ stay_kind ++ rest → Spells text s → (departures : List Departure) × (s ≡ Staying departures) × WritesDepartures rest departures
stay_only text rest (Listed threads) e (own, written, f) = absurd (other_kind text (stay_kind ++ rest) (list_kind ++ own) e f (λ h. omega (arith, h)))
stay_only text rest (RoundRobin quantum) e (own, written, f) = absurd (other_kind text (stay_kind ++ rest) (round_kind ++ own) e f (λ h. omega (arith, h)))
stay_only text rest (Seeded state stream) e (own, written, f) = absurd (other_kind text (stay_kind ++ rest) (seed_kind ++ own) e f (λ h. omega (arith, h)))
stay_only text rest (Staying departures) e (own, written, f) =
    let P : List ℕ → Type 0 = λ r. WritesDepartures r departures in
    (departures, refl, subst P (append_cancel_left stay_kind own rest (sym f ∙ e)) written)
stay_only text rest (Ranked state stream depth turns) e (own, written, f) = absurd (other_kind text (stay_kind ++ rest) (rank_kind ++ own) e f (λ h. omega (arith, h)))

pub rank_only : (text rest : List ℕ) (s : Schedule) → text ≡ rank_kind ++ rest → Spells text s
    → (state : ℕ) × (stream : ℕ) × (depth : ℕ) × (turns : ℕ) × (s ≡ Ranked state stream depth turns) × WritesRanking rest state stream depth turns
rank_only text rest (Listed threads) e (own, written, f) = absurd (other_kind text (rank_kind ++ rest) (list_kind ++ own) e f (λ h. omega (arith, h)))
rank_only text rest (RoundRobin quantum) e (own, written, f) = absurd (other_kind text (rank_kind ++ rest) (round_kind ++ own) e f (λ h. omega (arith, h)))
rank_only text rest (Seeded state stream) e (own, written, f) = absurd (other_kind text (rank_kind ++ rest) (seed_kind ++ own) e f (λ h. omega (arith, h)))
rank_only text rest (Staying departures) e (own, written, f) = absurd (other_kind text (rank_kind ++ rest) (stay_kind ++ own) e f (λ h. omega (arith, h)))
rank_only text rest (Ranked state stream depth turns) e (own, written, f) =
    let P : List ℕ → Type 0 = λ r. WritesRanking r state stream depth turns in
    (state, stream, depth, turns, refl, subst P (append_cancel_left rank_kind own rest (sym f ∙ e)) written)

-- A text begins with a kind, by the clauses of `strip_prefix`.
pub begins : (kind text rest : List ℕ) (n : ℕ) → text ≡ kind ++ drop n text → rest ≡ drop n text → text ≡ kind ++ rest
begins kind text rest n e f = e ∙ ap (λ r. kind ++ r) (sym f)

pub none_of : {X : Type 0} (P : Type 0) (Q : X → Type 0) (o : Option X) → MatchOption o P Q → is_some o ≡ false → P
none_of P Q None holds e = holds
none_of P Q (Some x) holds e = let no : true ≡ false → ⊥ = λ h. cc in absurd (no e)

-- ---- Faults

-- The fault that `?` returns is the one that it was given.
pub handed_on : {X : Type 0} (r : Result X ScheduleFault) (fault : ScheduleFault) → IsErr r × IsErrAnd r (λ e. e ≡ fault) → r ≡ Err fault
handed_on (Ok x) fault given = absurd given.1
handed_on (Err e) fault given = ap Err given.1

-- Of the two faults it is `Syntax` if and only if N holds.
pub is_syntax : {X Y : Type 0} (N M : Type 0) (r : Result X ScheduleFault) (fault : ScheduleFault) → r ≡ Err fault → (IsErrOf {T = Y} (Err fault) Syntax → N) → (IsErrOf {T = Y} (Err fault) Memory → M) → (N → M → ⊥) → IsErrOf r Syntax ↔ N
is_syntax N M r Syntax e first second apart = (λ _. first refl, λ _. e)
is_syntax {X = X} N M r Memory e first second apart =
    let other : IsErrOf {T = X} (Err Memory) Syntax → ⊥ = λ h. cc in
    (λ h. absurd (other (sym e ∙ h)), λ n. absurd (apart n (second refl)))

-- A text that spells a list or departures spells a schedule.
pub never_list : (text : List ℕ) → ((s : Schedule) → ¬ (Spells text s)) → SpellsListOrDepartures text → ⊥
never_list text never (inl (threads, spelled)) = never (Listed threads) spelled
never_list text never (inr (departures, spelled)) = never (Staying departures) spelled

-- ---- Seeds

colon : (58 < 48) ⊎ (57 < 58)
colon = inr (omega arith)

-- If a seed is cut at its first colon, the parts write its two numbers.
pub seed_is_cut : (text front back : List ℕ) (state stream : ℕ) → text ≡ front ++ 58 ∷ back → Lacks 58 front → WritesSeed text state stream → (WritesNumber front state × (state < 2 ^ 64)) × (WritesNumber back stream × (stream < 2 ^ 64))
seed_is_cut text front back state stream e none (first, second, one, two, low, small, f) =
    let same = numerals_are_cut 58 text front back first second colon e none one.0 two.0 f in
    let P : List ℕ → Type 0 = λ digits. WritesNumber digits state in
    let Q : List ℕ → Type 0 = λ digits. WritesNumber digits stream in
    ((subst P (sym same.0) one, low), (subst Q (sym same.1) two, small))

-- A seed has a colon.
pub seed_has_colon : (text : List ℕ) (state stream : ℕ) → Lacks 58 text → ¬ (WritesSeed text state stream)
seed_has_colon text state stream none (first, second, one, two, low, small, f) = numerals_have_byte 58 text first second colon none one.0 two.0 f

-- ---- One schedule

same_quantum : (text : List ℕ) (a b : ℕ) → WritesQuantum text a → WritesQuantum text b → a ≡ b
same_quantum text a b one two = sym one.0.1 ∙ two.0.1

pub same_seed : (text : List ℕ) (a b c d : ℕ) → WritesSeed text a b → WritesSeed text c d → (a ≡ c) × (b ≡ d)
same_seed text a b c d (first, second, one, two, low, small, f) other =
    let cut = seed_is_cut text first second c d f (numeral_lacks 58 first one.0 colon) other in
    (sym one.1 ∙ cut.0.0.1, sym two.1 ∙ cut.1.0.1)

some_thread : (text : List ℕ) (thread : ℕ) → WritesThread text thread → 0 < length text
some_thread text thread written = written.0.0.0

some_departure : (text : List ℕ) (d : Departure) → WritesDeparture text d → 0 < length text
some_departure text d (first, second, position, low, thread, e) = omega (arith, length-append first (61 ∷ second), ap length e)

pub same_schedule : (text : List ℕ) (a b : Schedule) → Spells text a → Spells text b → a ≡ b
same_schedule text (Listed ts) b (rest, written, e) other =
    let found = list_only text rest b e other in
    ap Listed (same_list WritesThread some_thread thread_lacks_comma one_thread rest ts found.0 written found.2) ∙ sym found.1
same_schedule text (RoundRobin q) b (rest, written, e) other =
    let found = round_only text rest b e other in
    ap RoundRobin (same_quantum rest q found.0 written found.2) ∙ sym found.1
same_schedule text (Seeded state stream) b (rest, written, e) other =
    let found = seed_only text rest b e other in
    let same = same_seed rest state stream found.0 found.1 written found.3 in
    ap (λ x. Seeded x stream) same.0 ∙ ap (Seeded found.0) same.1 ∙ sym found.2
same_schedule text (Staying ds) b (rest, written, e) other =
    let found = stay_only text rest b e other in
    ap Staying (same_list WritesDeparture some_departure departure_lacks_comma one_departure rest ds found.0 written.0 found.2.0) ∙ sym found.1
same_schedule text (Ranked state stream depth turns) b (rest, written, e) other =
    let found = rank_only text rest b e other in
    let same = same_ranking rest state stream depth turns found.0 found.1 found.2 found.3 written found.5 in
    ap (λ x. Ranked x stream depth turns) same.0 ∙ ap (λ x. Ranked found.0 x depth turns) same.1 ∙ ap (λ x. Ranked found.0 found.1 x turns) same.2
    ∙ ap (λ x. Ranked found.0 found.1 found.2 x) same.3 ∙ sym found.4
