-- The choices of choosers. A chooser is the state of a schedule.
use Rattle.std.specs.Prelude.{◌≡◌, ℕ, zero, suc, pred, ◌+◌, ◌-◌, ◌%◌, min, Bool, true, false, not, ◌&&◌, ◌==◌, nat_lt, if◌then◌else◌, List, [], ◌∷◌, length, Option, None, Some, slice_get, unwrap_or}
use Rattle.std.specs.List.{filter, find, list_any, range_with_len}
use Rattle.std.specs.Option.{option_or}
use Rattle.rand_pcg.specs.Lcg.{Lcg, advance, started, increment_of}
use Rattle.rand_pcg.specs.Pcg.{multiplier_64, pcg32}
use Rattle.departures.specs.declared.departure.Departure.{Departure}
use Rattle.schedule.specs.declared.ranked.Change.{Change}
use Rattle.schedule.specs.declared.ranked.Rank.{Rank}
use Rattle.schedule.specs.Schedules as schedules
use Rattle.schedule.specs.Schedules.{Schedule, WritesRanking, WritesSeed}

-- The priorities of threads, and their changes that are left.
pub record Ranking : Type 0 where
  -- The changes that are left.
  pub changes : List Change
  -- The threads that changes moved, and the priorities that they gave, the last one first.
  pub moved : List Rank
  -- The least priority of a thread that wasn't moved.
  pub least : ℕ
  -- The generator of the random words, of which each thread has one: thread 0 the first, thread 1 the second.
  pub generator : Lcg

-- A chooser gives the thread of each turn.
pub data Chooser : Type 0 where
  -- The remaining threads of a list.
  Listed : List ℕ → Chooser
  -- The quantum, the last thread, and the number of its last consecutive choices, counted up to the quantum.
  RoundRobin : ℕ → ℕ → ℕ → Chooser
  -- The generator of the random words.
  Seeded : Lcg → Chooser
  -- Thread 0, and no other.
  Alone : Chooser
  -- The number of turns before the next departure, the last thread, and the departures that are left.
  Staying : ℕ → ℕ → List Departure → Chooser
  -- The priorities of threads, and their changes that are left.
  Ranked : Ranking → Chooser

-- Returns the generator that starts with a state and a stream.
abbrev pub generator_of : ℕ → ℕ → Lcg
generator_of state stream = started 64 multiplier_64 state (increment_of 64 stream)

-- Returns the first words of a generator, this number of them.
abbrev pub words_of : ℕ → Lcg → List ℕ
words_of zero generator = []
words_of (suc count) generator = (pcg32 generator).0 ∷ words_of count (pcg32 generator).1

-- Returns the generator after this number of words.
abbrev pub after_words : ℕ → Lcg → Lcg
after_words count generator = advance 64 multiplier_64 count generator

-- The text writes a state and a stream, and the generator starts with them.
abbrev pub IsSeeded : List ℕ → Lcg → Type 0
IsSeeded text generator =
    (state : ℕ) × (stream : ℕ) × WritesSeed text state stream × (generator ≡ generator_of state stream)

-- Returns the number of turns from a position to the first of these departures, or 0 if there is none.
abbrev pub turns_before : ℕ → List Departure → ℕ
turns_before position [] = 0
turns_before position (d ∷ ds) = d.position - position

-- Returns the changes after turns at these words, each modulo a number of turns. The first one gives this priority, and
-- each of the others one more.
abbrev pub changes_at : ℕ → ℕ → List ℕ → List Change
changes_at priority turns [] = []
changes_at priority turns (word ∷ words) = record { turns = word % turns; priority = priority } ∷ changes_at (priority + 1) turns words

-- Returns the priorities of a depth D over N turns, before the first choice. The first D - 1 words are those of the changes,
-- which give the priorities from 0 to D - 2. The next words are those of the threads.
abbrev pub ranking_of : ℕ → ℕ → ℕ → ℕ → Ranking
ranking_of state stream depth turns =
    record {
      changes = changes_at 0 turns (words_of (depth - 1) (generator_of state stream));
      moved = [];
      least = depth - 1;
      generator = after_words (depth - 1) (generator_of state stream);
    }

-- The text writes a state, a stream, a depth and a number of turns, and these are their priorities.
abbrev pub IsRanking : List ℕ → Ranking → Type 0
IsRanking text ranking =
    (state : ℕ) × (stream : ℕ) × (depth : ℕ) × (turns : ℕ) × WritesRanking text state stream depth turns
    × (ranking ≡ ranking_of state stream depth turns)

-- Returns the chooser of a schedule before its first choice. Round robin starts at thread 0, with no turn counted, and
-- departures are from a default that starts with thread 0.
abbrev pub chooser_of_schedule : Schedule → Chooser
chooser_of_schedule (schedules.Listed threads) = Listed threads
chooser_of_schedule (schedules.RoundRobin quantum) = RoundRobin quantum 0 0
chooser_of_schedule (schedules.Seeded state stream) = Seeded (generator_of state stream)
chooser_of_schedule (schedules.Staying departures) = Staying (turns_before 0 departures) 0 departures
chooser_of_schedule (schedules.Ranked state stream depth turns) = Ranked (ranking_of state stream depth turns)

-- Returns the enabled threads among this number of threads, in rising order.
abbrev pub enabled_of : (ℕ → Bool) → ℕ → List ℕ
enabled_of is_enabled count = filter is_enabled (range_with_len 0 count)

-- ---- Round robin

-- Returns the next thread of a rising list: the least above this one, else the least of all.
abbrev pub next_of : ℕ → List ℕ → Option ℕ
next_of thread threads = option_or (find (nat_lt thread) threads) (slice_get threads 0)

-- Decides whether round robin stays with a thread: it is enabled and had fewer consecutive turns than the quantum.
abbrev pub stays : ℕ → ℕ → ℕ → List ℕ → Bool
stays quantum thread turns enabled = nat_lt turns quantum && list_any (λ t. t == thread) enabled

-- Returns the choice of round robin, if there is one: the last thread while it stays, else the next enabled one.
abbrev pub round_robin : ℕ → ℕ → ℕ → List ℕ → Option ℕ
round_robin quantum thread turns enabled =
    if stays quantum thread turns enabled then Some thread else next_of thread enabled

-- Returns the number of consecutive choices once a thread is chosen. It is one more, up to the quantum, if the
-- thread was also the last choice, else 1.
abbrev pub turns_with : ℕ → ℕ → ℕ → ℕ → ℕ
turns_with quantum thread turns chosen = if chosen == thread then min quantum (turns + 1) else 1

-- Returns round robin after a choice. Without a choice nothing changes.
abbrev pub after_choice : ℕ → ℕ → ℕ → Option ℕ → Chooser
after_choice quantum thread turns None = RoundRobin quantum thread turns
after_choice quantum thread turns (Some chosen) = RoundRobin quantum chosen (turns_with quantum thread turns chosen)

-- ---- Random words

-- Returns the enabled thread at the next word modulo their number, and the generator after this word. Without an
-- enabled thread no word is taken.
abbrev pub by_word : Lcg → List ℕ → Option ℕ × Chooser
by_word generator [] = (None, Seeded generator)
by_word generator (t ∷ ts) =
    (slice_get (t ∷ ts) ((pcg32 generator).0 % length (t ∷ ts)), Seeded (pcg32 generator).1)

-- ---- Thread 0 alone

-- Returns thread 0 if it is enabled.
abbrev pub alone : List ℕ → Option ℕ
alone enabled = find (λ t. t == 0) enabled

-- ---- Departures from a default

-- Returns the default: the last thread while it is enabled, else the next enabled one.
abbrev pub default : ℕ → List ℕ → Option ℕ
default last enabled = if list_any (λ t. t == last) enabled then Some last else next_of last enabled

-- Returns a default choice, if there is one, and the chooser after it.
abbrev pub stay : ℕ → ℕ → List Departure → Option ℕ → Option ℕ × Chooser
stay before last departures None = (None, Staying before last departures)
stay before last departures (Some t) = (Some t, Staying (pred before) t departures)

-- Returns the thread of a departure, and the chooser after it. Without the thread being enabled it is the last choice.
abbrev pub depart : Departure → List Departure → List ℕ → Option ℕ × Chooser
depart d departures enabled = (
  Some d.thread,
  if list_any (λ t. t == d.thread) enabled then Staying (turns_before (d.position + 1) departures) d.thread departures else Listed [],
)

-- Returns the next choice, if there is one, and the chooser after it: a departure at its position, else the default.
abbrev pub stay_or_depart : ℕ → ℕ → List Departure → List ℕ → Option ℕ × Chooser
stay_or_depart before last [] enabled = stay before last [] (default last enabled)
stay_or_depart zero last (d ∷ ds) enabled = depart d ds enabled
stay_or_depart (suc before) last (d ∷ ds) enabled = stay (suc before) last (d ∷ ds) (default last enabled)

-- ---- Priorities

-- Returns a thread's priority: the last one that it was moved to, else the thread's word, added to the least one.
abbrev pub priority_after : List Rank → ℕ → Lcg → ℕ → ℕ
priority_after [] least generator thread = least + (pcg32 (after_words thread generator)).0
priority_after (m ∷ moved) least generator thread = if m.thread == thread then m.priority else priority_after moved least generator thread

-- Returns a thread's priority.
abbrev pub priority : Ranking → ℕ → ℕ
priority ranking thread = priority_after ranking.moved ranking.least ranking.generator thread

-- Returns the second thread if it has a higher priority, or if there is no first, else the first one.
abbrev pub higher : (ℕ → ℕ) → Option ℕ → ℕ → ℕ
higher priority None second = second
higher priority (Some first) second = if nat_lt (priority first) (priority second) then second else first

-- Returns the first thread that has the highest priority, of one that comes before them and of these.
abbrev pub highest_from : (ℕ → ℕ) → Option ℕ → List ℕ → Option ℕ
highest_from priority best [] = best
highest_from priority best (t ∷ ts) = highest_from priority (Some (higher priority best t)) ts

-- Returns the thread of the highest priority, if there is one. Of equal priorities it is the first thread.
abbrev pub highest : Ranking → List ℕ → Option ℕ
highest ranking threads = highest_from (priority ranking) None threads

-- Returns the priority that is given after the next turn, if a change is made then. Of several it is the first one's.
abbrev pub due : List Change → Option ℕ
due [] = None
due (c ∷ changes) = if c.turns == 0 then Some c.priority else due changes

-- Returns the changes that are left after a turn.
abbrev pub left_after : List Change → List Change
left_after [] = []
left_after (c ∷ changes) =
    if c.turns == 0 then left_after changes else record { turns = c.turns - 1; priority = c.priority } ∷ left_after changes

-- Returns the threads that were moved, with this one if it is given a priority.
abbrev pub moved_to : Option ℕ → ℕ → List Rank → List Rank
moved_to None thread moved = moved
moved_to (Some priority) thread moved = record { thread = thread; priority = priority } ∷ moved

-- Returns the priorities after a turn of a thread. If a change is due, the thread gets its priority.
abbrev pub after_turn : Ranking → ℕ → Ranking
after_turn ranking thread =
    record ranking { changes = left_after ranking.changes; moved = moved_to (due ranking.changes) thread ranking.moved }

-- Returns a choice, if there is one, and the chooser after its turn.
abbrev pub by_priority : Ranking → Option ℕ → Option ℕ × Chooser
by_priority ranking None = (None, Ranked ranking)
by_priority ranking (Some thread) = (Some thread, Ranked (after_turn ranking thread))

-- ---- All of them

-- Returns the next choice, if there is one, and the chooser after it. The enabled threads are in rising order, and
-- a list gives its threads whether they are enabled or not.
abbrev pub next : Chooser → List ℕ → Option ℕ × Chooser
next (Listed []) enabled = (None, Listed [])
next (Listed (t ∷ threads)) enabled = (Some t, Listed threads)
next (RoundRobin quantum thread turns) enabled =
    (round_robin quantum thread turns enabled, after_choice quantum thread turns (round_robin quantum thread turns enabled))
next (Seeded generator) enabled = by_word generator enabled
next Alone enabled = (alone enabled, Alone)
next (Staying before last departures) enabled = stay_or_depart before last departures enabled
next (Ranked ranking) enabled = by_priority ranking (highest ranking enabled)

-- Returns a chooser with a predicted choice counted, which isn't a departure. Lists, random words, thread 0 and priorities
-- don't count.
abbrev pub with_choice : ℕ → Chooser → Chooser
with_choice chosen (Listed threads) = Listed threads
with_choice chosen (RoundRobin quantum thread turns) = after_choice quantum thread turns (Some chosen)
with_choice chosen (Seeded generator) = Seeded generator
with_choice chosen Alone = Alone
with_choice chosen (Staying before last departures) = Staying (pred before) chosen departures
with_choice chosen (Ranked ranking) = Ranked ranking

-- Returns a chooser with this number of choices of a thread counted.
unfoldable pub with_choices : ℕ → ℕ → Chooser → Chooser
with_choices zero chosen chooser = chooser
with_choices (suc times) chosen chooser = with_choices times chosen (with_choice chosen chooser)

-- Among this number of threads, one is the next choice for this number of consecutive turns, as long as it is
-- enabled. Which other threads are enabled doesn't matter.
unfoldable pub IsNextFor : ℕ → ℕ → ℕ → Chooser → Type 0
IsNextFor zero thread threads chooser = Unit {0}
IsNextFor (suc times) thread threads chooser =
    ((is_enabled : ℕ → Bool) → is_enabled thread ≡ true → next chooser (enabled_of is_enabled threads) ≡ (Some thread, with_choice thread chooser))
    × IsNextFor times thread threads (with_choice thread chooser)

-- Decides whether a thread may be enabled: it isn't marked as idle. A thread beyond the marks has none.
abbrev pub may_be_enabled : List Bool → ℕ → Bool
may_be_enabled idle thread = not (unwrap_or (slice_get idle thread) false)

-- Among this number of threads, one is the next choice if it is enabled and no idle thread is. Which other threads are
-- enabled doesn't matter.
unfoldable pub IsNextBeside : List Bool → ℕ → ℕ → Chooser → Type 0
IsNextBeside idle thread threads chooser =
    (is_enabled : ℕ → Bool) → ((t : ℕ) → is_enabled t ≡ true → may_be_enabled idle t ≡ true) → is_enabled thread ≡ true
    → next chooser (enabled_of is_enabled threads) ≡ (Some thread, with_choice thread chooser)

-- Decides whether the chooser chooses among all enabled threads.
abbrev pub asks : Chooser → Bool
asks (Listed threads) = false
asks (RoundRobin quantum thread turns) = true
asks (Seeded generator) = true
asks Alone = false
asks (Staying before last departures) = false
asks (Ranked ranking) = true

-- Decides whether random words name the chooser's threads, or their priorities do.
abbrev pub is_seeded : Chooser → Bool
is_seeded (Listed threads) = false
is_seeded (RoundRobin quantum thread turns) = false
is_seeded (Seeded generator) = true
is_seeded Alone = false
is_seeded (Staying before last departures) = false
is_seeded (Ranked ranking) = true
