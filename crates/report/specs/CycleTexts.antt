-- Defines the lines that explain a cycle (own). Each transaction has its thread, its method, and its first and last
-- event. Then each edge has its two conflicting events.
use Rattle.std.specs.Prelude.{ℕ, zero, suc, ◌+◌, ◌-◌, Bool, ◌==◌, cond, min, List, [], ◌∷◌, ◌++◌, codes, length, map, reverse, take, Option, Some, None, slice_get}
use Rattle.std.specs.Fmt.{decimal}
use Rattle.std.specs.List.{find, flat_map, range_with_len}
use Rattle.std.specs.Option.{option_and_then, option_or}
use Rattle.jvms_program.specs.declared.key.MethodKey.{MethodKey}
use Rattle.jvms_machine.specs.declared.trace.Item.{Item}
use Rattle.trace_text.specs.Traces.{item_line}
use Rattle.escapes.specs.Keys.{method_text}
use Rattle.velodrome.specs.declared.verdict.ConflictingPair.{ConflictingPair}
use Rattle.velodrome.specs.declared.verdict.Verdict.{Verdict}
use Rattle.velodrome.specs.declared.verdict.Verdict.TheVariants as verdict
use Rattle.jvms_machine.specs.Events.{thread_of}
use Rattle.velodrome.specs.Specification.{Specification, is_atomic}
use Rattle.velodrome.specs.Transactions.{TraceState, is_event, trace_state_of}

-- Returns the maximum number of transactions and edges that are explained.
abbrev pub most_explained : ℕ
most_explained = 64

-- A trace to be explained: the specification, the items, and the turn of each event if they are known.
pub record Explained : Type 0 where
  pub lines : Specification
  pub items : List Item
  pub turns : List ℕ

-- ---- Events

-- Returns the places, from n on, of the elements that pass a test.
abbrev pub places_where : {X : Type 0} → (X → Bool) → ℕ → List X → List ℕ
places_where test n [] = []
places_where test n (x ∷ xs) = cond (test x) (n ∷ places_where test (n + 1) xs) (places_where test (n + 1) xs)

-- Returns the places of the events among items, from 0.
abbrev pub event_places : List Item → List ℕ
event_places items = places_where is_event 0 items

-- Returns the numbers of a transaction's events, from 1. The list has the transaction of each event.
abbrev pub events_of_transaction : ℕ → List ℕ → List ℕ
events_of_transaction a transactions = places_where (λ b. b == a) 1 transactions

-- Returns the place of event n.
abbrev pub place_of_event : List Item → ℕ → Option ℕ
place_of_event items n = slice_get (event_places items) (n - 1)

-- Returns ` at turn K` if the turn is known. An event's name is `event N` with this text.
abbrev pub turn_text : Option ℕ → List ℕ
turn_text None = []
turn_text (Some turn) = codes " at turn " ++ decimal turn

abbrev pub event_name : List ℕ → ℕ → List ℕ
event_name turns n = codes "event " ++ decimal n ++ turn_text (slice_get turns (n - 1))

-- ---- Transactions

-- Returns the methods that a thread has open after these items, the innermost first.
abbrev pub open_methods : Specification → List Item → ℕ → List MethodKey
open_methods lines items t = ((trace_state_of lines items).threads t).methods

-- Returns the method that names a transaction: the outermost atomic one of these, or the innermost if none is atomic.
abbrev pub naming_method : Specification → List MethodKey → Option MethodKey
naming_method lines methods = option_or (find (is_atomic lines) (reverse methods)) (slice_get methods 0)

abbrev pub in_method_text : Option MethodKey → List ℕ
in_method_text None = []
in_method_text (Some m) = codes " in " ++ method_text m

-- Returns the text of the thread of the item at a place, and of the method that it is in.
abbrev pub actor_text : Explained → ℕ → Option Item → List ℕ
actor_text x place None = []
actor_text x place (Some i) =
    codes ": thread " ++ decimal (thread_of i)
    ++ in_method_text (naming_method x.lines (open_methods x.lines (take place x.items) (thread_of i)))

abbrev pub actor_at : Explained → Option ℕ → List ℕ
actor_at x None = []
actor_at x (Some place) = actor_text x place (slice_get x.items place)

-- Returns ` to event N`, unless that is the first event.
abbrev pub last_text : List ℕ → ℕ → Option ℕ → List ℕ
last_text turns first None = []
last_text turns first (Some last) = cond (last == first) [] (codes " to " ++ event_name turns last)

-- Returns the text of the first of a transaction's events, with its thread and method, and of the last.
abbrev pub span_text : Explained → List ℕ → Option ℕ → List ℕ
span_text x numbers None = []
span_text x numbers (Some first) =
    actor_at x (place_of_event x.items first) ++ codes ", " ++ event_name x.turns first
    ++ last_text x.turns first (slice_get numbers (length numbers - 1))

abbrev pub span_of : Explained → List ℕ → List ℕ
span_of x numbers = span_text x numbers (slice_get numbers 0)

-- Returns the transaction of each event.
abbrev pub transactions_of : Explained → List ℕ
transactions_of x = map (λ e. e.transaction) (trace_state_of x.lines x.items).events

abbrev pub transaction_line : Explained → ℕ → List ℕ
transaction_line x a =
    codes "transaction " ++ decimal a ++ span_of x (events_of_transaction a (transactions_of x)) ++ codes "\n"

-- ---- Edges

-- Returns the item at a place. An event's line has its name and its line of the trace.
abbrev pub item_at : List Item → Option ℕ → Option Item
item_at items None = None
item_at items (Some place) = slice_get items place

abbrev pub item_part : Option Item → List ℕ
item_part None = codes "\n"
item_part (Some i) = codes ": " ++ item_line i

abbrev pub event_line : Explained → ℕ → List ℕ
event_line x n = codes "  " ++ event_name x.turns n ++ item_part (item_at x.items (place_of_event x.items n))

-- Returns the lines of an edge: its two transactions and its two events.
abbrev pub edge_lines : Explained → ℕ → ℕ → ConflictingPair → List ℕ
edge_lines x a b p =
    decimal a ++ codes " before " ++ decimal b ++ codes "\n" ++ event_line x p.earlier ++ event_line x p.later

-- Returns the lines of the edge from the transaction at a place of a cycle to the next, or from the last to the first.
abbrev pub edge_between : Explained → Option ℕ → Option ℕ → Option ConflictingPair → List ℕ
edge_between x (Some a) (Some b) (Some p) = edge_lines x a b p
edge_between x a b p = []

abbrev pub next_in : List ℕ → ℕ → Option ℕ
next_in transactions k = option_or (slice_get transactions (k + 1)) (slice_get transactions 0)

abbrev pub edge_at : Explained → List ℕ → List ConflictingPair → ℕ → List ℕ
edge_at x transactions pairs k =
    edge_between x (slice_get transactions k) (next_in transactions k) (slice_get pairs k)

-- ---- Cycles

-- Returns the line with the number of transactions that aren't explained.
abbrev pub rest_line : ℕ → List ℕ
rest_line zero = []
rest_line (suc n) = codes "and " ++ decimal (suc n) ++ codes " more transactions\n"

abbrev pub transaction_lines : Explained → List ℕ → List ℕ
transaction_lines x transactions = flat_map (transaction_line x) (take most_explained transactions)

abbrev pub all_edge_lines : Explained → List ℕ → List ConflictingPair → List ℕ
all_edge_lines x transactions pairs =
    flat_map (edge_at x transactions pairs) (range_with_len 0 (min most_explained (length transactions)))

abbrev pub cycle_lines : Explained → List ℕ → List ConflictingPair → List ℕ
cycle_lines x transactions pairs =
    transaction_lines x transactions ++ all_edge_lines x transactions pairs ++ rest_line (length transactions - most_explained)

-- Returns the explanation of a verdict. It is empty if the trace has no cycle.
abbrev pub explanation : Explained → Verdict → List ℕ
explanation x (verdict.Atomic order) = []
explanation x (verdict.Cycle first_at transactions pairs) = cycle_lines x transactions pairs
