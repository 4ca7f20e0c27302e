-- Defines the rows of a picture (own): the events of a trace, each with its transaction.
use Rattle.std.specs.Prelude.{ℕ, ◌+◌, Bool, ◌==◌, ◌||◌, cond, nat_lt, List, [], ◌∷◌, length, take}
use Rattle.std.specs.List.{filter, list_any}
use Rattle.jvms_machine.specs.declared.trace.Item.{Item}
use Rattle.velodrome.specs.Transactions.{is_event}
use Rattle.velodrome.specs.declared.verdict.ConflictingPair.{ConflictingPair}
use Rattle.pictures.specs.declared.rows.Row.{Row}

-- Returns the maximum number of events that a picture shows.
abbrev pub most_rows : ℕ
most_rows = 200

-- Returns the events among items, with the transaction of each. The first event has number n, and the first item is at
-- `place`.
abbrev pub rows_from : ℕ → ℕ → List Item → List ℕ → List Row
rows_from n place [] ts = []
rows_from n place (i ∷ items) [] = []
rows_from n place (i ∷ items) (t ∷ ts) =
    cond (is_event i) (record { event = n; place = place; transaction = t } ∷ rows_from (n + 1) (place + 1) items ts)
    (rows_from n (place + 1) items (t ∷ ts))

-- Decides whether the transaction of a row is one of a cycle.
abbrev pub is_chosen : List ℕ → Row → Bool
is_chosen cycle row = list_any (λ t. t == row.transaction) cycle

-- Decides whether an edge joins the event of the row.
abbrev pub is_joined : List ConflictingPair → Row → Bool
is_joined edges row = list_any (λ (p : ConflictingPair). p.earlier == row.event || p.later == row.event) edges

-- Returns the rows that pass a test if there are more rows than a picture shows, else all.
abbrev pub thinned_rows : (Row → Bool) → List Row → List Row
thinned_rows test rows = cond (nat_lt most_rows (length rows)) (filter test rows) rows

-- Returns the rows of a cycle if there are too many rows, and those that its edges join if these are still too many.
-- Without a cycle it returns all rows.
abbrev pub rows_in : List ℕ → List ConflictingPair → List Row → List Row
rows_in cycle edges rows =
    cond (nat_lt 0 (length cycle)) (thinned_rows (is_joined edges) (thinned_rows (is_chosen cycle) rows)) rows

abbrev pub chosen_rows : List ℕ → List ConflictingPair → List Row → List Row
chosen_rows cycle edges rows = take most_rows (rows_in cycle edges rows)
