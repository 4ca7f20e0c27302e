-- The rows of consecutive events.
use Rattle.std.proofs.Common.{◌≡◌, ℕ, ◌+◌, ◌<◌, ◌≤◌, Bool, true, false, cond, List, [], ◌∷◌, ◌++◌, length, drop, get_or, refl, sym, ap, ◌∙◌, append_assoc, append-nil}
use Rattle.std.proofs.lemmas.List.{drop_all, drop_more}
use Rattle.jvms_machine.specs.declared.trace.Item.{Item}
use Rattle.velodrome.specs.Transactions.{is_event}
use Rattle.pictures.specs.declared.rows.Row.{Row}
use Rattle.pictures.specs.Rows.{rows_from}

-- Without a transaction there is no row.
pub no_rows : (n place : ℕ) (items : List Item) → rows_from n place items [] ≡ []
no_rows n place [] = refl
no_rows n place (i ∷ items) = refl

abbrev row_of : ℕ → ℕ → ℕ → Row
row_of n place t = record { event = n; place = place; transaction = t }

here : (items : List Item) (k : ℕ) (i : Item) → k < length items → i ≡ get_or items k i → drop k items ≡ i ∷ drop (k + 1) items
here items k i within is = drop_more items k i within ∙ ap (λ x. x ∷ drop (k + 1) items) (sym is)

event_first : (b : Bool) (n place t : ℕ) (items : List Item) (ts : List ℕ) → b ≡ true
    → cond b (row_of n place t ∷ rows_from (n + 1) (place + 1) items ts) (rows_from n (place + 1) items (t ∷ ts)) ≡ row_of n place t ∷ rows_from (n + 1) (place + 1) items ts
event_first true n place t items ts is = refl
event_first false n place t items ts is = absurd (Rattle.std.proofs.lemmas.Bool.true≢false (sym is))

mark_first : (b : Bool) (n place t : ℕ) (items : List Item) (ts : List ℕ) → b ≡ false
    → cond b (row_of n place t ∷ rows_from (n + 1) (place + 1) items ts) (rows_from n (place + 1) items (t ∷ ts)) ≡ rows_from n (place + 1) items (t ∷ ts)
mark_first false n place t items ts is = refl
mark_first true n place t items ts is = absurd (Rattle.std.proofs.lemmas.Bool.true≢false is)

-- A mark is no row.
pub after_mark : (n place : ℕ) (i : Item) (items : List Item) (ts : List ℕ) → is_event i ≡ false → rows_from n place (i ∷ items) ts ≡ rows_from n (place + 1) items ts
after_mark n place i items [] is = sym (no_rows n (place + 1) items)
after_mark n place i items (t ∷ ts) is = mark_first (is_event i) n place t items ts is

-- The rows so far, followed by those of the remaining items, are all rows.
abbrev pub AreRows : List Row → ℕ → ℕ → List Item → List ℕ → List ℕ → Type 0
AreRows rows n place items rest ts = rows ++ rows_from n place (drop place items) rest ≡ rows_from 1 0 items ts

pub one_mark : (rows : List Row) (n place : ℕ) (items : List Item) (rest ts : List ℕ) (i : Item) → AreRows rows n place items rest ts
    → place < length items → i ≡ get_or items place i → is_event i ≡ false → AreRows rows n (place + 1) items rest ts
one_mark rows n place items rest ts i are within is mark =
    ap (λ l. rows ++ l) (sym (ap (λ l. rows_from n place l rest) (here items place i within is) ∙ after_mark n place i (drop (place + 1) items) rest mark)) ∙ are

pub one_row : (rows more : List Row) (n place : ℕ) (items : List Item) (rest others ts : List ℕ) (i : Item) (t : ℕ) → AreRows rows n place items rest ts
    → place < length items → i ≡ get_or items place i → is_event i ≡ true → rest ≡ t ∷ others → more ≡ rows ++ row_of n place t ∷ [] → AreRows more (n + 1) (place + 1) items others ts
one_row rows more n place items rest others ts i t are within is event rest_is more_is =
    ap (λ l. l ++ rows_from (n + 1) (place + 1) (drop (place + 1) items) others) more_is
    ∙ append_assoc rows (row_of n place t ∷ []) (rows_from (n + 1) (place + 1) (drop (place + 1) items) others)
    ∙ ap (λ l. rows ++ l) (sym (
    ap (λ l. rows_from n place l rest) (here items place i within is)
    ∙ ap (λ l. rows_from n place (i ∷ drop (place + 1) items) l) rest_is
    ∙ event_first (is_event i) n place t (drop (place + 1) items) others event
    )) ∙ are

pub no_more : (rows : List Row) (n place : ℕ) (items : List Item) (rest ts : List ℕ) → AreRows rows n place items rest ts → length items ≤ place → rows ≡ rows_from 1 0 items ts
no_more rows n place items rest ts are past =
    sym (append-nil rows) ∙ ap (λ l. rows ++ l) (sym (ap (λ l. rows_from n place l rest) (drop_all place items past))) ∙ are

pub none_left : (rows : List Row) (n place : ℕ) (items : List Item) (rest ts : List ℕ) → AreRows rows n place items rest ts → rest ≡ [] → rows ≡ rows_from 1 0 items ts
none_left rows n place items rest ts are none =
    sym (append-nil rows) ∙ ap (λ l. rows ++ l) (sym (ap (rows_from n place (drop place items)) none ∙ no_rows n place (drop place items))) ∙ are
