-- The items of a run may be fed to a checker of atomicity.
use Rattle.std.proofs.Common.{◌≡◌, ℕ, zero, suc, ◌+◌, ◌<◌, ◌≤◌, take, drop, get_or, Bool, true, false, not, ◌&&◌, List, [], ◌∷◌, ◌++◌, length, refl, sym, ap, ◌∙◌, arith, append_assoc}
use Rattle.std.specs.Prelude.{IsTrue, nat_le, if◌then◌else◌, Option, Some, None, slice_get}
use Rattle.std.proofs.lemmas.Bool.{lt-leb}
use Rattle.std.proofs.lemmas.List.{take_more}
use Rattle.std.proofs.lemmas.Option.{none-some, same_Some, slice_get-get_or}
use Rattle.jvms_program.specs.declared.program.Class.{Class}
use Rattle.jvms_program.specs.Program.{IsProgram}
use Rattle.jvms_machine.specs.declared.machine.Limits.{Limits}
use Rattle.jvms_machine.specs.declared.trace.Item.{Item}
use Rattle.jvms_machine.specs.Limits.{are_limits}
use Rattle.jvms_machine.specs.Opening.{opening}
use Rattle.jvms_machine.specs.Run.{run_from}
use Rattle.jvms_machine.specs.Start.{IsStart, Start}
use Rattle.velodrome.specs.Specification.{Specification}
use Rattle.velodrome.specs.Transactions.{is_event, is_matched, trace_state_of}
use Rattle.run_item_laws.proofs.EventCounts.{events_among, events_append, run_begins_with_few_events, trace_state_counts}
use Rattle.run_item_laws.proofs.Runs.{items_are_matched}
use Rattle.atom_graph.specs.declared.fault.FeedFault.{FeedFault}
use Rattle.atom_graph.specs.declared.fault.FeedFault.TheVariants as fault
use Rattle.atom_graph.specs.Checking.{Fed, fault_of}
use Rattle.program_runs.specs.Judgements.{MayBeFed, MayFollow, with_items}

-- The fault of an item, by the checker's two tests.
abbrev fault_by : Bool → Bool → Option FeedFault
fault_by matched many = if not matched then Some fault.Unmatched else if many then Some fault.TooMany else None

one_event : (i : Item) → is_event i ≡ true → events_among (i ∷ []) ≡ 1
one_event i is = rw is refl

few_or_mark : (event : Bool) (n : ℕ) → (event ≡ true → n < 100000000) → event && nat_le 100000000 n ≡ false
few_or_mark true n below = lt-leb 100000000 n (below refl)
few_or_mark false n below = refl

no_fault : (lines : Specification) (before : List Item) (i : Item) → is_matched (trace_state_of lines before) i ≡ true → (is_event i ≡ true → length (trace_state_of lines before).events < 100000000) → fault_of (record { lines = lines; items = before }) i ≡ None
no_fault lines before i matched below =
    let few = few_or_mark (is_event i) (length (trace_state_of lines before).events) below in
    ap (λ b. fault_by b (is_event i && nat_le 100000000 (length (trace_state_of lines before).events))) matched ∙ ap (fault_by true) few

-- An event is one more than the events before it.
events_before : (lines : Specification) (before : List Item) (i : Item) (most : ℕ) → length (trace_state_of lines (before ++ i ∷ [])).events ≤ most → is_event i ≡ true → length (trace_state_of lines before).events < most
events_before lines before i most few event =
    let all = trace_state_counts lines (before ++ i ∷ []) in
    let first = trace_state_counts lines before in
    let sum = events_append before (i ∷ []) in
    let one = one_event i event in
    omega arith

-- The items of a run that isn't too long may be fed.
pub run_may_be_fed : (lines : Specification) (program : List Class) (limits : Limits) (start : Start) (choices : List ℕ) → IsProgram program → IsTrue (are_limits limits) → IsStart start → length choices ≤ 100000000 → MayBeFed lines (run_from program limits start (opening program) choices).items
run_may_be_fed lines program limits start choices is are starts short =
    λ before after i parts.
    no_fault lines before i (items_are_matched lines program limits start is are starts choices before after i parts)
    (λ event. events_before lines before i 100000000
    (let few = run_begins_with_few_events lines program limits start (opening program) choices (before ++ i ∷ []) after (parts ∙ sym (append_assoc before (i ∷ []) after)) in omega arith)
    event)

split_at : (items : List Item) (k : ℕ) (i : Item) → slice_get items k ≡ Some i → items ≡ take k items ++ i ∷ drop (suc k) items
split_at [] k i is = absurd (none-some i is)
split_at (x ∷ xs) zero i is = ap (λ y. y ∷ xs) (same_Some x i is)
split_at (x ∷ xs) (suc k) i is = ap (λ l. x ∷ l) (split_at xs k i is)

-- Nothing is at fault with the next item.
pub next_follows : (fed : Fed) (items : List Item) (k : ℕ) (i : Item) → MayFollow fed items → k < length items → i ≡ get_or items k i → fault_of (with_items (take k items) fed) i ≡ None
next_follows fed items k i may below is =
    may (take k items) (drop (suc k) items) i (split_at items k i (slice_get-get_or items k i below ∙ ap Some (sym is)))

-- The items up to an index, and the one at it.
pub with_next : (items : List Item) (k : ℕ) (i : Item) → k < length items → i ≡ get_or items k i → take (k + 1) items ≡ take k items ++ i ∷ []
with_next items k i below is = take_more items k i below ∙ ap (λ x. take k items ++ x ∷ []) (sym is)

-- A checker that takes items takes the first of them, and then the others.
pub others_follow : (fed : Fed) (first more : List Item) → MayFollow fed (first ++ more) → MayFollow (with_items first fed) more
others_follow fed first more may = λ before after i parts.
    ap (λ l. fault_of (record { lines = fed.lines; items = l }) i) (append_assoc fed.items first before)
    ∙ may (first ++ before) after i (ap (λ l. first ++ l) parts ∙ sym (append_assoc first before (i ∷ after)))
