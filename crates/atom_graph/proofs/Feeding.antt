-- The result of feeding an item.
use Rattle.std.proofs.Common.{◌≡◌, ℕ, ◌+◌, ◌<◌, true, [], ◌∷◌, ◌++◌, length, Option, None, sym, ap, subst, ◌∙◌, arith}
use Rattle.jvms_program.specs.declared.key.MethodKey.{MethodKey}
use Rattle.jvms_machine.specs.declared.trace.Item.{Item}
use Rattle.jvms_machine.specs.declared.trace.Item.TheVariants as item
use Rattle.jvms_machine.specs.Events.{thread_of}
use Rattle.velodrome.specs.Transactions.{has_atomic, is_event, next_transaction}
use Rattle.thread_states.specs.ThreadStates.{thread_state_in}
use Rattle.accesses.proofs.Conflicting.{conflict_is_against}
use Rattle.atom_graph.specs.declared.stay.Stay.{Stay}
use Rattle.atom_graph.specs.declared.stored_trace.StoredTrace.{StoredTrace}
use Rattle.atom_graph.specs.declared.watch.Watch.{Watch}
use Rattle.atom_graph.specs.Checked.{IsChecker}
use Rattle.atom_graph.specs.Checking.{with_item}
use Rattle.atom_graph.specs.Reduced.{IsReady, MayClose}
use Rattle.atom_graph.specs.StoredTrace.{IsEntered, IsExited, IsHappened, IsSame, fed_of, ending_transaction, stay_of}
use Rattle.atom_graph.specs.Watched.{HasEnded, IsOn}
use Rattle.atom_graph.proofs.Checked.{begun_few, checker_entered, checker_event, checker_exited, checker_same, events_ready, exits_ready, fed_is, idle}

module _ (a a1 : StoredTrace) (v : Watch) (is : IsChecker a v) (same : IsSame a a1) where
  -- After memory was reserved the checker is still right.
  pub prepared : IsChecker a1 v
  prepared = checker_same a a1 v v is same (idle v)

  -- There is one more item.
  pub taken_fed : (b : StoredTrace) (i copy : Item) → copy ≡ i → b.threads.lines ≡ a1.threads.lines → b.items.items ≡ a1.items.items ++ copy ∷ [] → fed_of b ≡ with_item i (fed_of a)
  taken_fed b i copy copied lines items =
      fed_is a.threads.lines b.threads.lines (a.items.items ++ i ∷ []) b.items.items (lines ∙ same.lines)
      (items ∙ ap (λ j. a1.items.items ++ j ∷ []) copied ∙ ap (λ is. is ++ i ∷ []) same.items)

  pub entered_right : (b : StoredTrace) (t : ℕ) (m key : MethodKey) (i copy : Item) → i ≡ item.Enter t m → key ≡ m → copy ≡ i → IsEntered t key copy a1 b → IsChecker b v
  entered_right b t m key i copy entry keyed copied marked =
      checker_entered a1 v prepared b t m (subst (λ j. IsEntered t m j a1 b) (copied ∙ entry) (subst (λ k. IsEntered t k copy a1 b) keyed marked))

  pub exit_may_close : (t : ℕ) (over : Option ℕ) → over ≡ ending_transaction a1.threads.lines (thread_state_in a1.threads.table t) → v.found ≡ None → MayClose over v.reduced.graph
  exit_may_close t over over_is none = subst (λ o. MayClose o v.reduced.graph) (sym over_is) (exits_ready a1 v prepared t none)

  pub exited_right : (b : StoredTrace) (u : Watch) (t : ℕ) (m : MethodKey) (i copy : Item) (over : Option ℕ) → i ≡ item.Exit t m → copy ≡ i
      → over ≡ ending_transaction a1.threads.lines (thread_state_in a1.threads.table t) → HasEnded over v u → IsExited t copy a1 b → IsChecker b u
  exited_right b u t m i copy over exit copied over_is left marked =
      checker_exited a1 v prepared b u t m (subst (λ o. HasEnded o v u) over_is left) (subst (λ j. IsExited t j a1 b) (copied ∙ exit) marked)

  long : length a1.transactions.items ≡ length a.transactions.items
  long = ap length same.transactions

  -- If there are few events, few transactions have begun.
  pub begun_fits : length a.transactions.items < 100000000 → a1.begun < 9223372036854775808
  begun_fits few = let less = begun_few a v is in let begun = same.begun in omega arith

  -- The transaction of a thread's event, and whether the event begins it.
  abbrev IsNumbered : ℕ → ℕ → Type 0
  IsNumbered t n = n ≡ next_transaction (thread_state_in a1.threads.table t).transaction a1.begun

  abbrev IsStay : ℕ → Stay → Type 0
  IsStay t s = s ≡ stay_of (thread_state_in a1.threads.table t).transaction (has_atomic a1.threads.lines (thread_state_in a1.threads.table t).methods)

  abbrev n_at : Item → ℕ
  n_at i = next_transaction (thread_state_in a1.threads.table (thread_of i)).transaction a1.begun

  abbrev s_at : Item → Stay
  s_at i = stay_of (thread_state_in a1.threads.table (thread_of i)).transaction (has_atomic a1.threads.lines (thread_state_in a1.threads.table (thread_of i)).methods)

  pub event_may_be : (i : Item) (t n : ℕ) (s : Stay) → thread_of i ≡ t → is_event i ≡ true
      → n ≡ next_transaction (thread_state_in a1.threads.table t).transaction a1.begun
      → s ≡ stay_of (thread_state_in a1.threads.table t).transaction (has_atomic a1.threads.lines (thread_state_in a1.threads.table t).methods)
      → length a.transactions.items < 100000000 → v.found ≡ None → IsReady s n v.reduced.graph
  event_may_be i t n s of event numbered stays few none = subst (λ u. IsNumbered u n → IsStay u s → IsReady s n v.reduced.graph) of at numbered stays
    where
      at : IsNumbered (thread_of i) n → IsStay (thread_of i) s → IsReady s n v.reduced.graph
      at to_n to_s =
          let equal = long in
          subst (λ k. IsReady k n v.reduced.graph) (sym to_s)
          (subst (λ k. IsReady (s_at i) k v.reduced.graph) (sym to_n)
          (events_ready a1 v prepared i event conflict_is_against (omega arith) none))

  pub happened_right : (b : StoredTrace) (u : Watch) (i copy : Item) (t n number : ℕ) (s : Stay) → thread_of i ≡ t → is_event i ≡ true → copy ≡ i
      → n ≡ next_transaction (thread_state_in a1.threads.table t).transaction a1.begun
      → s ≡ stay_of (thread_state_in a1.threads.table t).transaction (has_atomic a1.threads.lines (thread_state_in a1.threads.table t).methods)
      → number ≡ length a.transactions.items + 1 → IsOn number n s i v u → IsHappened t n copy a1 b → IsChecker b u
  happened_right b u i copy t n number s of event copied numbered stays count on hap =
      subst (λ x. IsNumbered x n → IsStay x s → IsHappened x n i a1 b → IsChecker b u) of at numbered stays (subst (λ j. IsHappened t n j a1 b) copied hap)
    where
      at : IsNumbered (thread_of i) n → IsStay (thread_of i) s → IsHappened (thread_of i) n i a1 b → IsChecker b u
      at to_n to_s happens =
          checker_event a1 v prepared i event conflict_is_against b u
          (subst (λ k. IsOn k (n_at i) (s_at i) i v u) (count ∙ ap (λ k. k + 1) (sym long))
          (subst (λ k. IsOn number k (s_at i) i v u) to_n (subst (λ k. IsOn number n k i v u) to_s on)))
          (subst (λ k. IsHappened (thread_of i) k i a1 b) to_n happens)
