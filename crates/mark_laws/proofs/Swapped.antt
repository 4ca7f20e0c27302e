-- What swaps of marks leave as it is: the state of a trace, and that its exits match.
use Rattle.std.proofs.Common.{◌≡◌, inl, inr, true, List, [], ◌∷◌, ◌++◌, fold, refl, sym, ap, ◌∙◌, ⊎_elim, subst}
use Rattle.jvms_machine.specs.declared.trace.Item.{Item}
use Rattle.jvms_machine.specs.declared.trace.Item.TheVariants as item
use Rattle.jvms_machine.specs.Events.{thread_of}
use Rattle.run_item_laws.specs.Feeding.{AreMatched}
use Rattle.run_item_laws.proofs.Matching.{AllMatched, matched_at}
use Rattle.velodrome.specs.Specification.{Specification}
use Rattle.velodrome.specs.Transactions.{ThreadState, TraceState, is_innermost, is_matched, opening_trace_state, state_after_item, trace_state_of}
use Rattle.mark_laws.specs.Swaps.{AreSwaps, MaySwap, Same, Swap}
use Rattle.mark_laws.proofs.Steps.{keeps_other, steps_swap}

other_way : (a b : Item) → MaySwap a b → MaySwap b a
other_way a b may = (λ is. may.0 (sym is), ⊎_elim (λ mark. inr mark) (λ mark. inl mark) may.1)

module _ (lines : Specification) where
  pub fold_swap : (before after : List Item) (a b : Item) (w : TraceState) → MaySwap a b → fold (state_after_item lines) w (before ++ a ∷ b ∷ after) ≡ fold (state_after_item lines) w (before ++ b ∷ a ∷ after)
  fold_swap [] after a b w may = ap (λ x. fold (state_after_item lines) x after) (steps_swap lines w a b may)
  fold_swap (i ∷ before) after a b w may = fold_swap before after a b (state_after_item lines w i) may

  pub same_fold : (items others : List Item) (w : TraceState) → AreSwaps items others → fold (state_after_item lines) w items ≡ fold (state_after_item lines) w others
  same_fold items others w (Same same) = refl
  same_fold items others w (Swap before after a b others' may rest) = fold_swap before after a b w may ∙ same_fold (before ++ b ∷ a ∷ after) others w rest

  -- ---- Matched items

  matched_by : (w x : TraceState) (i : Item) → (x.threads (thread_of i)).methods ≡ (w.threads (thread_of i)).methods → is_matched x i ≡ is_matched w i
  matched_by w x (item.Exit t m) same = ap (is_innermost m) same
  matched_by w x (item.Enter t m) same = refl
  matched_by w x (item.Read t v) same = refl
  matched_by w x (item.Write t v) same = refl
  matched_by w x (item.Acquire t r) same = refl
  matched_by w x (item.Release t r) same = refl
  matched_by w x (item.Fork t u) same = refl
  matched_by w x (item.Join t u) same = refl

  after_other : (w : TraceState) (a b : Item) → (thread_of a ≡ thread_of b → ⊥) → is_matched (state_after_item lines w a) b ≡ is_matched w b
  after_other w a b differ = matched_by w (state_after_item lines w a) b (ap (λ (thread : ThreadState). thread.methods) (keeps_other lines w a (thread_of b) differ))

  pub all_swap : (before after : List Item) (a b : Item) (w : TraceState) → MaySwap a b → AllMatched lines w (before ++ a ∷ b ∷ after) → AllMatched lines w (before ++ b ∷ a ∷ after)
  all_swap [] after a b w may all =
      (sym (after_other w a b may.0) ∙ all.1.0, (after_other w b a (λ is. may.0 (sym is)) ∙ all.0, subst (λ x. AllMatched lines x after) (steps_swap lines w a b may) all.1.1))
  all_swap (i ∷ before) after a b w may all = (all.0, all_swap before after a b (state_after_item lines w i) may all.1)

  pub all_matched : (items others : List Item) (w : TraceState) → AreSwaps items others → AllMatched lines w items → AllMatched lines w others
  all_matched items others w (Same same) all = all
  all_matched items others w (Swap before after a b others' may rest) all = all_matched (before ++ b ∷ a ∷ after) others w rest (all_swap before after a b w may all)

  -- Items that are matched wherever they stand are all matched.
  matched_here : (items : List Item) (w : TraceState) → ((before after : List Item) (i : Item) → items ≡ before ++ i ∷ after → is_matched (fold (state_after_item lines) w before) i ≡ true) → AllMatched lines w items
  matched_here [] w each = tt
  matched_here (i ∷ items) w each = (each [] items i refl, matched_here items (state_after_item lines w i) (λ before after j parts. each (i ∷ before) after j (ap (λ rest. i ∷ rest) parts)))

  pub are_matched : (items others : List Item) → AreSwaps items others → AreMatched lines items → AreMatched lines others
  unfolding trace_state_of
  are_matched items others swaps matched before after i parts =
      matched_at lines opening_trace_state before after i
      (subst (AllMatched lines opening_trace_state) parts (all_matched items others opening_trace_state swaps (matched_here items opening_trace_state matched)))

  pub same_state : (items others : List Item) → AreSwaps items others → trace_state_of lines items ≡ trace_state_of lines others
  unfolding trace_state_of
  same_state items others swaps = same_fold items others opening_trace_state swaps

-- ---- Swaps as a relation

pub keeps_first : (i : Item) (items others : List Item) → AreSwaps items others → AreSwaps (i ∷ items) (i ∷ others)
keeps_first i items others (Same same) = Same (i ∷ same)
keeps_first i items others (Swap before after a b others' may rest) = Swap (i ∷ before) after a b (i ∷ others) may (keeps_first i (before ++ b ∷ a ∷ after) others rest)

pub one_after_another : (items others more : List Item) → AreSwaps items others → AreSwaps others more → AreSwaps items more
one_after_another items others more (Same same) second = second
one_after_another items others more (Swap before after a b others' may rest) second = Swap before after a b more may (one_after_another (before ++ b ∷ a ∷ after) others more rest second)

pub one_swap : (before after : List Item) (a b : Item) → MaySwap a b → AreSwaps (before ++ a ∷ b ∷ after) (before ++ b ∷ a ∷ after)
one_swap before after a b may = Swap before after a b (before ++ b ∷ a ∷ after) may (Same (before ++ b ∷ a ∷ after))

pub backwards : (items others : List Item) → AreSwaps items others → AreSwaps others items
backwards items others (Same same) = Same same
backwards items others (Swap before after a b others' may rest) =
    one_after_another others (before ++ b ∷ a ∷ after) (before ++ a ∷ b ∷ after) (backwards (before ++ b ∷ a ∷ after) others rest) (one_swap before after b a (other_way a b may))
