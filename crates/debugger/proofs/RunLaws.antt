-- The machine, the items and the last outcome after the first n choices, as n grows, and along other choices with the
-- same prefix.
use Rattle.std.proofs.Common.{◌≡◌, ℕ, zero, suc, ◌+◌, ◌-◌, ◌≤◌, List, [], ◌∷◌, ◌++◌, length, take, drop, replicate, Option, Some, None, IsSome, rules, refl, sym, ap, ◌∙◌, arith}
use Rattle.std.proofs.lemmas.List.{length-append}
use Rattle.std.proofs.Math.Seq.{take-append_seam, drop-append_seam}
use Rattle.std.specs.Option.{unwrap_or}
use Rattle.jvms_machine.specs.declared.machine.Outcome.{Outcome}
use Rattle.jvms_machine.specs.declared.trace.Item.{Item}
use Rattle.jvms_machine.specs.Opening.{opening}
use Rattle.jvms_machine.specs.Run.{RunResult, joined_results, run_from, run}
use Rattle.jvms_machine.proofs.RunLaws.{run_append}
use Rattle.machine.specs.Machine.{Machine, with_state}
use Rattle.machine.specs.Runs.{run_of}
use Rattle.trace.specs.Recording.{count_of, with_items}
use Rattle.debugger_commands.specs.Sessions.{state_after}
use Rattle.debugger.specs.declared.mark.Mark.{Mark}
use Rattle.debugger.specs.Marks.{mark_at}
use Rattle.debugger.specs.States.{Setting, setting_of, machine_at, items_at, outcome_at, last_outcome}
use Rattle.debugger.specs.Walks.{items_between, turns_of}

-- Returns the result of the first n choices.
abbrev result_at : Setting → List ℕ → ℕ → RunResult
result_at g cs n = run g.program g.limits g.start (take n cs)

-- ---- More choices

result_more : (g : Setting) (cs ts : List ℕ) (n m : ℕ) → take m cs ≡ take n cs ++ ts → result_at g cs m ≡ joined_results (result_at g cs n) (run_of (machine_at g cs n) ts)
unfolding state_after
result_more g cs ts n m is = ap (run g.program g.limits g.start) is ∙ run_append g.program g.limits g.start (opening g.program) (take n cs) ts

pub machine_more : (g : Setting) (cs ts : List ℕ) (n m : ℕ) → take m cs ≡ take n cs ++ ts → machine_at g cs m ≡ with_state (machine_at g cs n) (run_of (machine_at g cs n) ts).state
unfolding state_after
machine_more g cs ts n m is =
    ap (λ (r : RunResult). let x : Machine = record { program = g.program; limits = g.limits; start = g.start; state = r.state } in x) (result_more g cs ts n m is)

pub items_more : (g : Setting) (cs ts : List ℕ) (n m : ℕ) → take m cs ≡ take n cs ++ ts → items_at g cs m ≡ items_at g cs n ++ (run_of (machine_at g cs n) ts).items
unfolding state_after items_at
items_more g cs ts n m is = ap (λ (r : RunResult). r.items) (result_more g cs ts n m is)

last_append : (xs ys : List Outcome) (o : Outcome) → last_outcome ys ≡ Some o → last_outcome (xs ++ ys) ≡ Some o
last_append [] ys o is = is
last_append (x ∷ xs) ys o is = ap (λ y. Some (unwrap_or y x)) (last_append xs ys o is)

pub outcome_more : (g : Setting) (cs ts : List ℕ) (n m : ℕ) (o : Outcome) → take m cs ≡ take n cs ++ ts → last_outcome (run_of (machine_at g cs n) ts).outcomes ≡ Some o → outcome_at g cs m ≡ Some o
unfolding state_after outcome_at
outcome_more g cs ts n m o is last =
    ap (λ (r : RunResult). last_outcome r.outcomes) (result_more g cs ts n m is) ∙ last_append (result_at g cs n).outcomes (run_of (machine_at g cs n) ts).outcomes o last

-- ---- Consecutive turns of a thread

-- The mark after consecutive turns.
pub mark_more : (g : Setting) (cs : List ℕ) (n m k t : ℕ) (mark : Mark) (after : Machine) (items : ℕ) (o : Option Outcome) (last : Outcome) → take m cs ≡ take n cs ++ replicate k t → mark ≡ mark_at g cs n
    → after ≡ with_state mark.machine (turns_of mark.machine t k).state → o ≡ Some last → last_outcome (turns_of mark.machine t k).outcomes ≡ Some last
    → items ≡ length (items_at g cs m)
    → (let x : Mark = record { machine = after; items = items; outcome = o } in x ≡ mark_at g cs m)
mark_more g cs n m k t mark after items o last is here state o_is last_is items_are =
    let machine : mark.machine ≡ machine_at g cs n = ap (λ (x : Mark). x.machine) here in
    let now : after ≡ machine_at g cs m =
    state ∙ ap (λ (x : Machine). with_state x (turns_of x t k).state) machine ∙ sym (machine_more g cs (replicate k t) n m is) in
    let outcome : o ≡ outcome_at g cs m =
    o_is ∙ sym (outcome_more g cs (replicate k t) n m last is (ap (λ (x : Machine). last_outcome (turns_of x t k).outcomes) (sym machine) ∙ last_is)) in
    ap (λ (x : Machine). let y : Mark = record { machine = x; items = items; outcome = o } in y) now
    ∙ ap (λ i. let y : Mark = record { machine = machine_at g cs m; items = i; outcome = o } in y) items_are
    ∙ ap (λ x. let y : Mark = record { machine = machine_at g cs m; items = length (items_at g cs m); outcome = x } in y) outcome

-- The items of consecutive turns.
pub between_more : (g : Setting) (cs : List ℕ) (n m k t : ℕ) (mark : Mark) → take m cs ≡ take n cs ++ replicate k t → mark ≡ mark_at g cs n → (turns_of mark.machine t k).items ≡ items_between g cs n m
between_more g cs n m k t mark is here =
    let machine : mark.machine ≡ machine_at g cs n = ap (λ (x : Mark). x.machine) here in
    ap (λ (x : Machine). (turns_of x t k).items) machine
    ∙ sym (drop-append_seam (items_at g cs n) (turns_of (machine_at g cs n) t k).items)
    ∙ ap (drop (length (items_at g cs n))) (sym (items_more g cs (replicate k t) n m is))

-- The number of items after consecutive turns.
pub count_more : (g : Setting) (cs : List ℕ) (n m k t : ℕ) (mark : Mark) → take m cs ≡ take n cs ++ replicate k t → mark ≡ mark_at g cs n → mark.items + length (turns_of mark.machine t k).items ≡ length (items_at g cs m)
count_more g cs n m k t mark is here =
    let before : mark.items ≡ length (items_at g cs n) = ap (λ (x : Mark). x.items) here in
    let machine : mark.machine ≡ machine_at g cs n = ap (λ (x : Mark). x.machine) here in
    let many : length (items_at g cs m) ≡ length (items_at g cs n) + length (turns_of (machine_at g cs n) t k).items =
    ap length (items_more g cs (replicate k t) n m is) ∙ length-append (items_at g cs n) (turns_of (machine_at g cs n) t k).items in
    let same : length (turns_of mark.machine t k).items ≡ length (turns_of (machine_at g cs n) t k).items = ap (λ (x : Machine). length (turns_of x t k).items) machine in
    omega arith

-- The number of items that were appended to those that are kept.
pub count_added : (r more : Option (List Item)) (items : List Item) → IsSome r → more ≡ with_items r items → count_of more - count_of r ≡ length items
count_added None more items kept is = let no : ⊥ = search (rules, kept) in absurd no
count_added (Some before) more items kept is =
    let many : count_of more ≡ length before + length items = ap count_of is ∙ length-append before items in
    omega arith

-- The setting doesn't change.
pub setting_stays : (g : Setting) (cs : List ℕ) (n : ℕ) (mark : Mark) → mark ≡ mark_at g cs n → setting_of mark.machine ≡ g
setting_stays g cs n mark is = ap (λ (m : Mark). setting_of m.machine) is

-- ---- Items of fewer choices

take_drop_more : (cs : List ℕ) (n m : ℕ) → n ≤ m → (ts : List ℕ) × (take m cs ≡ take n cs ++ ts)
take_drop_more cs n m h = (drop n (take m cs), split cs n m h)
  where
    split : (cs : List ℕ) (n m : ℕ) → n ≤ m → take m cs ≡ take n cs ++ drop n (take m cs)
    split cs zero m h = refl
    split [] (suc n) zero h = refl
    split [] (suc n) (suc m) h = refl
    split (c ∷ cs) (suc n) zero h = let no : ⊥ = omega arith in absurd no
    split (c ∷ cs) (suc n) (suc m) h = ap (λ l. c ∷ l) (split cs n m (omega arith))

-- The items of more choices begin with those of fewer.
pub items_split : (g : Setting) (cs : List ℕ) (n m : ℕ) → n ≤ m → items_at g cs m ≡ items_at g cs n ++ items_between g cs n m
items_split g cs n m h =
    let more = take_drop_more cs n m h in
    let items = items_more g cs more.0 n m more.1 in
    items ∙ ap (λ l. items_at g cs n ++ l) (sym (drop-append_seam (items_at g cs n) (run_of (machine_at g cs n) more.0).items))
    ∙ ap (λ l. items_at g cs n ++ drop (length (items_at g cs n)) l) (sym items)

pub items_fewer : (g : Setting) (cs : List ℕ) (n m : ℕ) → n ≤ m → length (items_at g cs n) ≤ length (items_at g cs m)
items_fewer g cs n m h =
    let many : length (items_at g cs m) ≡ length (items_at g cs n) + length (items_between g cs n m) = ap length (items_split g cs n m h) ∙ length-append (items_at g cs n) (items_between g cs n m) in
    omega arith

pub items_cut : (g : Setting) (cs : List ℕ) (n m : ℕ) → n ≤ m → take (length (items_at g cs n)) (items_at g cs m) ≡ items_at g cs n
items_cut g cs n m h = ap (take (length (items_at g cs n))) (items_split g cs n m h) ∙ take-append_seam (items_at g cs n) (items_between g cs n m)

-- ---- Other choices with the same prefix

result_same : (g : Setting) (cs ds : List ℕ) (n : ℕ) → take n cs ≡ take n ds → result_at g cs n ≡ result_at g ds n
result_same g cs ds n h = ap (run g.program g.limits g.start) h

pub mark_same : (g : Setting) (cs ds : List ℕ) (n : ℕ) → take n cs ≡ take n ds → mark_at g cs n ≡ mark_at g ds n
unfolding state_after items_at outcome_at
mark_same g cs ds n h =
    ap (λ (r : RunResult). let m : Mark = record { machine = record { program = g.program; limits = g.limits; start = g.start; state = r.state }; items = length r.items; outcome = last_outcome r.outcomes } in m) (result_same g cs ds n h)

pub items_same : (g : Setting) (cs ds : List ℕ) (n : ℕ) → take n cs ≡ take n ds → items_at g cs n ≡ items_at g ds n
unfolding items_at
items_same g cs ds n h = ap (λ (r : RunResult). r.items) (result_same g cs ds n h)

-- The items of a prefix, followed by those of other choices after it.
pub items_joined : (g : Setting) (old new : List ℕ) (position far reach count : ℕ) (trace items all : List Item) → position ≤ far → count ≡ length (items_at g old position) → take position old ≡ take position new
    → trace ≡ items_at g old far → items_at g new reach ≡ items_at g new position ++ items → all ≡ take count trace ++ items
    → all ≡ items_at g new reach
items_joined g old new position far reach count trace items all within count_is same trace_is items_are all_is =
    let front : take count trace ≡ items_at g new position =
    ap (take count) trace_is ∙ ap (λ k. take k (items_at g old far)) count_is ∙ items_cut g old position far within ∙ items_same g old new position same in
    all_is ∙ ap (λ l. l ++ items) front ∙ sym items_are

-- ---- Before the first choice

pub mark_opening : (g : Setting) (cs : List ℕ) → (let m : Mark = record { machine = record { program = g.program; limits = g.limits; start = g.start; state = opening g.program }; items = 0; outcome = None } in m ≡ mark_at g cs 0)
unfolding state_after items_at outcome_at run_from
mark_opening g cs = refl

pub items_none : (g : Setting) (cs : List ℕ) → items_at g cs 0 ≡ []
unfolding items_at run_from
items_none g cs = refl
