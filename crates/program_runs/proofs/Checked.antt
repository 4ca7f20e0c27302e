-- Turns of a chooser, taken some at a time, whose items are fed to a checker.
use Rattle.std.proofs.Common.{◌≡◌, ℕ, ◌+◌, ◌-◌, ◌<◌, ◌≤◌, List, [], ◌++◌, length, ap, sym, ◌∙◌, subst, arith, append_assoc, append-nil}
use Rattle.std.proofs.lemmas.List.{length-append}
use Rattle.jvms_machine.specs.declared.trace.Item.{Item}
use Rattle.jvms_machine.specs.Run.{joined_results, run_from}
use Rattle.jvms_machine.proofs.RunLaws.{run_append}
use Rattle.runs.specs.machine.Machine.{Machine, with_state}
use Rattle.runs.specs.machine.Runs.{run_of}
use Rattle.runs.specs.schedule.Choosers.{Chooser}
use Rattle.runs.specs.Choices.{choices_from, chooser_after_choices}
use Rattle.runs.proofs.ChosenTurns.{nothing_behind, nothing_left}
use Rattle.runs.proofs.Continued.{continues, ends, machine_after_choices, rest_of}
use Rattle.atom_graph.specs.Checking.{Fed}
use Rattle.program_runs.specs.Judgements.{IsOpened, MayFollow, with_items}
use Rattle.program_runs.proofs.Fed.{others_follow}
use Rattle.program_runs.proofs.ShownRuns.{opened_may_be_fed}

-- Returns the items of the choices that a chooser gives.
abbrev pub items_behind : ℕ → Chooser → Machine → List Item
items_behind most chooser m = (run_of m (choices_from most chooser m)).items

-- All choices that a chooser gives, up to this number, were taken and checked.
pub record AreChecked (before : Machine) (first : Chooser) (fresh : Fed) (asked : ℕ) (m : Machine) (chooser : Chooser) (fed : Fed) : Type 0 where
  pub machine_is : m ≡ machine_after_choices asked first before
  pub chooser_is : chooser ≡ chooser_after_choices asked first before
  pub fed_is : fed ≡ with_items (items_behind asked first before) fresh

-- All choices that a chooser gives, up to this number, were taken and checked, and they are as many as the number.
pub record AreTaken (before : Machine) (first : Chooser) (fresh : Fed) (most taken : ℕ) (m : Machine) (chooser : Chooser) (fed : Fed) : Type 0 where
  pub within : taken ≤ most
  pub full : length (choices_from taken first before) ≡ taken
  pub checked : AreChecked before first fresh taken m chooser fed

-- The run of the first choices, followed by that of the others.
run_both : (a b : ℕ) (first : Chooser) (before : Machine) → length (choices_from a first before) ≡ a
    → run_of before (choices_from (a + b) first before) ≡ joined_results (run_of before (choices_from a first before)) (run_of (machine_after_choices a first before) (rest_of a b first before))
run_both a b first before full =
    ap (λ l. run_of before l) (continues a b first before full).0
    ∙ run_append before.program before.limits before.start before.state (choices_from a first before) (rest_of a b first before)

items_both : (a b : ℕ) (first : Chooser) (before : Machine) → length (choices_from a first before) ≡ a
    → items_behind (a + b) first before ≡ items_behind a first before ++ items_behind b (chooser_after_choices a first before) (machine_after_choices a first before)
items_both a b first before full = ap (λ r. r.items) (run_both a b first before full)

checked_both : (before : Machine) (first : Chooser) (fresh : Fed) (a b : ℕ) → length (choices_from a first before) ≡ a
    → AreChecked before first fresh (a + b) (machine_after_choices b (chooser_after_choices a first before) (machine_after_choices a first before)) (chooser_after_choices b (chooser_after_choices a first before) (machine_after_choices a first before))
    (with_items (items_behind b (chooser_after_choices a first before) (machine_after_choices a first before)) (with_items (items_behind a first before) fresh))
checked_both before first fresh a b full =
    let xs = items_behind a first before in
    let ys = items_behind b (chooser_after_choices a first before) (machine_after_choices a first before) in
    record {
      machine_is = sym (ap (λ r. with_state before r.state) (run_both a b first before full));
      chooser_is = sym (continues a b first before full).1;
      fed_is =
          ap (λ l. record { lines = fresh.lines; items = l })
          (append_assoc fresh.items xs ys ∙ ap (λ l. fresh.items ++ l) (sym (items_both a b first before full)));
    }

-- No turn was taken.
pub none_taken : (m : Machine) (first : Chooser) (fresh : Fed) (most : ℕ) → AreTaken m first fresh most 0 m first fresh
unfolding run_from
none_taken m first fresh most =
    let none = nothing_left first m in
    record {
      within = omega arith;
      full = ap length none;
      checked =
          record {
            machine_is = sym (ap (λ l. with_state m (run_of m l).state) none);
            chooser_is = sym (nothing_behind first m);
            fed_is =
                ap (λ l. record { lines = fresh.lines; items = l })
                (sym (append-nil fresh.items) ∙ ap (λ l. fresh.items ++ (run_of m l).items) (sym none));
          };
    }

-- More turns were taken and checked.
pub more_checked : (before : Machine) (first : Chooser) (fresh : Fed) (most taken asked : ℕ) (m : Machine) (chooser : Chooser) (fed : Fed) (after : Machine) (later : Chooser) (more : Fed)
    → AreTaken before first fresh most taken m chooser fed
    → after ≡ machine_after_choices asked chooser m → later ≡ chooser_after_choices asked chooser m → more ≡ with_items (items_behind asked chooser m) fed
    → AreChecked before first fresh (taken + asked) after later more
more_checked before first fresh most taken asked m chooser fed after later more are after_is later_is more_is =
    rw (after_is, later_is, more_is, are.checked.machine_is, are.checked.chooser_is, are.checked.fed_is)
    (checked_both before first fresh taken asked are.full)

more_length : (before : Machine) (first : Chooser) (fresh : Fed) (most taken asked : ℕ) (m : Machine) (chooser : Chooser) (fed : Fed)
    → AreTaken before first fresh most taken m chooser fed → length (choices_from (taken + asked) first before) ≡ taken + length (choices_from asked chooser m)
more_length before first fresh most taken asked m chooser fed are =
    let both = continues taken asked first before are.full in
    let full = are.full in
    let sum = length-append (choices_from taken first before) (rest_of taken asked first before) in
    let whole : length (choices_from (taken + asked) first before) ≡ taken + length (rest_of taken asked first before) = omega (arith, ap length both.0, sum, full) in
    rw (are.checked.machine_is, are.checked.chooser_is) whole

-- As many turns were taken as were asked for.
pub more_taken : (before : Machine) (first : Chooser) (fresh : Fed) (most taken asked n : ℕ) (m : Machine) (chooser : Chooser) (fed : Fed) (after : Machine) (later : Chooser) (more : Fed)
    → AreTaken before first fresh most taken m chooser fed → asked ≤ most - taken → asked ≤ n
    → n ≡ length (choices_from asked chooser m) → n ≤ asked → AreChecked before first fresh (taken + asked) after later more
    → AreTaken before first fresh most (taken + n) after later more
more_taken before first fresh most taken asked n m chooser fed after later more are fits all count few checked =
    let within = are.within in
    let same : n ≡ asked = omega arith in
    let sum = more_length before first fresh most taken asked m chooser fed are in
    rw same record {
      within = omega arith;
      full = sum ∙ ap (λ k. taken + k) (sym count ∙ same);
      checked = checked;
    }

-- All turns that the chooser gives were taken and checked.
pub record AreAllChecked (before : Machine) (first : Chooser) (fresh : Fed) (most taken : ℕ) (m : Machine) (chooser : Chooser) (fed : Fed) : Type 0 where
  pub count : taken ≡ length (choices_from most first before)
  pub checked : AreChecked before first fresh most m chooser fed

-- The limit is reached, so these are all turns.
pub most_taken : (before : Machine) (first : Chooser) (fresh : Fed) (most taken : ℕ) (m : Machine) (chooser : Chooser) (fed : Fed)
    → AreTaken before first fresh most taken m chooser fed → most ≤ taken → AreAllChecked before first fresh most taken m chooser fed
most_taken before first fresh most taken m chooser fed are reached =
    let within = are.within in
    let same : most ≡ taken = omega arith in
    rw same record { count = sym are.full; checked = are.checked }

-- Fewer turns were taken than were asked for, so these are all turns.
pub last_taken : (before : Machine) (first : Chooser) (fresh : Fed) (most taken asked n : ℕ) (m : Machine) (chooser : Chooser) (fed : Fed) (after : Machine) (later : Chooser) (more : Fed)
    → AreTaken before first fresh most taken m chooser fed → asked ≤ most - taken → n < asked → n ≡ length (choices_from asked chooser m)
    → AreChecked before first fresh (taken + asked) after later more
    → AreAllChecked before first fresh most (taken + n) after later more
last_taken before first fresh most taken asked n m chooser fed after later more are fits few count checked =
    let within = are.within in
    let sum = more_length before first fresh most taken asked m chooser fed are in
    let shorter : length (choices_from (taken + asked) first before) < taken + asked = omega arith in
    let end = ends (taken + asked) (most - (taken + asked)) first before shorter in
    let whole : taken + asked + (most - (taken + asked)) ≡ most = omega arith in
    let choices : choices_from most first before ≡ choices_from (taken + asked) first before = rw whole at end.0 in
    let chooser_is : chooser_after_choices most first before ≡ chooser_after_choices (taken + asked) first before = rw whole at end.1 in
    record {
      count = sym (ap length choices ∙ sum ∙ ap (λ k. taken + k) (sym count));
      checked =
          record {
            machine_is = checked.machine_is ∙ ap (λ l. with_state before (run_of before l).state) (sym choices);
            chooser_is = checked.chooser_is ∙ sym chooser_is;
            fed_is = checked.fed_is ∙ ap (λ l. with_items (run_of before l).items fresh) (sym choices);
          };
    }

-- The items of the turns that are asked for may follow those that were fed.
pub may_be_checked : (before : Machine) (first : Chooser) (fresh : Fed) (most taken asked : ℕ) (m : Machine) (chooser : Chooser) (fed : Fed)
    → IsOpened before → fresh.items ≡ [] → most ≤ 100000000 → asked ≤ most - taken → AreTaken before first fresh most taken m chooser fed → MayFollow fed (items_behind asked chooser m)
may_be_checked before first fresh most taken asked m chooser fed opened empty few fits are =
    let within = are.within in
    let xs = items_behind taken first before in
    let ys = items_behind asked (chooser_after_choices taken first before) (machine_after_choices taken first before) in
    let nothing : Fed = record { lines = fresh.lines; items = [] } in
    let may : MayFollow nothing (xs ++ ys) =
    subst (λ l. MayFollow nothing l) (items_both taken asked first before are.full) (opened_may_be_fed fresh.lines (taken + asked) first before opened (omega arith)) in
    let follow : MayFollow (with_items xs fresh) ys =
    subst (λ l. MayFollow (record { lines = fresh.lines; items = l ++ xs }) ys) (sym empty) (others_follow nothing xs ys may) in
    rw (are.checked.fed_is, are.checked.machine_is, are.checked.chooser_is) follow
