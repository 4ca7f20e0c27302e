-- The turn of a thread that isn't enabled has changed nothing, and one that is enabled is the next choice.
use Rattle.std.proofs.Common.{rules, ◌≡◌, true, false, refl, ◌∙◌}
use Rattle.jvms_machine.specs.Status.{is_enabled}
use Rattle.runs.proofs.KeptThreads.{idle_noted, kept_after}
use Rattle.runs.proofs.NextTurns.{unmade, chosen_beside, taken_later}
use Rattle.runs.proofs.turn.take_candidate.Goals as goal

pub loop-preserved : goal.loop-preserved
loop-preserved c =
    let now = c.loop.invariant in
    let disabled : is_enabled c.in_ok-turn.turn.outcome ≡ false = search rules in
    let turn = c.in_ok-turn.ensures in
    let kept = unmade _ _ _ _ _ _ turn.outcome disabled turn.state turn.items in
    let noted = c.note_idle.ensures in
    record {
      machine = kept.0 ∙ now.machine;
      chooser = now.chooser;
      items = kept.1 ∙ now.items;
      kept = idle_noted _ _ _ _ _ _ kept.0 now.kept turn.outcome disabled noted.current noted.threads noted.bad noted.idle;
    }

pub returns-then-is_enabled-clause-taken : goal.returns-then-is_enabled-clause-taken
returns-then-is_enabled-clause-taken c =
    let now = c.loop.invariant in
    let enabled : is_enabled c.in_ok-turn.turn.outcome ≡ true = search rules in
    let turn = c.in_ok-turn.ensures in
    let is = chosen_beside c.loop.machine c.loop.chooser _ _ _ _ now.kept.beside c.as_slice.ensures.value c.in-Some.ensures.next turn.outcome enabled in
    taken_later now.machine now.chooser now.items (is.0, turn.outcome, turn.state, c.count.ensures ∙ is.1, turn.items)

pub returns-then-is_enabled-clause-enabled : goal.returns-then-is_enabled-clause-enabled
returns-then-is_enabled-clause-enabled c =
    kept_after c.loop.machine c.step_watched.new.self _ _ _ _ _ c.loop.invariant.kept c.as_slice.ensures.value c.in-Some.ensures.beside c.in_ok-turn.ensures.others c.note_turn.ensures.current c.note_turn.ensures.quiet c.note_turn.ensures.other
