-- Local turns are local beside the state of the trace.
use Rattle.std.proofs.Common.{IsTrue, List, fold, refl, sym, ℕ, ◌++◌, ◌∙◌, ◌≡◌}
use Rattle.std.proofs.lemmas.List.Sums.{fold-append}
use Rattle.departures.specs.Reductions.{AreLocal, seen_by}
use Rattle.departures.specs.Turns.{CanTake}
use Rattle.jvms_machine.specs.Limits.{are_limits}
use Rattle.jvms_machine.specs.Start.{IsStart, Start}
use Rattle.jvms_machine.specs.State.{Sound}
use Rattle.jvms_machine.specs.declared.machine.Limits.{Limits}
use Rattle.jvms_machine.specs.declared.trace.Item.{Item}
use Rattle.jvms_program.specs.Program.{IsProgram}
use Rattle.jvms_program.specs.declared.program.Class.{Class}
use Rattle.mark_laws.proofs.Alike.{alike_are_swaps}
use Rattle.mark_laws.proofs.Swapped.{same_fold}
use Rattle.local_turns.proofs.Items.{alike_by}
use Rattle.local_turns.proofs.Turned.{are_local}
use Rattle.local_turns.specs.Judged.{Judged, all_items, is_judged_local, judged_turns, no_items}
use Rattle.local_laws.specs.Local.{is_local}
use Rattle.local_turns.specs.Turns.{items_in, turns_of, view_of}
use Rattle.velodrome.specs.Specification.{Specification}
use Rattle.velodrome.specs.Transactions.{TraceState, state_after_item}

module _ (lines : Specification) where
  -- Lists with the same view lead to the same state of the trace, one after the other.
  same_trace : (w : TraceState) (a b c d : List Item) → view_of (a ++ b) ≡ view_of (c ++ d)
      → fold (state_after_item lines) (fold (state_after_item lines) w a) b ≡ fold (state_after_item lines) (fold (state_after_item lines) w c) d
  same_trace w a b c d same =
      sym (fold-append (state_after_item lines) w a b)
      ∙ (same_fold lines (a ++ b) (c ++ d) w (alike_are_swaps (a ++ b) (c ++ d) (alike_by (a ++ b) (c ++ d) same))
      ∙ fold-append (state_after_item lines) w c d)

  module _ (program : List Class) (limits : Limits) (start : Start) (is : IsProgram program) (are : IsTrue (are_limits limits)) (starts : IsStart start) where
    laws : AreLocal (turns_of program limits start) (is_local program limits start) (items_in program limits start) (seen_by view_of) (Sound program limits)
    laws = are_local program limits start is are starts

    under : (j : Judged) (t : ℕ) → CanTake (judged_turns program limits start lines) j t → CanTake (turns_of program limits start) j.state t
    under j t can = record { started = can.started; on = can.on }

    over : (j : Judged) (t : ℕ) → CanTake (turns_of program limits start) j.state t → CanTake (judged_turns program limits start lines) j t
    over j t can = record { started = can.started; on = can.on }

    pub judged_local : AreLocal (judged_turns program limits start lines) (is_judged_local program limits start) no_items (seen_by all_items) (λ j. Sound program limits j.state)
    unfolding laws
    judged_local =
        record {
          kept = λ j u sound can. laws.kept j.state u sound (under j u can);
          can_take = λ j t now. over j t (laws.can_take j.state t now);
          stays = λ j t u sound other now can. laws.stays j.state t u sound other now (under j u can);
          commutes = λ j t u sound other now can i.
              record {
                state = laws.commutes j.state t u sound other now (under j u can) i;
                trace = same_trace j.trace (items_in program limits start j.state u) (items_in program limits start ((turns_of program limits start).after j.state u) t)
                    (items_in program limits start j.state t) (items_in program limits start ((turns_of program limits start).after j.state t) u)
                    (sym (laws.slides j.state t u sound other now (under j u can))) i;
              };
          threads = λ j t now. laws.threads j.state t now;
          leaves = λ j t u other now. laws.leaves j.state t u other now;
          slides = λ j t u sound other now can. refl;
        }
