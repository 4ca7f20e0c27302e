use Rattle.std.proofs.Common.{rules, [], length, sym, ap, subst}
use Rattle.std.proofs.lemmas.Option.{gets}
use Rattle.jvms_machine.specs.declared.machine.Outcome.TheVariants as outcome
use Rattle.machine.specs.Runs.{IsRun}
use Rattle.machine.proofs.RunLaws.{run_none, run_on, set_last}
use Rattle.machine.proofs.machine.Machine.run_recorded.Goals as goal

pub loop-choice-init : goal.loop-choice-init
loop-choice-init c =
    record {
      ran = subst (λ os. IsRun c.args.self.now [] os c.args.self.now c.args.recording.now c.args.recording.now) (sym c.new-outcomes.ensures.items) (run_none c.args.self.now c.args.recording.now);
      many = ap length c.new-outcomes.ensures.items;
    }

pub loop-choice-preserved : goal.loop-choice-preserved
loop-choice-preserved c =
    record {
      ran = run_on c.args.self.now c.loop-choice.self c.step_recorded.new.self c.args.choices.now c.loop-choice.choice-index _ c.loop-choice.outcomes.items _ c.args.recording.now c.loop-choice.recording c.step_recorded.new.recording c.in-Ok.outcome
          c.loop-choice.invariant.ran (search (gets, rules)) (set_last c.loop-choice.outcomes.items c.push.new.self.items outcome.NoThread c.in-Ok.outcome c.len-last.result (search rules) (search rules))
          c.in-Ok.ensures.outcome c.in-Ok.ensures.state c.in-Ok.ensures.items;
      many = search rules;
    }
