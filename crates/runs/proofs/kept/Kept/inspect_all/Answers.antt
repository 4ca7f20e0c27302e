-- One more thread is inspected.
use Rattle.std.proofs.Common.{ap, arith, rules, ◌++◌, ◌∙◌}
use Rattle.runs.proofs.KeptThreads.{enabled_left, fit_next, inspected_all, inspected_next, left_first}
use Rattle.runs.proofs.kept.Kept.inspect_all.Goals as goal

pub loop-thread-init : goal.loop-thread-init
loop-thread-init c =
    record {
      end = c.thread_count-thread-end.ensures;
      listed = ap (λ l. l ++ enabled_left c.args.machine.now 0) c.clear.ensures.items ∙ left_first c.args.machine.now;
      fit = λ _ u less. absurd (omega (arith, less));
      idle = search rules;
    }

pub loop-thread-preserved : goal.loop-thread-preserved
loop-thread-preserved c =
    let now = c.loop-thread.invariant in
    record {
      end = now.end;
      listed = inspected_next c.args.machine.now c.loop-thread.thread _ _ (omega arith) c.in_ok-inspect.ensures.threads now.listed;
      fit = fit_next c.args.machine.now c.loop-thread.thread _ _ c.in_ok-inspect.ensures.fit now.fit;
      idle = c.in_ok-inspect.ensures.idle ∙ now.idle;
    }

pub returns-clause-threads : goal.returns-clause-threads
returns-clause-threads c = inspected_all c.args.machine.now _ _ (omega arith) c.loop-thread.invariant.listed

pub returns-clause-kept : goal.returns-clause-kept
returns-clause-kept c = λ current.
    record {
      enabled = inspected_all c.args.machine.now _ _ (omega arith) c.loop-thread.invariant.listed;
      fit = λ u less. c.loop-thread.invariant.fit current u (omega (arith, less));
    }
