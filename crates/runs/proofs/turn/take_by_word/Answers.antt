-- After a quiet turn of a thread that was enabled and is, the enabled threads are those before it.
use Rattle.std.proofs.Common.{rules, ap, length, sym, true, ◌∙◌, ◌≡◌}
use Rattle.jvms_machine.specs.Status.{is_enabled}
use Rattle.runs.proofs.KeptThreads.{idle_forgotten, kept_on, none_idle}
use Rattle.runs.proofs.turn.take_by_word.Goals as goal

pub refresh-requires : goal.refresh-requires
refresh-requires c = idle_forgotten _ _ _ c.requires.enabled c.forget_idle.ensures.current c.forget_idle.ensures.threads c.forget_idle.ensures.idle

pub returns-else-not-leaves_enabled-clause-enabled : goal.returns-else-not-leaves_enabled-clause-enabled
returns-else-not-leaves_enabled-clause-enabled c =
    record {
      current = λ current.
          let are = c.in_ok-refresh.ensures.kept.current current in
          let leaves : c.leaves_enabled.result ≡ true = search rules in
          let turn = c.in_ok-turn.ensures in
          let was : is_enabled c.in_ok-turn.turn.outcome ≡ true = c.leaves_enabled.ensures.was leaves in
          let threads : length c.step_watched.new.self.state.threads ≡ length c.args.machine.now.state.threads =
          c.leaves_enabled.ensures.threads leaves ∙ c.thread_count-threads.ensures in
          kept_on c.args.machine.now c.step_watched.new.self c.in-Some.thread threads (turn.others (c.leaves_enabled.ensures.quiet leaves))
          (sym (ap is_enabled turn.outcome) ∙ was) (c.leaves_enabled.ensures.is leaves) are.fit _ are.enabled;
      beside = none_idle _ _ (c.in_ok-refresh.ensures.idle ∙ c.forget_idle.ensures.idle);
    }
