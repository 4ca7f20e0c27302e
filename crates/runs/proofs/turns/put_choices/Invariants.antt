-- The choices so far are appended, and there is capacity for the others.
use Rattle.std.proofs.Common.{◌≡◌, ◌≤◌, ◌+◌, ◌-◌, ◌++◌, replicate}
use Rattle.std.specs.Prelude.{vec_capacity, vec_len}
use Rattle.runs.proofs.turns.put_choices.Given as goal

abbrev pub invariant-loop : goal.invariant-loop
invariant-loop l =
    record {
      items : l.choices.items ≡ l.initial.choices.items ++ replicate l.counter l.fn.on.thread;
      room : vec_len l.choices + (l.fn.on.times - l.counter) ≤ vec_capacity l.choices;
    }
