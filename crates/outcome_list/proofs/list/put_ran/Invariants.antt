-- The kinds so far are appended, and there is capacity for the others.
use Rattle.std.proofs.Common.{◌≡◌, ◌≤◌, ◌+◌, ◌-◌, ◌++◌, replicate}
use Rattle.std.specs.Prelude.{vec_capacity, vec_len}
use Rattle.outcome_list.specs.declared.kind.Kind.TheVariants as kind
use Rattle.outcome_list.proofs.list.put_ran.Given as goal

abbrev pub invariant-loop : goal.invariant-loop
invariant-loop l =
    record {
      items : l.kinds.items ≡ l.initial.kinds.items ++ replicate l.counter kind.Ran;
      room : vec_len l.kinds + (l.fn.times - l.counter) ≤ vec_capacity l.kinds;
    }
