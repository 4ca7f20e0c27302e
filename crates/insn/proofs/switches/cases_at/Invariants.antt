use Rattle.std.proofs.Common.{◌≡◌, ◌-◌, None}
use Rattle.jvms_file.specs.Instructions.{cases_at}
use Rattle.insn.proofs.SwitchLists.{with_front}
use Rattle.insn.proofs.switches.cases_at.Given as goal

abbrev pub invariant-loop : goal.invariant-loop
invariant-loop l = with_front l.cases (cases_at l.cut l.pc (l.count - l.counter) l.last l.rest) ≡ cases_at l.cut l.pc l.count None l.bytes
