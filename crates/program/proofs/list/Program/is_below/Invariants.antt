use Rattle.program.specs.Tables.{IsUp}
use Rattle.program.proofs.list.Program.is_below.Given as goal

-- the class that is reached
abbrev pub invariant-loop : goal.invariant-loop
invariant-loop l = IsUp l.self l.class l.at
