use Rattle.program.specs.Tables.{IsLink}
use Rattle.program.proofs.TableLaws.{HaveEntriesFor}
use Rattle.program.proofs.tables.links.lone_links.Given as goal

-- the links of the classes so far
abbrev pub invariant-loop-number : goal.invariant-loop-number
invariant-loop-number l = HaveEntriesFor (IsLink l.program) l.program l.links.items l.number
