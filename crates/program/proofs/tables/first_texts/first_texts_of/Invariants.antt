use Rattle.program.specs.FieldTexts.{AreFirstTextsOfClass}
use Rattle.program.proofs.TableLaws.{HaveEntriesFor}
use Rattle.program.proofs.tables.first_texts.first_texts_of.Given as goal

-- the classes so far
abbrev pub invariant-loop-class : goal.invariant-loop-class
invariant-loop-class l = HaveEntriesFor AreFirstTextsOfClass l.class-items l.firsts.items l.class-index
