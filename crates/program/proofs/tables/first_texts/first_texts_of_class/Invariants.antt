use Rattle.std.proofs.Common.{take}
use Rattle.program.specs.FieldTexts.{AreTextsOf, IsFirstText}
use Rattle.program.proofs.TableLaws.{HaveEntriesFor}
use Rattle.program.proofs.tables.first_texts.first_texts_of_class.Given as goal

-- the fields so far
abbrev pub invariant-loop-field : goal.invariant-loop-field
invariant-loop-field l = HaveEntriesFor (IsFirstText l.fields) l.fields l.firsts.items l.field-index × AreTextsOf (take l.field-index l.fields) l.texts
