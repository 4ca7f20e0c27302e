use Rattle.std.proofs.Common.{◌≡◌, take, map}
use Rattle.linker.specs.Spelled.{typed_text_of}
use Rattle.linker.proofs.spelled.all_typed_texts.Given as goal

abbrev pub invariant-loop-entry : goal.invariant-loop-entry
invariant-loop-entry l = l.all.items ≡ map typed_text_of (take l.entry-index l.entries)
