-- The classes that were read and the remaining ones are the result for all files.
use Rattle.std.proofs.Common.{◌≡◌, drop}
use Rattle.judge.specs.Programs.{classes_from}
use Rattle.judge.proofs.Classes.{still}
use Rattle.judge.proofs.reading.classes_of.Given as goal

abbrev pub invariant-loop-file : goal.invariant-loop-file
invariant-loop-file l =
    still l.classes.items (classes_from l.file (drop l.file l.inputs))
    ≡ classes_from 0 l.inputs
