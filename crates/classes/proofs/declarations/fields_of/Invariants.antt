-- The fields of the classes so far are collected.
use Rattle.std.proofs.Common.{[], take}
use Rattle.classes.specs.Declarations.{Adds, fields_of}
use Rattle.classes.proofs.declarations.fields_of.Given as goal

abbrev pub invariant-loop-class : goal.invariant-loop-class
invariant-loop-class l = Adds [] (fields_of (take l.class-index l.classes)) l.collection
