-- The methods so far are added.
use Rattle.std.proofs.Common.{map, take}
use Rattle.classes.specs.Declarations.{Adds, method_names}
use Rattle.classes.proofs.declarations.Collection.add_methods.Given as goal

abbrev pub invariant-loop-method : goal.invariant-loop-method
invariant-loop-method l = Adds l.initial.self (map method_names (take l.method-index l.methods)) l.self
