-- The lines are those of the classes before the index.
use Rattle.std.proofs.Common.{◌≡◌, ◌++◌, take, flat_map, map}
use Rattle.std.specs.String.{string_bytes}
use Rattle.machine_text.specs.declared.fields.Keeper.TheVariants as keeper
use Rattle.machine_text.specs.Parts.{fields_text}
use Rattle.machine_text.proofs.object.put_declared.Given as goal

abbrev pub invariant-loop-class : goal.invariant-loop-class
invariant-loop-class l =
    string_bytes l.out
    ≡ string_bytes l.initial.out ++ flat_map (fields_text l.machine (keeper.Instance l.reference)) (map (λ c. c.now) (take l.class-index l.classes))
