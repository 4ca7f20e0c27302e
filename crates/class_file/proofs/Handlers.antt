-- The entries of the exception table get places one after another.
use Rattle.std.specs.Prelude.{List, ◌++◌, Result, Ok}
use Rattle.jvms_file.specs.declared.fault.ClassFault.{ClassFault}
use Rattle.jvms_file.specs.Results.{◌>>=◌}

-- The entries before, followed by those of a reading.
abbrev pub with_items : {X : Type 0} → List X → Result (List X) ClassFault → Result (List X) ClassFault
with_items front read = read >>= λ xs. Ok (front ++ xs)
