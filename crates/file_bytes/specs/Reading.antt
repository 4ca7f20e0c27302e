-- The promise of a reader of bytes that allocates no memory. Its result, seen by a view, is the one that the definition
-- reads, and its fault is the definition's.
use Rattle.std.specs.Prelude.{◌≡◌, Result, Ok, Err}
use Rattle.jvms_file.specs.declared.fault.ClassFault.{ClassFault}

abbrev pub Finds : {X Y : Type 0} → (X → Y) → Result X ClassFault → Result Y ClassFault → Type 0
Finds view (Ok x) read = read ≡ Ok (view x)
Finds view (Err f) read = read ≡ Err f
