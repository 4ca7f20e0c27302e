-- The promise of a reader of bytes. Its result, seen by a view, is the one that the definition reads, unless memory ran
-- out.
use Rattle.std.specs.Prelude.{◌≡◌, Result, Ok, Err}
use Rattle.jvms_file.specs.declared.fault.ClassFault.{ClassFault}
use Rattle.jvms_file.specs.declared.fault.ReadError.{ReadError}
use Rattle.jvms_file.specs.declared.fault.ReadError.TheVariants as error

abbrev pub Fails : {Y : Type 0} → ReadError → Result Y ClassFault → Type 0
Fails (error.Fault f) read = read ≡ Err f
Fails error.Memory read = Unit {0}

abbrev pub Gives : {X Y : Type 0} → (X → Y) → Result X ReadError → Result Y ClassFault → Type 0
Gives view (Ok x) read = read ≡ Ok (view x)
Gives view (Err e) read = Fails e read
