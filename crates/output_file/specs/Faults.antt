-- Defines which fault an error of the system is.
use Rattle.std.specs.Prelude.{◌≡◌, ◌≢◌}
use Rattle.std_io.specs.declared.io.kind.ErrorKind.{ErrorKind}
use Rattle.std_io.specs.declared.io.kind.ErrorKind.TheVariants.{OutOfMemory}
use Rattle.output_file.specs.declared.fault.OutputFault.{OutputFault}
use Rattle.output_file.specs.declared.fault.OutputFault.TheVariants.{File, Memory}

-- An error of this kind is this fault: out of memory is one of its own.
abbrev pub IsFaultOf : ErrorKind → OutputFault → Type 0
IsFaultOf kind fault = (kind ≡ OutOfMemory → fault ≡ Memory) × (kind ≢ OutOfMemory → fault ≡ File)
