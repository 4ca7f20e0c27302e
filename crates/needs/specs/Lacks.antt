-- Defines why an instruction can't run (own). What it names is resolved first (JVMS 5.4.3), and the profile is
-- checked second.
use Rattle.std.specs.Prelude.{ℕ, Bool, true, false, List, Option, Some, None, if◌then◌else◌}
use Rattle.std.specs.Result.{result_err}
use Rattle.jvms_program.specs.declared.program.Class.{Class}
use Rattle.jvms_program.specs.declared.program.Instruction.{Instruction}
use Rattle.jvms_program.specs.declared.program.Instruction.TheVariants as instruction
use Rattle.jvms_program.specs.declared.program.Loadable.{Loadable}
use Rattle.jvms_program.specs.declared.program.Loadable.TheVariants as loadable
use Rattle.jvms_program.specs.declared.thrown.Thrown.{Thrown}
use Rattle.jvms_program.specs.declared.thrown.Thrown.TheVariants as thrown
use Rattle.jvms_program.specs.Resolution.{class_exists, is_static_call, is_static_use, resolved_field, resolved_method}
use Rattle.needs.specs.declared.lack.Lack.{Lack}
use Rattle.needs.specs.declared.lack.Lack.TheVariants as lack
use Rattle.needs.specs.Outside.{is_outside}

-- Returns the error that is thrown if a class is missing.
abbrev pub absence : List Class → List ℕ → Option Thrown
absence program name = if class_exists program name then None else Some thrown.NoClassDefFoundError

-- Returns the error of `ldc` of a class.
abbrev pub constant_error : List Class → Loadable → Option Thrown
constant_error program (loadable.Class name) = absence program name
constant_error program _ = None

-- Returns the error that is thrown if what an instruction names can't be resolved.
abbrev pub resolution_error : List Class → Instruction → Option Thrown
resolution_error program (instruction.Field how r) = result_err (resolved_field program (is_static_use how) r)
resolution_error program (instruction.Invoke how r) = result_err (resolved_method program (is_static_call how) r)
resolution_error program (instruction.Class how name) = absence program name
resolution_error program (instruction.MultiNewArray count name) = absence program name
resolution_error program (instruction.Constant c) = constant_error program c
resolution_error program _ = None

abbrev pub first_lack : Option Thrown → Bool → Option Lack
first_lack (Some error) outside = Some (lack.Unresolved error)
first_lack None true = Some lack.OutOfProfile
first_lack None false = None

-- Returns the reason why an instruction can't run, if there is one.
abbrev pub lack_of : List Class → Instruction → Option Lack
lack_of program i = first_lack (resolution_error program i) (is_outside i)
