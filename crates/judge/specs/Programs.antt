-- Defines the program of class files and sources, or why nothing is run.
use Rattle.std.specs.Prelude.{ℕ, suc, List, [], ◌∷◌, Result, Ok, Err}
use Rattle.jvms_file.specs.declared.class_file.ClassFile.{ClassFile}
use Rattle.jvms_file.specs.Results.{◌>>=◌}
use Rattle.jvms_program.specs.declared.program.Class.{Class}
use Rattle.jvms_machine.specs.Opening.{StartFault}
use Rattle.inputs.specs.declared.input.Input.{Input}
use Rattle.inputs.specs.Inputs.{NoClass, class_in}
use Rattle.linker.specs.declared.fault.LinkFault.{LinkFault}
use Rattle.linker.specs.Linking.{link_result}

-- The reasons why nothing is run: an input is no class, the classes make no program, or there is no machine.
pub data NotRun : Type 0 where
  no_class : (file : ℕ) (why : NoClass) → NotRun
  not_linked : (fault : LinkFault) → NotRun
  not_made : (why : StartFault) → NotRun

abbrev pub with_reason : {A E : Type 0} → (E → NotRun) → Result A E → Result A NotRun
with_reason why (Ok x) = Ok x
with_reason why (Err fault) = Err (why fault)

-- Returns the classes of inputs, the first of which has number `file`, or the fault of the first that is no class.
abbrev pub classes_from : ℕ → List Input → Result (List ClassFile) NotRun
classes_from file [] = Ok []
classes_from file (input ∷ rest) = do
  class ← with_reason (no_class file) (class_in input)
  classes ← classes_from (suc file) rest
  Ok (class ∷ classes)

-- Returns the program of all inputs' classes.
unfoldable pub program_in : List Input → Result (List Class) NotRun
program_in inputs = do
  classes ← classes_from 0 inputs
  with_reason not_linked (link_result classes)
