-- Worked examples: a run of the class that computes the greatest common divisor of two ints.
use Rattle.std.specs.Prelude.{ℕ, true, List, [], ◌∷◌, ◌++◌, replicate, codes, Option, None, Result, Ok, Err, pos}
use Rattle.std.specs.Option.{option_map}
use Rattle.jvms_file.specs.declared.fault.ClassFault.{ClassFault}
use Rattle.jvms_file.specs.declared.class_file.ClassFile.{ClassFile}
use Rattle.jvms_machine.specs.declared.machine.Argument.TheVariants as argument
use Rattle.jvms_machine.specs.declared.machine.Entry.{Entry}
use Rattle.jvms_machine.specs.declared.machine.Entry.TheVariants as entry
use Rattle.jvms_machine.specs.declared.machine.Limits.{Limits}
use Rattle.jvms_machine.specs.declared.machine.Outcome.{Outcome}
use Rattle.jvms_machine.specs.declared.machine.Outcome.TheVariants as outcome
use Rattle.jvms_program.specs.declared.program.Class.{Class}
use Rattle.jvms_file.specs.ClassFile.{read}
use Rattle.jvms_program.specs.Program.{program_of}
use Rattle.jvms_machine.specs.Start.{start_of}
use Rattle.jvms_machine.specs.Run.{RunResult, run}

abbrev pub default_limits : Limits
default_limits = record { objects = 1000000; elements = 10000000; threads = 64; frames = 1024 }

-- Returns the entry `G.gcd.(II)I` with 48 and 36.
abbrev pub gcd_entry : Entry
gcd_entry = entry.Static (codes "G") (codes "gcd") (codes "(II)I") (argument.Int (pos 48) ∷ argument.Int (pos 36) ∷ [])

-- Returns the run of a number of choices of thread 0, if the bytes spell a class with the entry.
abbrev pub run_of_bytes : List ℕ → Entry → ℕ → Option RunResult
run_of_bytes bytes e turns = of_class (read bytes)
  where
    of_class : Result ClassFile ClassFault → Option RunResult
    of_class (Err fault) = None
    of_class (Ok c) = of_start (program_of (c ∷ []))
      where
        of_start : List Class → Option RunResult
        of_start program = option_map (λ start. run program default_limits start (replicate turns 0)) (start_of program e)

abbrev pub gcd_outcomes : List Outcome
gcd_outcomes = replicate 24 outcome.Ran ++ outcome.Ended true ∷ []
