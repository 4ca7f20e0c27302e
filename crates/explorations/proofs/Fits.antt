-- The reason why no machine is made for a plan is why there is no exploration.
use Rattle.std.proofs.Common.{List, Result, Ok, Err, refl, ap}
use Rattle.std.specs.Prelude.{IsTrue, is_ok}
use Rattle.jvms_file.specs.Results.{◌>>=◌}
use Rattle.jvms_program.specs.declared.program.Class.{Class}
use Rattle.jvms_machine.specs.Opening.{StartFault, start_of_entry}
use Rattle.jvms_machine.specs.Start.{Start}
use Rattle.machine.specs.declared.fault.MachineFault.TheVariants as machine_fault
use Rattle.program_runs.specs.declared.fault.ProgramFault.{ProgramFault}
use Rattle.program_runs.specs.declared.fault.ProgramFault.TheVariants as program_fault
use Rattle.program_runs.specs.Faults.{IsProgramFault}
use Rattle.exploration_text.specs.declared.explore_jobs.Plan.{Plan}
use Rattle.judge.specs.Faults.{IsFault, judge_fault_of}
use Rattle.judge.specs.Programs.{not_made, with_reason}
use Rattle.explorations.specs.Programs.{fitting_program}

-- If there is a start, the plan fits.
is_fitted_too : (program : List Class) (start : Result Start StartFault) → IsTrue (is_ok start)
    → IsTrue (is_ok (with_reason not_made start >>= λ s. Ok program))
is_fitted_too program (Ok start) is = refl
is_fitted_too program (Err why) is = absurd (cc)

pub not_fitted : (plan : Plan) (program : List Class) (fault : ProgramFault)
    → IsProgramFault fault (start_of_entry program plan.limits plan.entry) → IsFault (judge_fault_of fault) (fitting_program plan program)
not_fitted plan program (program_fault.Machine machine_fault.NoEntry) is = ap (λ r. with_reason not_made r >>= λ start. Ok program) is
not_fitted plan program (program_fault.Machine machine_fault.Limits) is = ap (λ r. with_reason not_made r >>= λ start. Ok program) is
not_fitted plan program (program_fault.Machine machine_fault.Memory) is = is_fitted_too program (start_of_entry program plan.limits plan.entry) is
not_fitted plan program program_fault.Memory is = tt
