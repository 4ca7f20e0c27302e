-- The reason why no machine is made for a plan is why no run is named.
use Rattle.std.proofs.Common.{List, Result, Ok, Err, ap, refl}
use Rattle.std.specs.Prelude.{IsTrue, is_ok}
use Rattle.jvms_file.specs.Results.{◌>>=◌}
use Rattle.jvms_program.specs.declared.program.Class.{Class}
use Rattle.jvms_machine.specs.Opening.{StartFault, start_of_entry}
use Rattle.jvms_machine.specs.Start.{Start}
use Rattle.machine.specs.Started.{IsNotMade}
use Rattle.machine.specs.declared.fault.MachineFault.{MachineFault}
use Rattle.machine.specs.declared.fault.MachineFault.TheVariants as machine_fault
use Rattle.explore_jobs.specs.declared.plan.Plan.{Plan}
use Rattle.judge.specs.Faults.{IsMachineFault}
use Rattle.judge.specs.Programs.{not_made, with_reason}
use Rattle.shrinkings.specs.Programs.{fitting_program}

-- If there is a start, the plan fits.
is_fitted_too : (program : List Class) (start : Result Start StartFault) → IsTrue (is_ok start)
    → IsTrue (is_ok (with_reason not_made start >>= λ s. Ok program))
is_fitted_too program (Ok start) is = refl
is_fitted_too program (Err why) is = absurd (cc)

pub not_fitted : (plan : Plan) (program : List Class) (why : MachineFault) → IsNotMade program plan.limits plan.entry why → IsMachineFault why (fitting_program plan program)
not_fitted plan program machine_fault.NoEntry is = ap (λ r. with_reason not_made r >>= λ start. Ok program) is
not_fitted plan program machine_fault.Limits is = ap (λ r. with_reason not_made r >>= λ start. Ok program) is
not_fitted plan program machine_fault.Memory is = is_fitted_too program (start_of_entry program plan.limits plan.entry) is
