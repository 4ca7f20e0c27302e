-- Defines what a report names.
use Rattle.std.specs.Prelude.{◌≡◌, ℕ, List}
use Rattle.jvms_program.specs.declared.program.Class.{Class}
use Rattle.campaign_jobs.specs.declared.plan.Plan.{Plan}
use Rattle.campaign_jobs.specs.declared.report.Report.{Report}

-- The report names this program, this plan and this number.
abbrev pub IsJobOf : Report → List Class → Plan → ℕ → Type 0
IsJobOf report program plan number =
    (report.program.now ≡ program) × (report.plan.now ≡ plan) × (report.number ≡ number)
