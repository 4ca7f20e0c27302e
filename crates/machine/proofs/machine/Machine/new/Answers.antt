use Rattle.std.proofs.Common.{rules, ◌≡◌, true, Some, IsTrue, if◌then◌else◌, sym, ap, ◌∙◌, subst}
use Rattle.std.specs.Prelude.{Ok, Err}
use Rattle.jvms_machine.specs.Start.{Start, start_of}
use Rattle.jvms_machine.specs.Limits.{are_limits}
use Rattle.jvms_machine.specs.Opening.{start_within_limits, no_limits}
use Rattle.jvms_machine.proofs.StartLaws.{entry_is_start}
use Rattle.jvms_machine.proofs.OpeningSoundness.{opening_is_sound}
use Rattle.invoke.specs.machine_parts.Machine.{IsMachine}
use Rattle.machine.specs.Started.{with_arguments}
use Rattle.machine.proofs.machine.Machine.new.Goals as goal

pub invariant_of-result : goal.invariant_of-result
invariant_of-result c =
    let start : Start = with_arguments c.args.entry.now c.in-Some.method in
    let starts : start_of c.args.program.now c.args.entry.now ≡ Some start = sym c.in-Some.ensures in
    let are : IsTrue (are_limits c.args.limits) = search rules in
    subst IsMachine (sym c.in_ok-parts.ensures)
    (record { limits = are; start = entry_is_start c.args.program.now c.args.entry.now start starts; classes = c.program_invariant.ensures; sound = opening_is_sound c.args.program.now c.args.limits are })

pub returns : goal.returns
returns c =
    let start : Start = with_arguments c.args.entry.now c.in-Some.method in
    let starts : start_of c.args.program.now c.args.entry.now ≡ Some start = sym c.in-Some.ensures in
    let are : are_limits c.args.limits ≡ true = search rules in (
      start,
      ap (start_within_limits c.args.limits) starts ∙ ap (λ b. if b then Ok start else Err no_limits) are,
      c.in_ok-parts.ensures,
    )
