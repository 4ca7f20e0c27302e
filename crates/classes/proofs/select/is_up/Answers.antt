use Rattle.std.proofs.Common.{ℕ, ap, ◌∙◌}
use Rattle.std.specs.Prelude.{is_some}
use Rattle.jvms_program.specs.Resolution.{chain}
use Rattle.classes.proofs.WalkLaws.{first_in_named}
use Rattle.classes.proofs.select.is_up.Goals as goal

pub returns : goal.returns
returns c =
    c.is_some.ensures ∙ ap (λ o. is_some {T = ℕ × ℕ} o) c.first_up.ensures ∙ first_in_named c.args.name.now (chain c.args.program.now c.args.class.now)
