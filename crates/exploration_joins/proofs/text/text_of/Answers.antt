use Rattle.std.proofs.Common.{◌∙◌}
use Rattle.std.specs.String.{string_bytes}
use Rattle.exploration_text.specs.Texts.{level_line}
use Rattle.exploration_joins.proofs.Parts.{one_more}
use Rattle.exploration_joins.proofs.text.text_of.Goals as goal

pub loop-runs-preserved : goal.loop-runs-preserved
loop-runs-preserved c =
    one_more level_line c.args.levels.now c.loop-runs.runs-index _ (string_bytes c.loop-runs.text) (string_bytes c.push_str.new.self) c.as_str.result.now c.loop-runs-test.true
    c.loop-runs.invariant (c.as_str.ensures.value ∙ c.in_ok-level_line.ensures) c.in_ok-push_str.ensures.bytes
