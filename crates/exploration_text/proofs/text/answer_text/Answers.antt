use Rattle.std.proofs.Common.{List, ap, sym, take, ◌+◌, ◌∙◌}
use Rattle.std.specs.List.{flat_map}
use Rattle.std.specs.String.{string_bytes}
use Rattle.exploration_text.proofs.TextLaws.{one_more}
use Rattle.exploration_text.specs.Texts.{level_line}
use Rattle.exploring.specs.declared.answer.LevelRuns.{LevelRuns}
use Rattle.exploration_text.proofs.text.answer_text.Goals as goal

pub loop-runs-preserved : goal.loop-runs-preserved
loop-runs-preserved c =
    let xs = c.as_slice-runs-items.result.now in
    let i = c.loop-runs.runs-index in
    let value = c.as_slice-runs-items.ensures.value in
    one_more level_line xs i _ (string_bytes c.loop-runs.text) (string_bytes c.push_str.new.self) c.as_str.result.now c.loop-runs-test.true
    (c.loop-runs.invariant ∙ ap (λ (l : List LevelRuns). flat_map level_line (take i l)) (sym value)) (c.as_str.ensures.value ∙ c.in_ok-level_line.ensures) c.in_ok-push_str.ensures.bytes
    ∙ ap (λ (l : List LevelRuns). flat_map level_line (take (i + 1) l)) value
