-- The lines so far.
use Rattle.std.proofs.Common.{take, ◌≡◌}
use Rattle.std.specs.List.{flat_map}
use Rattle.std.specs.String.{string_bytes}
use Rattle.exploration_text.specs.Texts.{level_line}
use Rattle.exploration_joins.proofs.text.text_of.Given as goal

abbrev pub invariant-loop-runs : goal.invariant-loop-runs
invariant-loop-runs l = string_bytes l.text ≡ flat_map level_line (take l.runs-index l.levels)
