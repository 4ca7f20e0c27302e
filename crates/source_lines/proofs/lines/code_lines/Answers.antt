use Rattle.std.proofs.Common.{subst}
use Rattle.std.specs.List.{flat_map}
use Rattle.source_lines.specs.Lines.{AreBelow}
use Rattle.source_lines.specs.SourceLines.{starts_in}
use Rattle.source_lines.proofs.LineLaws.{each_line}
use Rattle.source_lines.proofs.lines.code_lines.Goals as goal

pub returns : goal.returns
returns c =
    let starts = flat_map (starts_in c.args.pool.now) c.args.code.now.attributes in
    let bytes = c.args.code.now.layout.starts in
    let below = subst (AreBelow c.count_of.result) c.as_slice-starts.ensures c.count_of.ensures in
    let each = each_line c.count_of.result starts bytes below in
    simp (c.as_slice-2.ensures.value, c.in_ok-lines.ensures, c.as_slice.ensures, c.as_slice-starts.ensures, each) at c.lines_at.ensures
