use Rattle.std.proofs.Common.{ℕ, List, ◌∷◌, ◌++◌, ◌-◌, length, pos, ◌+ℤ◌, ◌∙◌}
use Rattle.std.specs.List.{flat_map}
use Rattle.std.proofs.lemmas.Result.{IfOk-equal}
use Rattle.assembly.specs.Sizes.{offset}
use Rattle.assembly.specs.Bytes.{s4, pads, table_bytes}
use Rattle.code_bytes.proofs.Joined.{table_joined}
use Rattle.code_bytes.proofs.switches.write_table.Goals as goal

pub returns : goal.returns
unfolding table_bytes
returns c =
    let lines = c.args.lines.now in
    let each = λ (label : List ℕ). s4 (offset c.args.starts.now c.args.labels.now c.args.pc label) in
    IfOk-equal c.write_offsets.result c.write_offsets.new.out.items _ _ c.write_offsets.ensures
    ((λ i. c.write_bounds_of.new.out.items ++ flat_map each (c.as_slice.ensures i))
    ∙ table_joined c.args.out.now.items (170 ∷ pads c.args.pc) (each lines.default) (s4 lines.low) (s4 (lines.low +ℤ pos (length lines.labels - 1))) (flat_map each lines.labels)
    c.write_head.new.out.items c.write_offset.new.out.items c.write_bounds_of.new.out.items
    c.in_ok-write_head.ensures c.in_ok-write_offset.ensures c.in_ok-write_bounds_of.ensures)
