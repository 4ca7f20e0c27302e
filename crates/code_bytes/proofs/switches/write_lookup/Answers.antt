use Rattle.std.proofs.Common.{◌∷◌, ◌++◌, length, ◌∙◌}
use Rattle.std.specs.List.{flat_map}
use Rattle.std.proofs.lemmas.Result.{IfOk-equal}
use Rattle.jvms_file.specs.Spelling.{u4}
use Rattle.assembly.specs.Sizes.{offset}
use Rattle.assembly.specs.Bytes.{s4, pads, lookup_bytes}
use Rattle.code_bytes.specs.Writing.{pair_bytes}
use Rattle.code_bytes.proofs.Joined.{lookup_joined}
use Rattle.code_bytes.proofs.switches.write_lookup.Goals as goal

pub returns : goal.returns
unfolding lookup_bytes pair_bytes
returns c =
    let lines = c.args.lines.now in
    let each = pair_bytes c.args.starts.now c.args.labels.now c.args.pc in
    IfOk-equal c.write_pairs.result c.write_pairs.new.out.items _ _ c.write_pairs.ensures
    ((λ i. c.write_length.new.out.items ++ flat_map each (c.as_slice.ensures i))
    ∙ lookup_joined c.args.out.now.items (171 ∷ pads c.args.pc) (s4 (offset c.args.starts.now c.args.labels.now c.args.pc lines.default)) (u4 (length lines.matches)) (flat_map each lines.matches)
    c.write_head.new.out.items c.write_offset.new.out.items c.write_length.new.out.items
    c.in_ok-write_head.ensures c.in_ok-write_offset.ensures (c.in_ok-write_length.ensures.ok ∙ (λ i. c.write_offset.new.out.items ++ u4 (c.len.ensures i))))
