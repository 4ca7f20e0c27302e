use Rattle.needs.specs.Lines.{instruction_line, place_text}
use Rattle.needs.proofs.LineLaws.{one_more}
use Rattle.needs.proofs.lines.put_instructions_from.Goals as goal

pub loop-place-preserved : goal.loop-place-preserved
loop-place-preserved c =
    one_more
    (instruction_line c.args.program.now (place_text c.args.source.now.0 c.args.source.now.1 c.args.method.now))
    c.args.instructions.now c.loop-place.place c.index-instructions-place.result _ _ _
    c.loop-place-test.true c.index-instructions-place.is c.in_ok-put_instruction.ensures c.loop-place.invariant
