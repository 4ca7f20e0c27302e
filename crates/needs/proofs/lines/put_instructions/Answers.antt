use Rattle.std.proofs.Common.{arith, sym, ◌∙◌}
use Rattle.std.specs.String.{string_bytes}
use Rattle.needs.specs.Lines.{place_text}
use Rattle.needs.proofs.LineLaws.{from_first, no_lines}
use Rattle.needs.proofs.lines.put_instructions.Goals as goal

pub returns-in_default : goal.returns-in_default
returns-in_default c =
    no_lines c.args.program.now (place_text c.args.source.now c.args.method.now.number c.args.method.now.key) c.args.instructions.now
    (string_bytes c.args.out.now) (sym c.in_default.is ∙ c.first_place.ensures)

pub put_instructions_from-requires : goal.put_instructions_from-requires
put_instructions_from-requires c =
    let first =
    from_first c.args.program.now (place_text c.args.source.now c.args.method.now.number c.args.method.now.key) c.args.instructions.now
    (string_bytes c.args.out.now) c.in-Some.first (sym c.in-Some.is ∙ c.first_place.ensures)
    in
    omega (arith, first.0)

pub returns : goal.returns
returns c =
    let first =
    from_first c.args.program.now (place_text c.args.source.now c.args.method.now.number c.args.method.now.key) c.args.instructions.now
    (string_bytes c.args.out.now) c.in-Some.first (sym c.in-Some.is ∙ c.first_place.ensures)
    in
    rw first.1 (rw c.in_ok-source.ensures at c.put_instructions_from.ensures)
