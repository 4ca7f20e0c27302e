use Rattle.std.proofs.Common.{subst}
use Rattle.program.specs.Tables.{IsAbove}
use Rattle.program.proofs.LinkLaws.{far_up}
use Rattle.program.proofs.tables.links.plain_link.Goals as goal

pub returns-in-Some : goal.returns-in-Some
returns-in-Some c =
    let up = subst (λ p. IsAbove c.args.program.now c.args.class.now p) c.in-Some.is c.above-above.ensures in
    record {
      numbered = λ _. c.requires.named;
      no_array = λ _. c.requires.no_array;
      above = up;
      far = far_up c.args.program.now c.args.number c.in-Some.next c.far_above.result c.args.class.now c.requires.there up c.far_above.ensures;
    }
