-- The static fields stay those of the heap's program.
use Rattle.std.proofs.Common.{◌∙◌}
use Rattle.exec_ref.proofs.EffectLaws.{statics_stay}
use Rattle.exec_ref.proofs.effects.put_static.Goals as goal

pub invariant_of-parts : goal.invariant_of-parts
invariant_of-parts c =
    statics_stay c.parts.inside.statics c.put_numbered.new.self c.args.field c.args.value c.put_numbered.ensures.put c.put_numbered.ensures.none ∙ c.parts.invariant
