use Rattle.std.proofs.Common.{◌≡◌, ◌++◌, take, map}
use Rattle.jvms_program.specs.BuiltIn.{throwable_below}
use Rattle.built_in.proofs.throwables.push_below.Given as goal

-- the classes so far
abbrev pub invariant-loop-superclass : goal.invariant-loop-superclass
invariant-loop-superclass l =
    l.classes.items ≡ l.initial.classes.items ++ map (λ p. throwable_below p.0.now p.1.now) (take l.superclass-index l.below)
