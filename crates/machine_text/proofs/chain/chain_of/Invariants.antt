-- The chain is that of the classes before the level, followed by the rest.
use Rattle.std.proofs.Common.{◌≡◌, ◌-◌, ◌++◌, length, map}
use Rattle.std.specs.Option.{option_copied}
use Rattle.jvms_program.specs.Resolution.{chain}
use Rattle.machine_text.proofs.Chains.{chain_from}
use Rattle.machine_text.proofs.chain.chain_of.Given as goal

abbrev pub invariant-loop-level : goal.invariant-loop-level
invariant-loop-level l =
    map (λ c. c.now) l.classes.items ++ chain_from l.program (length l.program - l._level) (option_copied l.next) ≡ chain l.program l.name
