-- The offsets of the labels so far are written.
use Rattle.std.proofs.Common.{◌≡◌, ◌++◌, take, flat_map}
use Rattle.assembly.specs.Sizes.{offset}
use Rattle.assembly.specs.Bytes.{s4}
use Rattle.code_bytes.proofs.switches.write_offsets.Given as goal

abbrev pub invariant-loop-name : goal.invariant-loop-name
invariant-loop-name l = l.out.items ≡ l.initial.out.items ++ flat_map (λ label. s4 (offset l.starts l.labels l.pc label)) (take l.name-index l.names)
