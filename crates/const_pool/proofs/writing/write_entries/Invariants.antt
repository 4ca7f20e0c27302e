-- The entries so far have their bytes.
use Rattle.std.proofs.Common.{◌≡◌, ◌++◌, take, flat_map}
use Rattle.const_pool.specs.Writing.{constant_bytes}
use Rattle.const_pool.proofs.writing.write_entries.Given as goal

abbrev pub invariant-loop-constant : goal.invariant-loop-constant
invariant-loop-constant l = l.out.items ≡ l.initial.out.items ++ flat_map constant_bytes (take l.constant-index l.entries)
