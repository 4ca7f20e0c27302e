-- The units that are still to be decoded complete those so far, and no byte gives two units.
use Rattle.std.proofs.Common.{◌≡◌, ◌+◌, ◌≤◌, length}
use Rattle.jvms_file.specs.Texts.{text_of_bytes}
use Rattle.mutf8.proofs.Loop.{still}
use Rattle.mutf8.proofs.decoding.all_units.Given as goal

abbrev pub invariant-loop-rest : goal.invariant-loop-rest
invariant-loop-rest l = record {
  completes : still (length l.bytes) l.units l.rest ≡ text_of_bytes l.bytes;
  fits : length l.units + length l.rest ≤ length l.bytes;
}

abbrev pub decreases-loop-rest : goal.decreases-loop-rest
decreases-loop-rest l = length l.rest
