use Rattle.std.proofs.Common.{◌≡◌, drop}
use Rattle.const_pool.specs.Firsts.{fingerprint_from, fingerprint_of}
use Rattle.const_pool.proofs.firsts.fingerprint.Given as goal

abbrev pub invariant-loop-unit : goal.invariant-loop-unit
invariant-loop-unit l = fingerprint_from l.fingerprint (drop l.unit-index l.text) ≡ fingerprint_of l.fn.text
