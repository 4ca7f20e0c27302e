use Rattle.std.proofs.Common.{◌≡◌, [], drop}
use Rattle.const_pool.specs.Interning.{pool_of}
use Rattle.assembly.specs.Assembled.{fields_onto}
use Rattle.assembler.proofs.fields.fields_of.Given as goal

abbrev pub invariant-loop-field : goal.invariant-loop-field
invariant-loop-field l = fields_onto l.infos (pool_of l.entries) (drop l.field-index l.fields) ≡ fields_onto [] (pool_of l.fn.entries) l.fields
