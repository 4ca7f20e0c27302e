use Rattle.std.proofs.Common.{◌≡◌, map}
use Rattle.jvms_program.specs.Meaning.{method_of}
use Rattle.linker.proofs.method.methods_of.Given as goal

abbrev pub invariant-loop-info : goal.invariant-loop-info
invariant-loop-info l = l.methods.items ≡ map (method_of l.texts) l.yielded
