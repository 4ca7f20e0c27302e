-- The classes that are left of a class's chain of superclasses (own).
use Rattle.std.specs.Prelude.{List}
use Rattle.jvms_program.specs.declared.program.Class.{Class}
use Rattle.jvms_program.specs.Resolution.{chain_within}
use Rattle.classes.specs.declared.chain.Chain.{Chain}

abbrev pub classes_left : Chain → List Class
classes_left c = chain_within c.most c.program.now c.name.now
