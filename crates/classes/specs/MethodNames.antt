-- A reference by its names.
use Rattle.jvms_program.specs.declared.program.MethodReference.{MethodReference}
use Rattle.jvms_file.specs.Descriptors.{method_type}
use Rattle.classes.specs.declared.methods.MethodNames.{MethodNames}

-- Returns the reference of these names.
abbrev pub reference : MethodNames → MethodReference
reference r =
    record { is_interface = r.is_interface; class = r.class.now; name = r.name.now; descriptor = r.descriptor.now; method_type = method_type r.descriptor.now }
