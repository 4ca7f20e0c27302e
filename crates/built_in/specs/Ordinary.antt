-- The built-in classes, except those below Throwable (own).
use Rattle.std.specs.Prelude.{List, [], ◌∷◌}
use Rattle.jvms_program.specs.declared.program.Class.{Class}
use Rattle.jvms_program.specs.BuiltIn.{throwable_class, with_ordinary_classes}

abbrev pub ordinary_classes : List Class
ordinary_classes = with_ordinary_classes (throwable_class ∷ [])
