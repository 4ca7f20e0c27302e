-- The pending objects that a failed initialisation replaces (JVMS 5.5).
use Rattle.std.specs.Prelude.{ℕ, Bool, not, ◌&&◌, List, codes}
use Rattle.jvms_program.specs.declared.program.Class.{Class}
use Rattle.jvms_program.specs.Resolution.{fits}

-- Decides whether a failed initialisation of a class replaces a pending object of a class. It does if its `<clinit>`
-- was called and the object is no Error.
abbrev pub is_replaced : List Class → Bool → List ℕ → Bool
is_replaced program called class = called && not (fits program class (codes "java/lang/Error"))
