-- The numbers that an entry takes (JVMS 4.4.5).
use Rattle.std.specs.Prelude.{ℕ, ◌&&◌, nat_lt, if◌then◌else◌, List, [], ◌∷◌}
use Rattle.jvms_file.specs.declared.class_file.Constant.{Constant}
use Rattle.jvms_file.specs.declared.class_file.Constant.TheVariants as constant
use Rattle.jvms_file.specs.ConstantPool.{takes_two}

-- Returns an entry, followed by an unusable one after a long or a double, if a number is left for it.
abbrev pub with_unusable : Constant → ℕ → List Constant
with_unusable c left = if takes_two c && nat_lt 1 left then c ∷ constant.Unusable ∷ [] else c ∷ []
