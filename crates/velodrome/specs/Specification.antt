-- Defines which methods are atomic. The last line about a method decides, and a method without a line is plain. This
-- format is our own.
use Rattle.std.specs.Prelude.{ℕ, Bool, true, false, not, ◌&&◌, if◌then◌else◌, List, [], ◌∷◌}
use Rattle.jvms_file.specs.Names.{is_initializer_name, same_text}
use Rattle.jvms_program.specs.BuiltIn.{is_built_in}
use Rattle.jvms_program.specs.declared.key.MethodKey.{MethodKey}
use Rattle.velodrome.specs.declared.specification.Pattern.{Pattern}
use Rattle.velodrome.specs.declared.specification.Pattern.TheVariants as pattern
use Rattle.velodrome.specs.declared.specification.SpecificationLine.{SpecificationLine}

abbrev pub Specification : Type 0
Specification = List SpecificationLine

-- Decides whether a pattern includes a method.
abbrev pub is_of : Pattern → MethodKey → Bool
is_of pattern.All m = true
is_of (pattern.Class c) m = same_text m.class c
is_of (pattern.Named c n) m = same_text m.class c && same_text m.name n
is_of (pattern.Exactly c n d) m = same_text m.class c && same_text m.name n && same_text m.descriptor d

-- Returns the value of the last line about a method, or `before` if no line is about it.
abbrev pub last_decision : Bool → Specification → MethodKey → Bool
last_decision before [] m = before
last_decision before (line ∷ lines) m = last_decision (if is_of line.pattern m then line.is_atomic else before) lines m

-- Decides whether a method is atomic: the lines say so. `<clinit>` and the methods of built-in classes never are.
unfoldable pub is_atomic : Specification → MethodKey → Bool
is_atomic lines m = last_decision false lines m && not (is_initializer_name m.name) && not (is_built_in m.class)
