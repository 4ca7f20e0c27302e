-- Defines hints why a compiler may have added an instruction that isn't in the source (own).
use Rattle.std.specs.Prelude.{ℕ, Bool, true, false, ◌==◌, ◌&&◌, ◌||◌, List, [], codes, if◌then◌else◌}
use Rattle.std.specs.List.{list_any}
use Rattle.jvms_program.specs.declared.thrown.Thrown.TheVariants as thrown
use Rattle.jvms_file.specs.Names.{same_text}
use Rattle.needs.specs.declared.lack.Lack.{Lack}
use Rattle.needs.specs.declared.lack.Lack.TheVariants as lack

abbrev pub is_absence : Lack → Bool
is_absence (lack.Unresolved thrown.NoClassDefFoundError) = true
is_absence _ = false

abbrev pub is_text_builder : List ℕ → Bool
is_text_builder class = same_text class (codes "java/lang/StringBuilder") || same_text class (codes "java/lang/StringBuffer")

abbrev pub is_assertion : List ℕ → List ℕ → Bool
is_assertion class member =
    same_text class (codes "java/lang/AssertionError")
    || (same_text class (codes "java/lang/Class") && same_text member (codes "desiredAssertionStatus"))

abbrev pub is_box : List ℕ → Bool
is_box class =
    same_text class (codes "java/lang/Integer") || same_text class (codes "java/lang/Long")
    || same_text class (codes "java/lang/Short") || same_text class (codes "java/lang/Byte")
    || same_text class (codes "java/lang/Character") || same_text class (codes "java/lang/Boolean")

abbrev pub is_boxing : List ℕ → Bool
is_boxing member =
    same_text member (codes "valueOf")
    || same_text member (codes "intValue") || same_text member (codes "longValue")
    || same_text member (codes "shortValue") || same_text member (codes "byteValue")
    || same_text member (codes "charValue") || same_text member (codes "booleanValue")

-- Returns the hint for an instruction that names neither a class nor a member. Outside of the profile are those of
-- floats and doubles.
abbrev pub unnamed_hint : Lack → List ℕ
unnamed_hint lack.OutOfProfile = codes " (float or double)"
unnamed_hint _ = []

-- Returns the hint for a class and the name of a member, which is empty if no member is named. A compiler puts a class
-- with a dollar sign in its name into a file of its own.
abbrev pub hint_of : Lack → List ℕ → List ℕ → List ℕ
hint_of lack class member =
    if is_text_builder class then codes " (+ on strings)"
    else (if is_assertion class member then codes " (assert)"
    else (if is_box class && is_boxing member then codes " (boxing)"
    else (if same_text class (codes "java/lang/Enum") then codes " (enum)"
    else (if is_absence lack && list_any (λ u. u == 36) class then codes " (a class of another file)"
    else []))))
