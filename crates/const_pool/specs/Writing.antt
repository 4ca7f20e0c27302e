-- The bytes that spell a constant pool (JVMS 4.4).
use Rattle.std.specs.Prelude.{ℕ, ◌+◌, List, [], ◌∷◌, ◌++◌, length}
use Rattle.std.specs.List.{flat_map}
use Rattle.std.specs.Int.{w32, w64, cast_unsigned}
use Rattle.jvms_file.specs.declared.class_file.Constant.{Constant}
use Rattle.jvms_file.specs.declared.class_file.Constant.TheVariants as constant
use Rattle.jvms_file.specs.Texts.{bytes_of_text}
use Rattle.jvms_file.specs.Spelling.{u2, u4, u8}

-- Returns the bytes of a text: the length of its Modified UTF-8, and its bytes (JVMS 4.4.7).
abbrev pub text_bytes : List ℕ → List ℕ
text_bytes text = 1 ∷ (u2 (length (bytes_of_text text)) ++ bytes_of_text text)

-- Returns the bytes of an entry: its tag (JVMS table 4.4-A), and its content. A signed number is written as two's
-- complement. The number after a long or a double names nothing, and has no bytes (JVMS 4.4.5).
unfoldable pub constant_bytes : Constant → List ℕ
constant_bytes (constant.Utf8 text) = text_bytes text
constant_bytes (constant.Integer n) = 3 ∷ u4 (cast_unsigned w32 n)
constant_bytes (constant.Float n) = 4 ∷ u4 n
constant_bytes (constant.Long n) = 5 ∷ u8 (cast_unsigned w64 n)
constant_bytes (constant.Double n) = 6 ∷ u8 n
constant_bytes (constant.Class name) = 7 ∷ u2 name
constant_bytes (constant.String text) = 8 ∷ u2 text
constant_bytes (constant.Field class name_and_type) = 9 ∷ (u2 class ++ u2 name_and_type)
constant_bytes (constant.Method class name_and_type) = 10 ∷ (u2 class ++ u2 name_and_type)
constant_bytes (constant.InterfaceMethod class name_and_type) = 11 ∷ (u2 class ++ u2 name_and_type)
constant_bytes (constant.NameAndType name descriptor) = 12 ∷ (u2 name ++ u2 descriptor)
constant_bytes constant.Unusable = []

-- Returns constant_pool_count, which is one more than the last number, and the entries in order (JVMS 4.1).
abbrev pub pool_bytes : List Constant → List ℕ
pool_bytes pool = u2 (length pool + 1) ++ flat_map constant_bytes pool
