-- A text of a constant pool, with the types that it is the descriptor of (own).
use Rattle.std.specs.Prelude.{ℕ, List, Option}
use Rattle.std.specs.Option.{option_map}
use Rattle.jvms_file.specs.declared.class_file.Constant.{Constant}
use Rattle.jvms_file.specs.ConstantPool.{utf8_of}
use Rattle.jvms_file.specs.Descriptors.{field_type, method_type}
use Rattle.linker.specs.declared.spelled.TypedText.{TypedText}

-- Returns a text with the types that it spells.
abbrev pub typed_text : List ℕ → TypedText
typed_text text = record { text = text; field_type = field_type text; method_type = method_type text }

-- Returns the text of an entry with its types, if it is a Utf8.
abbrev pub typed_text_of : Constant → Option TypedText
typed_text_of c = option_map typed_text (utf8_of c)
