-- The first numbers and the forms of the texts of a pool's entries (own).
use Rattle.std.specs.Prelude.{ℕ, ◌+◌, Bool, false, ◌==◌, ◌&&◌, if◌then◌else◌, List, [], ◌∷◌, Option, Some, None, is_some}
use Rattle.std.specs.Option.{option_map, unwrap_or}
use Rattle.jvms_file.specs.declared.class_file.Constant.{Constant}
use Rattle.jvms_file.specs.Names.{same_text, is_name, is_method_name}
use Rattle.jvms_file.specs.Descriptors.{field_type_of, method_type_of, parameter_units, is_class_entry_name}
use Rattle.jvms_file.specs.ConstantPool.{utf8_of, utf8_at, begins_as_method as is_method_sort}
use Rattle.jvms_file.specs.Members.{is_text_with}
use Rattle.const_pool.specs.declared.forms.Forms.{Forms}
use Rattle.const_pool.specs.declared.scanned.Text.{Text}

-- ---- Forms

-- Returns the units of a method's parameters, if the text is a method's descriptor.
abbrev pub method_units_of : List ℕ → Option ℕ
method_units_of text = option_map parameter_units (method_type_of text)

abbrev pub forms_of : List ℕ → Forms
forms_of text =
    record {
      name = is_name text;
      method_name = is_method_name text;
      class_entry_name = is_class_entry_name text;
      field_descriptor = is_some (field_type_of text);
      method_sort = is_method_sort text;
      method_units = method_units_of text;
    }

-- Decides whether texts of these forms are a method's name and descriptor, or a field's (JVMS 4.4.6).
abbrev pub is_formed_member : Forms → Forms → Bool
is_formed_member name descriptor =
    if descriptor.method_sort
    then name.method_name && is_some descriptor.method_units
    else name.name && descriptor.field_descriptor

-- ---- Equal texts

-- Decides whether an entry is this text.
abbrev pub is_this : List ℕ → Constant → Bool
is_this text c = is_text_with (same_text text) (utf8_of c)

-- Returns the number of the first entry that is this text. n is the number of the first of these entries.
abbrev pub first_from : ℕ → List Constant → List ℕ → Option ℕ
first_from n [] text = None
first_from n (c ∷ cs) text = if is_this text c then Some n else first_from (n + 1) cs text

-- Returns the least number of an entry that is this text.
abbrev pub first_number : List Constant → List ℕ → Option ℕ
first_number pool text = first_from 1 pool text

-- Returns the number of a text after one more entry of number n: the one that it has, else n if the entry is the text.
abbrev pub known_after : Option ℕ → ℕ → List ℕ → Constant → Option ℕ
known_after (Some m) n text c = Some m
known_after None n text c = if is_this text c then Some n else None

-- Returns an entry's text, if it is one, with a number and its forms.
abbrev pub text_with : (List ℕ → ℕ) → Constant → Option Text
text_with number c = option_map (λ text. record { canonical = number text; forms = forms_of text }) (utf8_of c)

-- Returns the first number and the forms of an entry's text, if it is one.
abbrev pub text_of : List Constant → Constant → Option Text
text_of pool c = text_with (λ text. unwrap_or (first_number pool text) 0) c

-- Returns the least number of an entry whose text equals that of this number.
abbrev pub canonical : List Constant → ℕ → Option ℕ
canonical pool n = option_map (λ text. unwrap_or (first_number pool text) 0) (utf8_at pool n)

-- Decides whether two numbers are there and equal.
abbrev pub is_one_number : Option ℕ → Option ℕ → Bool
is_one_number (Some m) (Some n) = m == n
is_one_number _ _ = false
