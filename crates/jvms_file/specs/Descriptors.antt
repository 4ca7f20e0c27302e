-- Types as descriptors spell them (JVMS 4.3). A descriptor has one spelling: the text of its type.
use Rattle.std.specs.Prelude.{◌≡◌, ℕ, zero, suc, ◌≤◌, Bool, true, false, ◌==◌, ◌&&◌, nat_lt, nat_le, IsTrue, List, [], ◌∷◌, ◌++◌, length, Option, Some, None, if◌then◌else◌, replicate, sum_by, is_some}
use Rattle.std.specs.Option.{option_and_then, option_map, unwrap_or}
use Rattle.std.specs.List.{flat_map, AllByRecursion, before_first, after_first, list_any, prefix_len}
use Rattle.jvms_file.specs.declared.descriptor.Primitive.{Primitive}
use Rattle.jvms_file.specs.declared.descriptor.Primitive.TheVariants as primitive
use Rattle.jvms_file.specs.declared.descriptor.Element.{Element}
use Rattle.jvms_file.specs.declared.descriptor.Element.TheVariants as element
use Rattle.jvms_file.specs.declared.descriptor.FieldType.{FieldType}
use Rattle.jvms_file.specs.declared.descriptor.ResultType.{ResultType}
use Rattle.jvms_file.specs.declared.descriptor.ResultType.TheVariants as result_type
use Rattle.jvms_file.specs.declared.descriptor.MethodType.{MethodType}
use Rattle.jvms_file.specs.Names.{is_class_name, same_text, begins_with}

-- Returns the letter of a primitive type (JVMS table 4.3-A).
abbrev pub letter_of : Primitive → ℕ
letter_of primitive.Byte = 66
letter_of primitive.Char = 67
letter_of primitive.Double = 68
letter_of primitive.Float = 70
letter_of primitive.Int = 73
letter_of primitive.Long = 74
letter_of primitive.Short = 83
letter_of primitive.Boolean = 90

abbrev pub primitive_of : ℕ → Option Primitive
primitive_of u =
    if u == 66 then Some primitive.Byte
    else (if u == 67 then Some primitive.Char
    else (if u == 68 then Some primitive.Double
    else (if u == 70 then Some primitive.Float
    else (if u == 73 then Some primitive.Int
    else (if u == 74 then Some primitive.Long
    else (if u == 83 then Some primitive.Short
    else (if u == 90 then Some primitive.Boolean
    else None)))))))

-- Returns the text of a type without its brackets: a letter, or L, a class's name and a semicolon (JVMS 4.3.2).
abbrev pub element_text : Element → List ℕ
element_text (element.Primitive p) = letter_of p ∷ []
element_text (element.Object name) = 76 ∷ name ++ 59 ∷ []

-- Returns the descriptor of a field (JVMS 4.3.2).
abbrev pub field_text : FieldType → List ℕ
field_text t = replicate t.dimensions 91 ++ element_text t.element

-- Returns the descriptor of a method's result (JVMS 4.3.3).
abbrev pub result_text : ResultType → List ℕ
result_text result_type.Void = 86 ∷ []
result_text (result_type.Value t) = field_text t

-- Returns the descriptor of a method (JVMS 4.3.3): the parameters' texts in parentheses, and the result's.
abbrev pub method_text : MethodType → List ℕ
method_text t = 40 ∷ flat_map field_text t.parameters ++ 41 ∷ result_text t.result

-- An element's class has a well-formed name.
abbrev pub IsElement : Element → Type 0
IsElement (element.Primitive p) = Unit {0}
IsElement (element.Object name) = IsTrue (is_class_name name)

-- A field's type has at most 255 dimensions (JVMS 4.3.2).
abbrev pub IsFieldType : FieldType → Type 0
IsFieldType t = (t.dimensions ≤ 255) × IsElement t.element

abbrev pub IsResultType : ResultType → Type 0
IsResultType result_type.Void = Unit {0}
IsResultType (result_type.Value t) = IsFieldType t

-- Decides whether a type is long or double, which have two units (JVMS 4.3.3).
abbrev pub is_wide : Element → Bool
is_wide (element.Primitive primitive.Long) = true
is_wide (element.Primitive primitive.Double) = true
is_wide _ = false

-- Returns the number of units of a parameter (JVMS 4.3.3).
abbrev pub units_of : FieldType → ℕ
units_of t = if t.dimensions == 0 && is_wide t.element then 2 else 1

-- Returns the number of units of a method's parameters, without the object that it is called on (JVMS 4.3.3).
abbrev pub parameter_units : MethodType → ℕ
parameter_units t = sum_by units_of t.parameters

-- A method's parameters have at most 255 units (JVMS 4.3.3).
abbrev pub IsMethodType : MethodType → Type 0
IsMethodType t = AllByRecursion IsFieldType t.parameters × IsResultType t.result × (parameter_units t ≤ 255)

-- This text spells this type.
abbrev pub SpellsFieldType : List ℕ → FieldType → Type 0
SpellsFieldType text t = IsFieldType t × (text ≡ field_text t)

abbrev pub SpellsMethodType : List ℕ → MethodType → Type 0
SpellsMethodType text t = IsMethodType t × (text ≡ method_text t)

-- ---- The type that a text spells, if it spells one.

-- Reads the class's type after the L, up to the semicolon, with d brackets before it. Returns it and the text after it.
abbrev pub object_type_from : ℕ → List ℕ → Option (FieldType × List ℕ)
object_type_from d us =
    let name = before_first (λ u. u == 59) us in
    if list_any (λ u. u == 59) us && is_class_name name
    then Some (record { dimensions = d; element = element.Object name }, after_first (λ u. u == 59) us)
    else None

-- Reads the type at the front of a text that follows d brackets. Returns it and the text after it.
unfoldable pub field_type_from : ℕ → List ℕ → Option (FieldType × List ℕ)
field_type_from d [] = None
field_type_from d (u ∷ us) =
    if u == 91 then (if nat_lt d 255 then field_type_from (suc d) us else None)
    else (if u == 76 then object_type_from d us
    else option_map (λ p. (record { dimensions = d; element = element.Primitive p }, us)) (primitive_of u))

abbrev pub without_rest : {A : Type 0} → Option (A × List ℕ) → Option A
without_rest None = None
without_rest (Some (x, [])) = Some x
without_rest (Some (x, u ∷ us)) = None

abbrev pub field_type_of : List ℕ → Option FieldType
field_type_of text = without_rest (field_type_from 0 text)

-- Reads the parameters up to the closing parenthesis. Returns them and the text after it. A text of n units has at most
-- n parameters, so `most` = n is enough.
unfoldable pub parameters_from : ℕ → List ℕ → Option (List FieldType × List ℕ)
parameters_from most [] = None
parameters_from zero (u ∷ us) = None
parameters_from (suc most) (u ∷ us) =
    if u == 41 then Some ([], us)
    else option_and_then
    (λ t. option_map (λ ts. (t.0 ∷ ts.0, ts.1)) (parameters_from most t.1))
    (field_type_from 0 (u ∷ us))

abbrev pub result_type_of : List ℕ → Option ResultType
result_type_of text =
    if same_text text (86 ∷ []) then Some result_type.Void
    else option_map (λ t. result_type.Value t) (field_type_of text)

abbrev pub within_255_units : MethodType → Option MethodType
within_255_units t = if nat_le (parameter_units t) 255 then Some t else None

unfoldable pub method_type_of : List ℕ → Option MethodType
method_type_of [] = None
method_type_of (u ∷ us) =
    if u == 40
    then option_and_then
    (λ ts. option_and_then
    (λ r. within_255_units (record { parameters = ts.0; result = r }))
    (result_type_of ts.1))
    (parameters_from (length us) us)
    else None

-- Decides whether a class entry's name (JVMS 4.4.1) is an array's descriptor, not a class's name.
abbrev pub is_array_name : List ℕ → Bool
is_array_name us = begins_with 91 us

abbrev pub is_class_entry_name : List ℕ → Bool
is_class_entry_name us = if is_array_name us then is_some (field_type_of us) else is_class_name us

-- Returns the number of dimensions of the class with this name, or 0 if it is no array.
abbrev pub dimensions_of : List ℕ → ℕ
dimensions_of us = prefix_len (λ u. u == 91) us

-- ---- The type of a text that spells one. A text that spells none gets int, or no parameters and no result.

abbrev pub int_type : FieldType
int_type = record { dimensions = 0; element = element.Primitive primitive.Int }

abbrev pub field_type : List ℕ → FieldType
field_type text = unwrap_or (field_type_of text) int_type

abbrev pub method_type : List ℕ → MethodType
method_type text = unwrap_or (method_type_of text) (record { parameters = []; result = result_type.Void })
