-- The parts of parsing a descriptor that have functions of their own.
use Rattle.std.specs.Prelude.{ℕ, ◌+◌, Bool, not, ◌&&◌, ◌==◌, nat_le, List, [], ◌∷◌, ◌++◌, length, Option, Some, None, if◌then◌else◌}
use Rattle.std.specs.Option.{option_and_then, option_map}
use Rattle.std.specs.List.{before_first, after_first, list_all, list_any, sum_by}
use Rattle.jvms_file.specs.declared.descriptor.Element.{Element}
use Rattle.jvms_file.specs.declared.descriptor.Element.TheVariants as element
use Rattle.jvms_file.specs.declared.descriptor.FieldType.{FieldType}
use Rattle.jvms_file.specs.declared.descriptor.MethodType.{MethodType}
use Rattle.jvms_file.specs.Names.{is_angle, is_class_name, is_reserved}
use Rattle.jvms_file.specs.Descriptors.{primitive_of, parameters_from, units_of, result_type_of, within_255_units}
use Rattle.descriptor.specs.declared.scan.ParsedElement.{ParsedElement}
use Rattle.descriptor.specs.declared.scan.ParsedElement.TheVariants as innermost
use Rattle.descriptor.specs.declared.scan.ParsedType.{ParsedType}

-- Decides whether no unit of a text is reserved.
abbrev pub is_unreserved : List ℕ → Bool
is_unreserved us = list_all (λ u. not (is_reserved u)) us

-- Decides whether a text has neither < nor >.
abbrev pub has_no_angles : List ℕ → Bool
has_no_angles us = list_all (λ u. not (is_angle u)) us

-- Returns the element that a slice of a text denotes.
abbrev pub element_of : ParsedElement → Element
element_of (innermost.Primitive p) = element.Primitive p
element_of (innermost.Object name) = element.Object name.now

-- Returns a parsed type, with its class name as a value.
abbrev pub type_of : ParsedType → FieldType
type_of s = record { dimensions = s.dimensions; element = element_of s.innermost }

-- Reads the element after the L of a class's type: its name up to the semicolon. Returns it and the text after that.
abbrev pub object_at : List ℕ → Option (Element × List ℕ)
object_at us =
    if list_any (λ u. u == 59) us && is_class_name (before_first (λ u. u == 59) us)
    then Some (element.Object (before_first (λ u. u == 59) us), after_first (λ u. u == 59) us)
    else None

-- Reads the element after the brackets: a letter's primitive type, or a class's type. Returns it and the text after it.
abbrev pub element_at : List ℕ → Option (Element × List ℕ)
element_at [] = None
element_at (u ∷ us) =
    if u == 76 then object_at us
    else option_map (λ p. (element.Primitive p, us)) (primitive_of u)

-- Returns an element with d brackets before it, and the text after it.
abbrev pub with_dimensions : ℕ → Element × List ℕ → FieldType × List ℕ
with_dimensions d x = (record { dimensions = d; element = x.0 }, x.1)

-- Returns a type with d brackets, if there are at most 255.
abbrev pub at_front : ℕ → Option (Element × List ℕ) → Option (FieldType × List ℕ)
at_front d x = if nat_le d 255 then option_map (λ y. with_dimensions d y) x else None

-- Reads the parameters up to the closing parenthesis, after those that were parsed already.
unfoldable pub parameters_after : List FieldType → List ℕ → Option (List FieldType × List ℕ)
parameters_after front us = option_map (λ x. (front ++ x.0, x.1)) (parameters_from (length us) us)

-- Returns the units of the parameters up to the closing parenthesis, added to those that were counted already.
unfoldable pub units_after : ℕ → List ℕ → Option (ℕ × List ℕ)
units_after units us = option_map (λ x. (units + sum_by units_of x.0, x.1)) (parameters_from (length us) us)

-- Returns the text after the opening parenthesis.
abbrev pub after_parenthesis : List ℕ → Option (List ℕ)
after_parenthesis [] = None
after_parenthesis (u ∷ us) = if u == 40 then Some us else None

-- Reads a method's type from the text after its opening parenthesis.
unfoldable pub method_after : List ℕ → Option MethodType
method_after us =
    option_and_then
    (λ ts. option_and_then (λ r. within_255_units (record { parameters = ts.0; result = r })) (result_type_of ts.1))
    (parameters_after [] us)
