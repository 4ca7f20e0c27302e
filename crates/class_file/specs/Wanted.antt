-- Parts of the reading of members that have functions of their own.
use Rattle.std.specs.Prelude.{ℕ, Bool, false, not, ◌||◌, nat_le, if◌then◌else◌, List, [], Option, None, Some, Result, Ok}
use Rattle.std.specs.List.{list_any}
use Rattle.jvms_file.specs.declared.class_file.Constant.{Constant}
use Rattle.jvms_file.specs.declared.class_file.FieldAttribute.{FieldAttribute}
use Rattle.jvms_file.specs.declared.class_file.Handler.{Handler}
use Rattle.jvms_file.specs.declared.class_file.MethodAttribute.{MethodAttribute}
use Rattle.jvms_file.specs.declared.class_file.MethodAttribute.TheVariants as method_attribute
use Rattle.jvms_file.specs.declared.class_file.MethodInfo.{MethodInfo}
use Rattle.jvms_file.specs.declared.fault.ClassFault.{ClassFault}
use Rattle.jvms_file.specs.declared.fault.ClassFault.TheVariants as fault
use Rattle.jvms_file.specs.Results.{◌>>=◌, want, present, part_list, part_list_onto}
use Rattle.jvms_file.specs.Bytes.{u2_at, bytes_at}
use Rattle.jvms_file.specs.Code.{handler_places}
use Rattle.jvms_file.specs.ConstantPool.{utf8_at, is_utf8}
use Rattle.jvms_file.specs.Members.{is_text_with, is_interface, is_abstract, is_code, is_code_length, frame_at, field_attribute_at, handler_at, class_number_at, code_at, exceptions_at, method_attribute_at, needs_code, is_initializer, is_static, is_method_descriptor_for, is_same_method}
use Rattle.const_pool.specs.declared.forms.Forms.{Forms}
use Rattle.class_file.specs.declared.method.Head.{Head}

-- Tests that a number is that of a text that passes the test.
abbrev pub text_wanted : (List ℕ → Bool) → List Constant → ℕ → Result (Unit {0}) ClassFault
text_wanted test pool n = do
  _ ← want (is_utf8 pool n) fault.Index
  want (is_text_with test (utf8_at pool n)) fault.Descriptor

-- Reads attributes_count and the attributes of a field.
abbrev pub field_attributes_at : List Constant → ClassFault → ℕ → List ℕ → Result (List FieldAttribute × List ℕ) ClassFault
field_attributes_at pool cut descriptor bytes = do
  count ← u2_at cut bytes
  part_list_onto (field_attribute_at pool cut descriptor) [] count.0 count.1

-- Decides whether a text of these forms is the descriptor of a method that is called on an object, or on none (JVMS
-- 4.3.3).
abbrev pub is_formed_descriptor : Bool → Forms → Bool
is_formed_descriptor on_none forms = is_few forms.method_units
  where
    is_few : Option ℕ → Bool
    is_few None = false
    is_few (Some units) = nat_le units (if on_none then 255 else 254)

-- Reads the bytes of instructions, after their length.
abbrev pub code_bytes_at : ClassFault → ℕ → List ℕ → Result (List ℕ × List ℕ) ClassFault
code_bytes_at cut code_length bytes = do
  _ ← want (is_code_length code_length) fault.CodeLength
  bytes_at cut code_length bytes

-- Reads exception_table_length and the entries of the table.
abbrev pub exception_table_at : List Constant → ClassFault → List ℕ → Result (List Handler × List ℕ) ClassFault
exception_table_at pool cut bytes = do
  count ← u2_at cut bytes
  part_list (handler_at pool cut) count.0 count.1

-- Returns an entry of the table with places for bytes.
abbrev pub handler_placed : List ℕ → ℕ → Handler → Result Handler ClassFault
handler_placed starts code_length handler = present (handler_places starts code_length handler) fault.Handler

-- Reads number_of_exceptions and the numbers of their classes.
abbrev pub classes_at : List Constant → ClassFault → List ℕ → Result (List ℕ × List ℕ) ClassFault
classes_at pool cut bytes = do
  count ← u2_at cut bytes
  part_list (class_number_at pool cut) count.0 count.1

-- Reads a Code attribute, after its name.
abbrev pub code_attribute_at : List Constant → ℕ → ClassFault → ℕ → List ℕ → Result (MethodAttribute × List ℕ) ClassFault
code_attribute_at pool major cut name bytes = do
  frame ← frame_at cut bytes
  c ← code_at pool major frame
  Ok (method_attribute.Code name c.0, c.1)

-- Reads an Exceptions attribute, after its name.
abbrev pub exceptions_attribute_at : List Constant → ClassFault → ℕ → List ℕ → Result (MethodAttribute × List ℕ) ClassFault
exceptions_attribute_at pool cut name bytes = do
  frame ← frame_at cut bytes
  classes ← exceptions_at pool frame
  Ok (method_attribute.Exceptions name classes.0, classes.1)

-- Reads the attributes of a method, after its access flags, name and descriptor. The method has Code exactly if `code`
-- is true.
abbrev pub method_after : List Constant → ℕ → ClassFault → Head → Bool → List ℕ → Result (MethodInfo × List ℕ) ClassFault
method_after pool major cut head code bytes = do
  count ← u2_at cut bytes
  attributes ← part_list_onto (method_attribute_at pool major cut code) [] count.0 count.1
  _ ← want (not code || list_any is_code attributes.0) fault.CodePresence
  Ok (record { access = head.access; name = head.name; descriptor = head.descriptor; attributes = attributes.0 }, attributes.1)

-- Reads a method, after its access flags and name. `seen` are the methods before it.
abbrev pub named_method_at : List Constant → ℕ → ClassFault → ℕ → ℕ → List MethodInfo → List ℕ → Result (MethodInfo × List ℕ) ClassFault
named_method_at pool major cut access name seen bytes = do
  descriptor ← u2_at cut bytes
  _ ← want (is_utf8 pool descriptor.0) fault.Index
  _ ← want (is_text_with (is_method_descriptor_for (is_static access || is_initializer pool name)) (utf8_at pool descriptor.0)) fault.Descriptor
  _ ← want (not (list_any (is_same_method pool name descriptor.0) seen)) fault.RepeatedMember
  method_after pool major cut (record { access = access; name = name; descriptor = descriptor.0 }) (needs_code (is_initializer pool name) access) descriptor.1

-- Tests that a method of an interface is abstract, except its initializer.
abbrev pub is_placed_method : ℕ → Bool → ℕ → Bool
is_placed_method class_access initializer access = not (is_interface class_access) || initializer || is_abstract access
