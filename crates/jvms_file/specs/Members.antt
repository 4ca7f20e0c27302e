-- Attributes, fields and methods of a class file (JVMS 4.5 to 4.7), in the order of their bytes. Each test follows the
-- last byte that it needs. `cut` is the fault of missing bytes.
use Rattle.std.specs.Prelude.{ℕ, ◌+◌, Bool, true, false, not, ◌==◌, ◌&&◌, ◌||◌, nat_lt, nat_le, if◌then◌else◌, List, [], ◌∷◌, length, take, drop, Option, Some, None, is_some, bit_and, Result, Ok, Err, codes}
use Rattle.std.specs.List.{list_any}
use Rattle.jvms_file.specs.declared.class_file.Constant.{Constant}
use Rattle.jvms_file.specs.declared.class_file.Constant.TheVariants as constant
use Rattle.jvms_file.specs.declared.class_file.KeptAttribute.{KeptAttribute}
use Rattle.jvms_file.specs.declared.class_file.FieldAttribute.{FieldAttribute}
use Rattle.jvms_file.specs.declared.class_file.FieldAttribute.TheVariants as field_attribute
use Rattle.jvms_file.specs.declared.class_file.MethodAttribute.{MethodAttribute}
use Rattle.jvms_file.specs.declared.class_file.MethodAttribute.TheVariants as method_attribute
use Rattle.jvms_file.specs.declared.class_file.Handler.{Handler}
use Rattle.jvms_file.specs.declared.class_file.Code.{Code}
use Rattle.jvms_file.specs.declared.class_file.FieldInfo.{FieldInfo}
use Rattle.jvms_file.specs.declared.class_file.MethodInfo.{MethodInfo}
use Rattle.jvms_file.specs.declared.fault.ClassFault.{ClassFault}
use Rattle.jvms_file.specs.declared.fault.ClassFault.TheVariants as fault
use Rattle.jvms_file.specs.declared.descriptor.MethodType.{MethodType}
use Rattle.jvms_file.specs.Results.{◌>>=◌, want, part_list, part_list_onto}
use Rattle.jvms_file.specs.Bytes.{u2_at, u4_at, bytes_at}
use Rattle.jvms_file.specs.Names.{same_text, is_name, is_method_name, is_initializer_name}
use Rattle.jvms_file.specs.Descriptors.{field_type_of, method_type_of, parameter_units}
use Rattle.jvms_file.specs.ConstantPool.{entry, utf8_at, is_utf8, is_class}
use Rattle.jvms_file.specs.Code.{insns_of, layout_of, handlers_of}

-- ---- Access flags (JVMS tables 4.1-A, 4.5-A, 4.6-A), by their bit.

abbrev pub has_flag : ℕ → ℕ → Bool
has_flag flag access = not (bit_and access flag == 0)

abbrev pub is_private : ℕ → Bool
is_private access = has_flag 0x0002 access

abbrev pub is_static : ℕ → Bool
is_static access = has_flag 0x0008 access

abbrev pub is_synchronized : ℕ → Bool
is_synchronized access = has_flag 0x0020 access

abbrev pub is_native : ℕ → Bool
is_native access = has_flag 0x0100 access

abbrev pub is_interface : ℕ → Bool
is_interface access = has_flag 0x0200 access

abbrev pub is_abstract : ℕ → Bool
is_abstract access = has_flag 0x0400 access

-- ---- The content of an attribute.

-- An attribute's content, as far as the input has it, and the bytes after it. `whole` says whether the input has all of
-- it. `cut` is the fault of reading past its end: that of the attribute's length if it is whole, else that of missing
-- input.
pub record AttributeFrame : Type 0 where
  pub whole : Bool
  pub cut : ClassFault
  pub content : List ℕ
  pub after : List ℕ

abbrev pub attribute_frame : ClassFault → ℕ → List ℕ → AttributeFrame
attribute_frame cut count bytes =
    record {
      whole = nat_le count (length bytes);
      cut = if nat_le count (length bytes) then fault.AttributeLength else cut;
      content = take count bytes;
      after = drop count bytes;
    }

abbrev pub frame_at : ClassFault → List ℕ → Result AttributeFrame ClassFault
frame_at cut bytes = do
  count ← u4_at cut bytes
  Ok (attribute_frame cut count.0 count.1)

-- Tests that all of an attribute's content is there and was read.
abbrev pub want_all : AttributeFrame → List ℕ → Result (Unit {0}) ClassFault
want_all frame [] = want frame.whole frame.cut
want_all frame (b ∷ bytes) = Err frame.cut

-- Reads the rest of a kept attribute, after its name (JVMS 4.7).
abbrev pub kept_content_at : ClassFault → ℕ → List ℕ → Result (KeptAttribute × List ℕ) ClassFault
kept_content_at cut name bytes = do
  count ← u4_at cut bytes
  content ← bytes_at cut count.0 count.1
  Ok (record { name = name; bytes = content.0 }, content.1)

abbrev pub kept_at : List Constant → ClassFault → List ℕ → Result (KeptAttribute × List ℕ) ClassFault
kept_at pool cut bytes = do
  name ← u2_at cut bytes
  _ ← want (is_utf8 pool name.0) fault.Index
  kept_content_at cut name.0 name.1

abbrev pub kept_attributes_at : List Constant → ClassFault → List ℕ → Result (List KeptAttribute × List ℕ) ClassFault
kept_attributes_at pool cut bytes = do
  count ← u2_at cut bytes
  part_list (kept_at pool cut) count.0 count.1

-- Decides whether an entry is the text of an attribute's name.
abbrev pub is_named : List Constant → ℕ → List ℕ → Bool
is_named pool n name = is_same (utf8_at pool n)
  where
    is_same : Option (List ℕ) → Bool
    is_same None = false
    is_same (Some text) = same_text text name

-- ---- Fields (JVMS 4.5)

-- Decides whether a field's descriptor accepts a constant of this kind (JVMS table 4.7.2-A).
abbrev pub takes_constant : List ℕ → Constant → Bool
takes_constant descriptor (constant.Integer n) = is_int_descriptor descriptor
  where
    is_int_descriptor : List ℕ → Bool
    is_int_descriptor text =
        same_text text (codes "I") || same_text text (codes "B") || same_text text (codes "C") || same_text text (codes "S") || same_text text (codes "Z")
takes_constant descriptor (constant.Long n) = same_text descriptor (codes "J")
takes_constant descriptor (constant.Float n) = same_text descriptor (codes "F")
takes_constant descriptor (constant.Double n) = same_text descriptor (codes "D")
takes_constant descriptor (constant.String n) = same_text descriptor (codes "Ljava/lang/String;")
takes_constant descriptor _ = false

abbrev pub is_constant_of : Option (List ℕ) → Option Constant → Bool
is_constant_of (Some descriptor) (Some c) = takes_constant descriptor c
is_constant_of _ _ = false

-- Reads the content of a ConstantValue: the number of an entry that the field's descriptor accepts (JVMS 4.7.2).
abbrev pub constant_value_at : List Constant → ℕ → ℕ → AttributeFrame → Result (FieldAttribute × List ℕ) ClassFault
constant_value_at pool descriptor name frame = do
  value ← u2_at frame.cut frame.content
  _ ← want (is_constant_of (utf8_at pool descriptor) (entry pool value.0)) fault.Index
  _ ← want_all frame value.1
  Ok (field_attribute.ConstantValue name value.0, frame.after)

abbrev pub is_constant_value : FieldAttribute → Bool
is_constant_value (field_attribute.ConstantValue name value) = true
is_constant_value (field_attribute.Kept kept) = false

-- Reads the next attribute of a field, after those in `seen`. At most one is a ConstantValue (JVMS 4.5).
abbrev pub field_attribute_at : List Constant → ClassFault → ℕ → List FieldAttribute → List ℕ → Result (FieldAttribute × List ℕ) ClassFault
field_attribute_at pool cut descriptor seen bytes = do
  name ← u2_at cut bytes
  _ ← want (is_utf8 pool name.0) fault.Index
  (if is_named pool name.0 (codes "ConstantValue")
      then (do
        _ ← want (not (list_any is_constant_value seen)) fault.RepeatedAttribute
        frame ← frame_at cut name.1
        constant_value_at pool descriptor name.0 frame)
      else (kept_content_at cut name.0 name.1 >>= λ k. Ok (field_attribute.Kept k.0, k.1)))

-- Decides whether a text is there, and passes the test.
abbrev pub is_text_with : (List ℕ → Bool) → Option (List ℕ) → Bool
is_text_with test None = false
is_text_with test (Some text) = test text

abbrev pub same_entry_text : List Constant → ℕ → ℕ → Bool
same_entry_text pool m n = is_same (utf8_at pool m) (utf8_at pool n)
  where
    is_same : Option (List ℕ) → Option (List ℕ) → Bool
    is_same (Some a) (Some b) = same_text a b
    is_same _ _ = false

abbrev pub is_same_field : List Constant → ℕ → ℕ → FieldInfo → Bool
is_same_field pool name descriptor f = same_entry_text pool f.name name && same_entry_text pool f.descriptor descriptor

-- Reads the next field, after those in `seen` (JVMS 4.5).
unfoldable pub field_at : List Constant → ClassFault → List FieldInfo → List ℕ → Result (FieldInfo × List ℕ) ClassFault
field_at pool cut seen bytes = do
  access ← u2_at cut bytes
  name ← u2_at cut access.1
  _ ← want (is_utf8 pool name.0) fault.Index
  _ ← want (is_text_with is_name (utf8_at pool name.0)) fault.Descriptor
  descriptor ← u2_at cut name.1
  _ ← want (is_utf8 pool descriptor.0) fault.Index
  _ ← want (is_text_with (λ text. is_some (field_type_of text)) (utf8_at pool descriptor.0)) fault.Descriptor
  _ ← want (not (list_any (is_same_field pool name.0 descriptor.0) seen)) fault.RepeatedMember
  count ← u2_at cut descriptor.1
  attributes ← part_list_onto (field_attribute_at pool cut descriptor.0) [] count.0 count.1
  Ok (record { access = access.0; name = name.0; descriptor = descriptor.0; attributes = attributes.0 }, attributes.1)

-- Reads fields_count and the fields (JVMS 4.1).
abbrev pub fields_at : List Constant → ClassFault → List ℕ → Result (List FieldInfo × List ℕ) ClassFault
fields_at pool cut bytes = do
  count ← u2_at cut bytes
  part_list_onto (field_at pool cut) [] count.0 count.1

-- ---- Methods (JVMS 4.6)

-- Reads an entry of the exception table: three bytes in the code, and a class entry or 0 (JVMS 4.7.3).
abbrev pub handler_at : List Constant → ClassFault → List ℕ → Result (Handler × List ℕ) ClassFault
handler_at pool cut bytes = do
  start ← u2_at cut bytes
  end ← u2_at cut start.1
  target ← u2_at cut end.1
  catch_type ← u2_at cut target.1
  _ ← want (catch_type.0 == 0 || is_class pool catch_type.0) fault.Index
  Ok (record { start = start.0; end = end.0; target = target.0; catch_type = catch_type.0 }, catch_type.1)

abbrev pub is_code_length : ℕ → Bool
is_code_length n = nat_lt 0 n && nat_le n 65535

-- Reads the content of a Code attribute (JVMS 4.7.3). After its last byte its length is tested, then its instructions,
-- then its handlers.
unfoldable pub code_at : List Constant → ℕ → AttributeFrame → Result (Code × List ℕ) ClassFault
code_at pool major frame = do
  max_stack ← u2_at frame.cut frame.content
  max_locals ← u2_at frame.cut max_stack.1
  code_length ← u4_at frame.cut max_locals.1
  _ ← want (is_code_length code_length.0) fault.CodeLength
  bytes ← bytes_at frame.cut code_length.0 code_length.1
  count ← u2_at frame.cut bytes.1
  table ← part_list (handler_at pool frame.cut) count.0 count.1
  attributes ← kept_attributes_at pool frame.cut table.1
  _ ← want_all frame attributes.1
  insns ← insns_of pool major bytes.0
  handlers ← handlers_of insns.0 code_length.0 table.0
  Ok (record { max_stack = max_stack.0; max_locals = max_locals.0; layout = layout_of insns.0 insns.1 bytes.0; insns = insns.1; handlers = handlers; attributes = attributes.0 }, frame.after)

-- Reads the number of a Class entry.
abbrev pub class_number_at : List Constant → ClassFault → List ℕ → Result (ℕ × List ℕ) ClassFault
class_number_at pool cut bytes = do
  n ← u2_at cut bytes
  _ ← want (is_class pool n.0) fault.Index
  Ok (n.0, n.1)

-- Reads the content of an Exceptions attribute: class entries (JVMS 4.7.5).
abbrev pub exceptions_at : List Constant → AttributeFrame → Result (List ℕ × List ℕ) ClassFault
exceptions_at pool frame = do
  count ← u2_at frame.cut frame.content
  classes ← part_list (class_number_at pool frame.cut) count.0 count.1
  _ ← want_all frame classes.1
  Ok (classes.0, frame.after)

abbrev pub is_code : MethodAttribute → Bool
is_code (method_attribute.Code name code) = true
is_code _ = false

abbrev pub is_exceptions : MethodAttribute → Bool
is_exceptions (method_attribute.Exceptions name classes) = true
is_exceptions _ = false

-- Decides whether a method has to have Code. It has to unless it is native or abstract, and each <clinit> has to (JVMS
-- 4.7.3).
abbrev pub needs_code : Bool → ℕ → Bool
needs_code initializer access = initializer || not (is_native access || is_abstract access)

-- Reads the next attribute of a method, after those in `seen`. `code` says whether the method may have Code. At most
-- one is a Code, and at most one an Exceptions (JVMS 4.6).
abbrev pub method_attribute_at : List Constant → ℕ → ClassFault → Bool → List MethodAttribute → List ℕ → Result (MethodAttribute × List ℕ) ClassFault
method_attribute_at pool major cut code seen bytes = do
  name ← u2_at cut bytes
  _ ← want (is_utf8 pool name.0) fault.Index
  (if is_named pool name.0 (codes "Code")
      then (do
        _ ← want (not (list_any is_code seen)) fault.RepeatedAttribute
        _ ← want code fault.CodePresence
        frame ← frame_at cut name.1
        c ← code_at pool major frame
        Ok (method_attribute.Code name.0 c.0, c.1))
      else (if is_named pool name.0 (codes "Exceptions")
      then (do
        _ ← want (not (list_any is_exceptions seen)) fault.RepeatedAttribute
        frame ← frame_at cut name.1
        classes ← exceptions_at pool frame
        Ok (method_attribute.Exceptions name.0 classes.0, classes.1))
      else (kept_content_at cut name.0 name.1 >>= λ k. Ok (method_attribute.Kept k.0, k.1))))

abbrev pub is_initializer : List Constant → ℕ → Bool
is_initializer pool name = is_text_with is_initializer_name (utf8_at pool name)

-- Decides whether a text is a method's descriptor of at most 255 units, including the object that the method is called
-- on. A static method and <clinit> are called on none (JVMS 4.3.3).
abbrev pub is_method_descriptor_for : Bool → List ℕ → Bool
is_method_descriptor_for on_none text = fits (method_type_of text)
  where
    fits : Option MethodType → Bool
    fits None = false
    fits (Some t) = nat_le (parameter_units t + (if on_none then 0 else 1)) 255

abbrev pub is_same_method : List Constant → ℕ → ℕ → MethodInfo → Bool
is_same_method pool name descriptor m = same_entry_text pool m.name name && same_entry_text pool m.descriptor descriptor

-- Reads the next method of a class with these access flags, after those in `seen` (JVMS 4.6).
unfoldable pub method_at : List Constant → ℕ → ClassFault → ℕ → List MethodInfo → List ℕ → Result (MethodInfo × List ℕ) ClassFault
method_at pool major cut class_access seen bytes = do
  access ← u2_at cut bytes
  name ← u2_at cut access.1
  _ ← want (is_utf8 pool name.0) fault.Index
  _ ← want (is_text_with is_method_name (utf8_at pool name.0)) fault.Descriptor
  _ ← want (not (is_interface class_access) || is_initializer pool name.0 || is_abstract access.0) fault.CodePresence
  descriptor ← u2_at cut name.1
  _ ← want (is_utf8 pool descriptor.0) fault.Index
  _ ← want (is_text_with (is_method_descriptor_for (is_static access.0 || is_initializer pool name.0)) (utf8_at pool descriptor.0)) fault.Descriptor
  _ ← want (not (list_any (is_same_method pool name.0 descriptor.0) seen)) fault.RepeatedMember
  count ← u2_at cut descriptor.1
  attributes ← part_list_onto (method_attribute_at pool major cut (needs_code (is_initializer pool name.0) access.0)) [] count.0 count.1
  _ ← want (not (needs_code (is_initializer pool name.0) access.0) || list_any is_code attributes.0) fault.CodePresence
  Ok (record { access = access.0; name = name.0; descriptor = descriptor.0; attributes = attributes.0 }, attributes.1)

-- Reads methods_count and the methods of a class with these access flags (JVMS 4.1).
abbrev pub methods_at : List Constant → ℕ → ClassFault → ℕ → List ℕ → Result (List MethodInfo × List ℕ) ClassFault
methods_at pool major cut class_access bytes = do
  count ← u2_at cut bytes
  part_list_onto (method_at pool major cut class_access) [] count.0 count.1
