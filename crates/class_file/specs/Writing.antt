-- The bytes that are written of a class file (JVMS 4). Its parts are in the order of the grammar, and a method's code
-- is that of its layout.
use Rattle.std.specs.Prelude.{ℕ, List, ◌++◌, length, slice_get, unwrap_or}
use Rattle.std.specs.List.{flat_map}
use Rattle.jvms_file.specs.declared.class_file.KeptAttribute.{KeptAttribute}
use Rattle.jvms_file.specs.declared.class_file.FieldAttribute.{FieldAttribute}
use Rattle.jvms_file.specs.declared.class_file.FieldAttribute.TheVariants as field_attribute
use Rattle.jvms_file.specs.declared.class_file.MethodAttribute.{MethodAttribute}
use Rattle.jvms_file.specs.declared.class_file.MethodAttribute.TheVariants as method_attribute
use Rattle.jvms_file.specs.declared.class_file.Handler.{Handler}
use Rattle.jvms_file.specs.declared.class_file.Layout.{Layout}
use Rattle.jvms_file.specs.declared.class_file.Code.{Code}
use Rattle.jvms_file.specs.declared.class_file.FieldInfo.{FieldInfo}
use Rattle.jvms_file.specs.declared.class_file.MethodInfo.{MethodInfo}
use Rattle.jvms_file.specs.declared.class_file.ClassFile.{ClassFile}
use Rattle.jvms_file.specs.Spelling.{u2, u4}
use Rattle.const_pool.specs.Writing.{pool_bytes}

-- Returns a count of two bytes, followed by the bytes of the items.
abbrev pub counted_bytes : {A : Type 0} → (A → List ℕ) → List A → List ℕ
counted_bytes thing_bytes xs = u2 (length xs) ++ flat_map thing_bytes xs

-- ---- Attributes (JVMS 4.7)

-- Returns an attribute's name, the length of its content, and the content.
abbrev pub framed_bytes : ℕ → List ℕ → List ℕ
framed_bytes name content = u2 name ++ (u4 (length content) ++ content)

-- Returns the bytes of an attribute that is kept as bytes.
unfoldable pub kept_bytes : KeptAttribute → List ℕ
kept_bytes a = framed_bytes a.name a.bytes

-- Returns the bytes of an attribute of a field (JVMS 4.7.2).
unfoldable pub field_attribute_bytes : FieldAttribute → List ℕ
field_attribute_bytes (field_attribute.ConstantValue name value) = framed_bytes name (u2 value)
field_attribute_bytes (field_attribute.Kept a) = kept_bytes a

-- Returns the byte at which the instruction at a place starts, or the code's length for the place after the last.
abbrev pub pc_of : Layout → ℕ → ℕ
pc_of layout place = unwrap_or (slice_get layout.starts place) (length layout.bytes)

-- Returns the bytes of an entry of the exception table.
unfoldable pub handler_bytes : Layout → Handler → List ℕ
handler_bytes layout h =
    u2 (pc_of layout h.start) ++ (u2 (pc_of layout h.end) ++ (u2 (pc_of layout h.target) ++ u2 h.catch_type))

-- Returns the content of a Code attribute (JVMS 4.7.3).
unfoldable pub code_bytes : Code → List ℕ
code_bytes c =
    u2 c.max_stack ++ (u2 c.max_locals ++ (u4 (length c.layout.bytes) ++ (c.layout.bytes
    ++ (counted_bytes (handler_bytes c.layout) c.handlers ++ counted_bytes kept_bytes c.attributes))))

unfoldable pub method_attribute_bytes : MethodAttribute → List ℕ
method_attribute_bytes (method_attribute.Code name c) = framed_bytes name (code_bytes c)
method_attribute_bytes (method_attribute.Exceptions name classes) = framed_bytes name (counted_bytes u2 classes)
method_attribute_bytes (method_attribute.Kept a) = kept_bytes a

-- ---- Members (JVMS 4.5, 4.6)

-- Returns the access flags, the name and the descriptor of a member.
abbrev pub member_bytes : ℕ → ℕ → ℕ → List ℕ
member_bytes access name descriptor = u2 access ++ (u2 name ++ u2 descriptor)

unfoldable pub field_bytes : FieldInfo → List ℕ
field_bytes f = member_bytes f.access f.name f.descriptor ++ counted_bytes field_attribute_bytes f.attributes

unfoldable pub method_bytes : MethodInfo → List ℕ
method_bytes m = member_bytes m.access m.name m.descriptor ++ counted_bytes method_attribute_bytes m.attributes

-- ---- The class (JVMS 4.1)

-- Returns the magic number and the versions.
abbrev pub header_bytes : ClassFile → List ℕ
header_bytes c = u4 0xcafebabe ++ (u2 c.minor ++ u2 c.major)

-- Returns the access flags, the class and its superclass.
abbrev pub names_bytes : ClassFile → List ℕ
names_bytes c = u2 c.access ++ (u2 c.this_class ++ u2 c.super_class)

-- Returns the parts after the superclass.
abbrev pub members_bytes : ClassFile → List ℕ
members_bytes c =
    counted_bytes u2 c.interfaces ++ (counted_bytes field_bytes c.fields
    ++ (counted_bytes method_bytes c.methods ++ counted_bytes kept_bytes c.attributes))

unfoldable pub class_bytes : ClassFile → List ℕ
class_bytes c = header_bytes c ++ (pool_bytes c.pool ++ (names_bytes c ++ members_bytes c))
