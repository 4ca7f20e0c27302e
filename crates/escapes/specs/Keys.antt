-- Members in texts: the class, the name and the descriptor, separated by dots (own).
use Rattle.std.specs.Prelude.{ℕ, Bool, List, ◌∷◌, ◌++◌, IsTrue, is_some}
use Rattle.jvms_file.specs.Texts.{IsText}
use Rattle.jvms_file.specs.Names.{is_class_name, is_name, is_method_name}
use Rattle.jvms_file.specs.Descriptors.{field_type_of, method_type_of}
use Rattle.jvms_program.specs.declared.key.FieldKey.{FieldKey}
use Rattle.jvms_program.specs.declared.key.MethodKey.{MethodKey}
use Rattle.escapes.specs.declared.sort.NameSort.{NameSort}
use Rattle.escapes.specs.declared.sort.NameSort.TheVariants as sort
use Rattle.escapes.specs.Escapes.{name_text}

-- Decides whether a text is a name of this sort (JVMS 4.2), or a descriptor (JVMS 4.3).
abbrev pub is_of : NameSort → List ℕ → Bool
is_of sort.Class us = is_class_name us
is_of sort.Field us = is_name us
is_of sort.Method us = is_method_name us
is_of sort.FieldDescriptor us = is_some (field_type_of us)
is_of sort.MethodDescriptor us = is_some (method_type_of us)

-- A name of this sort, of UTF-16 code units.
pub record IsNameOf (s : NameSort) (us : List ℕ) : Type 0 where
  pub units : IsText us
  pub sort : IsTrue (is_of s us)

-- A member's class, name and descriptor, the last two of these sorts.
pub record IsMember (name_sort descriptor_sort : NameSort) (c n d : List ℕ) : Type 0 where
  pub class : IsNameOf sort.Class c
  pub name : IsNameOf name_sort n
  pub descriptor : IsNameOf descriptor_sort d

abbrev pub IsFieldKey : FieldKey → Type 0
IsFieldKey f = IsMember sort.Field sort.FieldDescriptor f.class f.name f.descriptor

abbrev pub IsMethodKey : MethodKey → Type 0
IsMethodKey m = IsMember sort.Method sort.MethodDescriptor m.class m.name m.descriptor

-- Returns a member as it is written: its class, its name and its descriptor, separated by dots.
abbrev pub member_text : List ℕ → List ℕ → List ℕ → List ℕ
member_text class name descriptor = name_text class ++ 46 ∷ name_text name ++ 46 ∷ name_text descriptor

-- Returns a field as it is written: `C.x.D`.
abbrev pub field_text : FieldKey → List ℕ
field_text f = member_text f.class f.name f.descriptor

-- Returns a method as it is written: `C.m.D`.
abbrev pub method_text : MethodKey → List ℕ
method_text m = member_text m.class m.name m.descriptor
