-- Resolution and selection by names (JVMS 5.4.3, 6.5 checkcast, invokeinterface, invokespecial, invokevirtual). A
-- superclass or a superinterface is always there. A class that isn't its own ancestor has at most as many ancestors as
-- the program has classes, so a search of that depth is enough.
use Rattle.std.specs.Prelude.{ℕ, zero, suc, Bool, true, false, not, ◌==◌, ◌&&◌, ◌||◌, nat_lt, if◌then◌else◌, List, [], ◌∷◌, ◌++◌, length, Option, Some, None, is_some, Result, Ok, codes}
use Rattle.std.specs.Option.{option_and_then, option_map}
use Rattle.std.specs.List.{find, flat_map, list_any}
use Rattle.jvms_file.specs.declared.descriptor.Element.{Element}
use Rattle.jvms_file.specs.declared.descriptor.Element.TheVariants as element
use Rattle.jvms_file.specs.declared.descriptor.FieldType.{FieldType}
use Rattle.jvms_file.specs.declared.insn.FieldUse.{FieldUse}
use Rattle.jvms_file.specs.declared.insn.FieldUse.TheVariants as field_use
use Rattle.jvms_file.specs.declared.insn.Invoke.{Invoke}
use Rattle.jvms_file.specs.declared.insn.Invoke.TheVariants as invoke
use Rattle.jvms_program.specs.declared.thrown.Thrown.{Thrown}
use Rattle.jvms_program.specs.declared.thrown.Thrown.TheVariants as thrown
use Rattle.jvms_program.specs.declared.program.Class.{Class}
use Rattle.jvms_program.specs.declared.program.ClassKind.{ClassKind}
use Rattle.jvms_program.specs.declared.program.ClassKind.TheVariants as kind
use Rattle.jvms_program.specs.declared.program.Field.{Field}
use Rattle.jvms_program.specs.declared.program.Method.{Method}
use Rattle.jvms_program.specs.declared.program.FieldReference.{FieldReference}
use Rattle.jvms_program.specs.declared.program.MethodReference.{MethodReference}
use Rattle.jvms_file.specs.Names.{same_text, is_constructor_name}
use Rattle.jvms_file.specs.Descriptors.{field_type_of, is_array_name, letter_of}
use Rattle.jvms_file.specs.Results.{◌>>=◌, want, present}
use Rattle.jvms_program.specs.declared.number.MethodNumber.{MethodNumber}
use Rattle.jvms_program.specs.declared.number.FieldNumber.{FieldNumber}
use Rattle.jvms_program.specs.Program.{class_named, class_number, declared_number, declared_field_number}
use Rattle.jvms_program.specs.BuiltIn.{object}

-- ---- Ancestors

-- Returns a class, its superclass, and so on, at most `most` classes.
unfoldable pub chain_within : ℕ → List Class → List ℕ → List Class
chain_within zero program name = []
chain_within (suc most) program name = from_class (class_named program name) (λ super. chain_within most program super)
  where
    above : Option (List ℕ) → (List ℕ → List Class) → List Class
    above None next = []
    above (Some super) next = next super

    from_class : Option Class → (List ℕ → List Class) → List Class
    from_class None next = []
    from_class (Some c) next = c ∷ above c.superclass next

abbrev pub chain : List Class → List ℕ → List Class
chain program name = chain_within (length program) program name

-- Returns a class, followed by the ancestries of its superinterfaces in order, followed by that of its superclass.
unfoldable pub ancestry_within : ℕ → List Class → List ℕ → List Class
ancestry_within zero program name = []
ancestry_within (suc most) program name = from_class (class_named program name) (λ super. ancestry_within most program super)
  where
    above : Option (List ℕ) → (List ℕ → List Class) → List Class
    above None next = []
    above (Some super) next = next super

    from_class : Option Class → (List ℕ → List Class) → List Class
    from_class None next = []
    from_class (Some c) next = c ∷ flat_map next c.interfaces ++ above c.superclass next

abbrev pub ancestry : List Class → List ℕ → List Class
ancestry program name = ancestry_within (length program) program name

-- Returns the names of a class's superinterfaces and of its superclass.
abbrev pub supers_of : Class → List (List ℕ)
supers_of c = c.interfaces ++ listed c.superclass
  where
    listed : Option (List ℕ) → List (List ℕ)
    listed None = []
    listed (Some name) = name ∷ []

abbrev pub names_class : List ℕ → List Class → Bool
names_class name classes = list_any (λ c. same_text c.name name) classes

-- ---- Subtypes (JVMS 4.10.1.2, 6.5 checkcast)

-- Decides whether a class is one of which every array is a subtype (JVMS 4.10.1.2).
abbrev pub is_array_ancestor : List ℕ → Bool
is_array_ancestor name =
    same_text name object || same_text name (codes "java/lang/Cloneable") || same_text name (codes "java/io/Serializable")

abbrev pub is_element_subtype : List Class → Element → Element → Bool
is_element_subtype program (element.Primitive p) (element.Primitive q) = letter_of p == letter_of q
is_element_subtype program (element.Object a) (element.Object b) = names_class b (ancestry program a)
is_element_subtype program (element.Primitive p) (element.Object b) = false
is_element_subtype program (element.Object a) (element.Primitive q) = false

abbrev pub is_array_ancestor_element : Element → Bool
is_array_ancestor_element (element.Primitive p) = false
is_array_ancestor_element (element.Object name) = is_array_ancestor name

-- Decides whether a type is a subtype of another. If it has more dimensions, the other's element has to be a supertype
-- of arrays. If it has equally many, its element has to be a subtype of the other's.
abbrev pub is_type_subtype : List Class → FieldType → FieldType → Bool
is_type_subtype program a b =
    if nat_lt b.dimensions a.dimensions then is_array_ancestor_element b.element
    else (if a.dimensions == b.dimensions then is_element_subtype program a.element b.element else false)

-- Returns the type of a class by its name, which may be an array's descriptor.
abbrev pub class_type : List ℕ → Option FieldType
class_type name = if is_array_name name then field_type_of name else Some (record { dimensions = 0; element = element.Object name })

abbrev pub are_subtypes : List Class → Option FieldType → Option FieldType → Bool
are_subtypes program (Some a) (Some b) = is_type_subtype program a b
are_subtypes program _ _ = false

-- Decides whether the class of the first name is a subtype of the class of the second.
unfoldable pub fits : List Class → List ℕ → List ℕ → Bool
fits program a b = are_subtypes program (class_type a) (class_type b)

-- ---- Resolution (JVMS 5.4.3)

-- Decides whether an instruction uses a static field.
abbrev pub is_static_use : FieldUse → Bool
is_static_use field_use.GetStatic = true
is_static_use field_use.PutStatic = true
is_static_use field_use.Get = false
is_static_use field_use.Put = false

-- Decides whether an instruction calls a static method.
abbrev pub is_static_call : Invoke → Bool
is_static_call invoke.Static = true
is_static_call invoke.Virtual = false
is_static_call invoke.Special = false
is_static_call invoke.Interface = false

-- Decides whether a class is there. For an array that is the class of its elements.
abbrev pub type_exists : List Class → FieldType → Bool
type_exists program t = element_exists t.element
  where
    element_exists : Element → Bool
    element_exists (element.Primitive p) = true
    element_exists (element.Object name) = is_some (class_named program name)

abbrev pub class_exists : List Class → List ℕ → Bool
class_exists program name = exists (class_type name)
  where
    exists : Option FieldType → Bool
    exists None = false
    exists (Some t) = type_exists program t

-- Returns the class whose members a class has. An array has those of Object.
abbrev pub members_class : List ℕ → List ℕ
members_class name = if is_array_name name then object else name

-- A field with the class that declares it.
pub record ResolvedField : Type 0 where
  pub class : Class
  pub field : Field

-- A method with the class that declares it.
pub record ResolvedMethod : Type 0 where
  pub class : Class
  pub method : Method

abbrev pub declared_field : List ℕ → List ℕ → Class → Option ResolvedField
declared_field name descriptor c =
    option_map (λ f. record { class = c; field = f })
    (find (λ f. same_text f.name name && same_text f.descriptor descriptor) c.fields)

abbrev pub declared_method : List ℕ → List ℕ → Class → Option ResolvedMethod
declared_method name descriptor c =
    option_map (λ m. record { class = c; method = m })
    (find (λ m. same_text m.name name && same_text m.descriptor descriptor) c.methods)

-- Returns the first result of the test that any of the classes gives, in their order.
abbrev pub first_in : {A : Type 0} → (Class → Option A) → List Class → Option A
first_in look [] = None
first_in look (c ∷ cs) = or_else (look c) (first_in look cs)
  where
    or_else : {A : Type 0} → Option A → Option A → Option A
    or_else None other = other
    or_else (Some x) other = Some x

-- Returns the field that a reference names (JVMS 5.4.3.2): the first in the class's ancestry that declares it.
abbrev pub reference_field : List Class → FieldReference → Option ResolvedField
reference_field program r = first_in (declared_field r.name r.descriptor) (ancestry program (members_class r.class))

abbrev pub resolved_field : List Class → Bool → FieldReference → Result ResolvedField Thrown
resolved_field program static r = do
  _ ← want (class_exists program r.class) thrown.NoClassDefFoundError
  f ← present (reference_field program r) thrown.NoSuchFieldError
  _ ← want (if static then f.field.is_static else not f.field.is_static) thrown.IncompatibleClassChangeError
  Ok f

abbrev pub is_interface_kind : ClassKind → Bool
is_interface_kind kind.Interface = true
is_interface_kind kind.Abstract = false
is_interface_kind kind.Neither = false

abbrev pub names_interface : List Class → List ℕ → Bool
names_interface program name = is_it (class_named program name)
  where
    is_it : Option Class → Bool
    is_it None = false
    is_it (Some c) = is_interface_kind c.kind

-- Returns the order of the search for a class's method (JVMS 5.4.3.3): the class's chain, followed by the ancestries of
-- the superinterfaces of each class in it.
abbrev pub class_method_order : List Class → List ℕ → List Class
class_method_order program name =
    chain program name ++ flat_map (λ c. flat_map (ancestry program) c.interfaces) (chain program name)

-- Returns the order of the search for an interface's method (JVMS 5.4.3.4): the interface, Object, and the ancestries
-- of the interface's superinterfaces.
abbrev pub interface_method_order : List Class → List ℕ → List Class
interface_method_order program name = order (class_named program name)
  where
    listed : Option Class → List Class
    listed None = []
    listed (Some c) = c ∷ []

    order : Option Class → List Class
    order None = []
    order (Some c) = c ∷ listed (class_named program object) ++ flat_map (ancestry program) c.interfaces

abbrev pub method_in_order : List Class → MethodReference → Option ResolvedMethod
method_in_order program r =
    first_in (declared_method r.name r.descriptor)
    (if r.is_interface then interface_method_order program r.class else class_method_order program (members_class r.class))

-- Returns the method that a reference names. A constructor is searched in the named class alone.
abbrev pub reference_method : List Class → MethodReference → Option ResolvedMethod
reference_method program r =
    if is_constructor_name r.name
    then option_and_then (declared_method r.name r.descriptor) (class_named program r.class)
    else method_in_order program r

abbrev pub resolved_method : List Class → Bool → MethodReference → Result ResolvedMethod Thrown
resolved_method program static r = do
  _ ← want (class_exists program r.class) thrown.NoClassDefFoundError
  _ ← want (if r.is_interface then names_interface program r.class else not (names_interface program r.class)) thrown.IncompatibleClassChangeError
  m ← present (reference_method program r) thrown.NoSuchMethodError
  _ ← want (if static then m.method.flags.is_static else not m.method.flags.is_static) thrown.IncompatibleClassChangeError
  Ok m

-- ---- Selection (JVMS 6.5 invokevirtual)

abbrev pub is_selectable : Method → Bool
is_selectable m = not m.flags.is_static && not m.flags.is_private

abbrev pub selectable_in : List ℕ → List ℕ → Class → Option ResolvedMethod
selectable_in name descriptor c = keep (declared_method name descriptor c)
  where
    keep : Option ResolvedMethod → Option ResolvedMethod
    keep None = None
    keep (Some found) = if is_selectable found.method then Some found else None

-- Returns the method that a call selects for an object of a class (JVMS 6.5 invokevirtual). A private method is itself
-- selected. Else it is the first in the class's chain with this name and descriptor that is neither static nor private.
abbrev pub selected_from : List Class → List ℕ → ResolvedMethod → Option ResolvedMethod
selected_from program class m =
    if m.method.flags.is_private then Some m
    else first_in (selectable_in m.method.name m.method.descriptor) (chain program (members_class class))

-- Decides whether a class is a proper superclass of another.
abbrev pub is_superclass : List Class → List ℕ → List ℕ → Bool
is_superclass program super class = not (same_text super class) && names_class super (chain program class)

abbrev pub superclass_of : List Class → List ℕ → Option (List ℕ)
superclass_of program class = option_and_then (λ c. c.superclass) (class_named program class)

-- Returns the method that invokespecial calls (JVMS 6.5 invokespecial). That is the resolved one if it is a
-- constructor, or if the named class is no superclass of the current one. Else it is selected from the current class's
-- superclass on.
abbrev pub selected_special : List Class → List ℕ → MethodReference → ResolvedMethod → Option ResolvedMethod
selected_special program current r m =
    if not (is_constructor_name r.name) && is_superclass program r.class current
    then option_and_then (λ super. selected_from program super m) (superclass_of program current)
    else Some m

-- Returns the number of a field that was resolved.
abbrev pub field_number : List Class → ResolvedField → Option FieldNumber
field_number program f =
    option_and_then
    (λ class. option_map (λ field. record { class = class; field = field }) (declared_field_number f.class f.field.name f.field.descriptor))
    (class_number program f.class.name)

-- Returns the number of a method that was resolved.
abbrev pub method_number : List Class → ResolvedMethod → Option MethodNumber
method_number program m =
    option_and_then
    (λ class. option_map (λ method. record { class = class; method = method }) (declared_number m.class m.method.name m.method.descriptor))
    (class_number program m.class.name)
