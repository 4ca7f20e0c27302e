-- The conditions of the machine on arrays imply those of creating arrays and storing elements.
use Rattle.std.proofs.Common.{◌≡◌, ℕ, zero, suc, Bool, true, false, not, ◌&&◌, ◌==◌, cond, List, [], ◌∷◌, length, drop, IsTrue, ℤ, refl, sym, ap, subst, arith}
use Rattle.std.proofs.lemmas.Bool.{false≢true, ne_eqb}
use Rattle.jvms_file.specs.declared.descriptor.Primitive.TheVariants as primitive
use Rattle.jvms_file.specs.declared.descriptor.Element.{Element}
use Rattle.jvms_file.specs.declared.descriptor.Element.TheVariants as element
use Rattle.jvms_file.specs.declared.descriptor.FieldType.{FieldType}
use Rattle.jvms_file.specs.declared.insn.Kind.TheVariants as loads
use Rattle.jvms_machine.specs.declared.value.Value.{Value}
use Rattle.jvms_machine.specs.declared.value.Value.TheVariants as value
use Rattle.jvms_machine.specs.State.{Object, array}
use Rattle.jvms_machine.specs.Heap.{component_type, has_dimensions, stored_as}
use Rattle.jvms_machine.specs.Places.{is_of_kind, kind_of_element}
use Rattle.jvms_machine.specs.Turn.{CanHold, ElementsCanHold, IsProper}
use Rattle.array_elements.specs.declared.kind.Kind.TheVariants as kind
use Rattle.array_elements.specs.Kinds.{kind_of, IsOfKind}
use Rattle.array_elements.specs.Kinds.{kind_of_element as held_as}
use Rattle.heap.specs.Objects.{HasDimensions, Suits}

-- ---- Dimensions

-- The components of an array whose type has dimensions are references.
deeper : (t : FieldType) (b rest : Bool) → (t.dimensions == 0) ≡ b → IsTrue (not b && rest) → (kind_of t ≡ kind.Reference) × IsTrue rest
deeper t false rest is holds = (ap (λ c. cond c (held_as t.element) kind.Reference) is, holds)
deeper t true rest is holds = absurd (false≢true holds)

pub dimensions_are : (class : List ℕ) (lengths : List ℕ) → IsTrue (has_dimensions class (length lengths)) → HasDimensions class lengths
dimensions_are class [] has = tt
dimensions_are class (n ∷ []) has = tt
dimensions_are class (n ∷ m ∷ lengths) has =
    let both = deeper (component_type class) ((component_type class).dimensions == 0) (has_dimensions (drop 1 class) (length (m ∷ lengths))) refl has in
    (both.0, dimensions_are (drop 1 class) (m ∷ lengths) both.1)

-- ---- Values

abbrev int_of : ℤ → Value → ℤ
int_of other (value.Int n) = n
int_of other _ = other

of_reference : (v : Value) → IsTrue (is_of_kind loads.Reference v) → IsProper v → IsOfKind kind.Reference v
of_reference value.Null loaded proper = tt
of_reference (value.Reference r) loaded proper = proper
of_reference _ loaded proper = absurd (false≢true loaded)

-- A value of an element's kind that narrowing doesn't change can be stored in it.
of_element : (e : Element) (v : Value) → IsTrue (is_of_kind (kind_of_element e) v) → stored_as (record { dimensions = 0; element = e }) v ≡ v → IsProper v → IsOfKind (held_as e) v
of_element (element.Object name) v loaded whole proper = of_reference v loaded proper
of_element (element.Primitive primitive.Int) (value.Int n) loaded whole proper = tt
of_element (element.Primitive primitive.Byte) (value.Int n) loaded whole proper = ap (int_of n) whole
of_element (element.Primitive primitive.Boolean) (value.Int n) loaded whole proper = ap (int_of n) whole
of_element (element.Primitive primitive.Char) (value.Int n) loaded whole proper = ap (int_of n) whole
of_element (element.Primitive primitive.Short) (value.Int n) loaded whole proper = ap (int_of n) whole
of_element (element.Primitive primitive.Long) (value.Long n) loaded whole proper = tt
of_element (element.Primitive _) v loaded whole proper = absurd (false≢true loaded)

of_arrays : (t : FieldType) (v : Value) → (t.dimensions == 0) ≡ false → CanHold t v → IsOfKind (kind_of t) v
of_arrays t v not_none can =
    let loaded : IsTrue (is_of_kind loads.Reference v) = subst (λ k. IsTrue (is_of_kind k v)) (ap (λ c. cond c (kind_of_element t.element) loads.Reference) not_none) can.0 in
    subst (λ k. IsOfKind k v) (sym (ap (λ c. cond c (held_as t.element) kind.Reference) not_none)) (of_reference v loaded can.2)

of_type : (dimensions : ℕ) (e : Element) (v : Value) → CanHold (record { dimensions = dimensions; element = e }) v → IsOfKind (kind_of (record { dimensions = dimensions; element = e })) v
of_type zero e v can = of_element e v can.0 can.1 can.2
of_type (suc more) e v can = of_arrays (record { dimensions = suc more; element = e }) v (ne_eqb (suc more) 0 (λ none. omega (arith, none))) can

pub suits : (v : Value) (o : Object) → ElementsCanHold v o → Suits v o
suits v (array class elements) can = of_type (component_type class).dimensions (component_type class).element v can
suits v _ can = tt
