-- Values that are pushed, stored, loaded and removed, with their slots.
use Rattle.std.proofs.Common.{◌≡◌, ℕ, ◌+◌, ◌-◌, ◌≤◌, ◌==◌, ◌&&◌, Bool, true, false, if◌then◌else◌, List, [], ◌∷◌, length, Option, Some, None, IfSome, slice_get, slice_set, unwrap_or, refl, ◌∙◌, arith, length-set}
use Rattle.std.specs.List.{AllByRecursion}
use Rattle.std.proofs.lemmas.Bool.{cond_both}
use Rattle.jvms_machine.specs.declared.value.Value.{Value}
use Rattle.jvms_machine.specs.declared.value.Value.TheVariants as value
use Rattle.jvms_file.specs.declared.insn.Kind.{Kind}
use Rattle.jvms_file.specs.declared.insn.Kind.TheVariants as kind
use Rattle.jvms_file.specs.declared.descriptor.Primitive.TheVariants as primitive
use Rattle.jvms_file.specs.declared.descriptor.Element.{Element}
use Rattle.jvms_file.specs.declared.descriptor.Element.TheVariants as element
use Rattle.jvms_file.specs.declared.descriptor.FieldType.{FieldType}
use Rattle.jvms_file.specs.Descriptors.{is_wide, units_of}
use Rattle.jvms_machine.specs.State.{Object, IsValue}
use Rattle.jvms_machine.specs.Activations.{with_stored, without_long_at, without_other_place}
use Rattle.jvms_machine.specs.Locals.{storable_value, whole_local}
use Rattle.jvms_machine.specs.Places.{is_of_kind, kind_of_element, kind_of_type, kind_size, of_kind, put_on, top_value, value_size, whole_top}
use Rattle.jvms_machine.proofs.ListLaws.{all_set}

-- ---- Pushed values

pub put_length : (v : Value) (operands : List Value) → length (put_on v operands) ≡ length operands + value_size v
put_length (value.Long n) operands = omega arith
put_length (value.Int n) operands = omega arith
put_length value.Second operands = omega arith
put_length value.Null operands = omega arith
put_length (value.Reference r) operands = omega arith
put_length (value.ReturnAddress i) operands = omega arith
put_length value.Unset operands = omega arith

pub put_values : (heap : List Object) (v : Value) (operands : List Value) → IsValue heap v → AllByRecursion (IsValue heap) operands → AllByRecursion (IsValue heap) (put_on v operands)
put_values heap (value.Long n) operands is values = (tt, (tt, values))
put_values heap (value.Int n) operands is values = (tt, values)
put_values heap value.Second operands is values = (tt, values)
put_values heap value.Null operands is values = (tt, values)
put_values heap (value.Reference r) operands is values = (is, values)
put_values heap (value.ReturnAddress i) operands is values = (tt, values)
put_values heap value.Unset operands is values = (tt, values)

-- ---- Values stored in local variables

other_length : (locals : List Value) (n : ℕ) (v : Value) → length (without_other_place locals n v) ≡ length locals
other_length locals n (value.Long m) = length-set locals (n + 1) value.Unset
other_length locals n value.Second = length-set locals (n - 1) value.Unset
other_length locals n (value.Int m) = refl
other_length locals n value.Null = refl
other_length locals n (value.Reference r) = refl
other_length locals n (value.ReturnAddress i) = refl
other_length locals n value.Unset = refl

without_length : (n : ℕ) (locals : List Value) → length (without_long_at n locals) ≡ length locals
without_length n locals = other_length locals n (unwrap_or (slice_get locals n) value.Unset)

one_length : (locals : List Value) (n : ℕ) (v : Value) → length (slice_set (without_long_at n locals) n v) ≡ length locals
one_length locals n v = length-set (without_long_at n locals) n v ∙ without_length n locals

pub stored_length : (locals : List Value) (n : ℕ) (v : Value) → length (with_stored locals n v) ≡ length locals
stored_length locals n (value.Long m) =
    length-set (slice_set (without_long_at (n + 1) (without_long_at n locals)) n (value.Long m)) (n + 1) value.Second
    ∙ length-set (without_long_at (n + 1) (without_long_at n locals)) n (value.Long m)
    ∙ without_length (n + 1) (without_long_at n locals) ∙ without_length n locals
stored_length locals n (value.Int m) = one_length locals n (value.Int m)
stored_length locals n value.Second = one_length locals n value.Second
stored_length locals n value.Null = one_length locals n value.Null
stored_length locals n (value.Reference r) = one_length locals n (value.Reference r)
stored_length locals n (value.ReturnAddress i) = one_length locals n (value.ReturnAddress i)
stored_length locals n value.Unset = one_length locals n value.Unset

module _ (heap : List Object) where
  abbrev AreValues : List Value → Type 0
  AreValues = AllByRecursion (IsValue heap)

  other_values : (locals : List Value) (n : ℕ) (v : Value) → AreValues locals → AreValues (without_other_place locals n v)
  other_values locals n (value.Long m) are = all_set (IsValue heap) locals (n + 1) value.Unset tt are
  other_values locals n value.Second are = all_set (IsValue heap) locals (n - 1) value.Unset tt are
  other_values locals n (value.Int m) are = are
  other_values locals n value.Null are = are
  other_values locals n (value.Reference r) are = are
  other_values locals n (value.ReturnAddress i) are = are
  other_values locals n value.Unset are = are

  without_values : (n : ℕ) (locals : List Value) → AreValues locals → AreValues (without_long_at n locals)
  without_values n locals are = other_values locals n (unwrap_or (slice_get locals n) value.Unset) are

  one_value : (locals : List Value) (n : ℕ) (v : Value) → IsValue heap v → AreValues locals → AreValues (slice_set (without_long_at n locals) n v)
  one_value locals n v is are = all_set (IsValue heap) (without_long_at n locals) n v is (without_values n locals are)

  pub stored_values : (locals : List Value) (n : ℕ) (v : Value) → IsValue heap v → AreValues locals → AreValues (with_stored locals n v)
  stored_values locals n (value.Long m) is are =
      let left = without_values (n + 1) (without_long_at n locals) (without_values n locals are) in
      all_set (IsValue heap) (slice_set (without_long_at (n + 1) (without_long_at n locals)) n (value.Long m)) (n + 1) value.Second tt
      (all_set (IsValue heap) (without_long_at (n + 1) (without_long_at n locals)) n (value.Long m) tt left)
  stored_values locals n (value.Int m) is are = one_value locals n (value.Int m) is are
  stored_values locals n value.Second is are = one_value locals n value.Second is are
  stored_values locals n value.Null is are = one_value locals n value.Null is are
  stored_values locals n (value.Reference r) is are = one_value locals n (value.Reference r) is are
  stored_values locals n (value.ReturnAddress i) is are = one_value locals n (value.ReturnAddress i) is are
  stored_values locals n value.Unset is are = one_value locals n value.Unset is are

  -- ---- Removed values

  -- A whole value has the size of its kind.
  abbrev pub IsWhole : Kind → Option Value → Type 0
  IsWhole k o = IfSome o (λ v. IsValue heap v × (value_size v ≡ kind_size k))

  of_kind_is_whole : (k : Kind) (v : Value) → is_of_kind k v ≡ true → value_size v ≡ kind_size k
  of_kind_is_whole kind.Int (value.Int n) is = refl
  of_kind_is_whole kind.Long (value.Long n) is = refl
  of_kind_is_whole kind.Reference (value.Reference r) is = refl
  of_kind_is_whole kind.Reference value.Null is = refl
  of_kind_is_whole k v is = cc

  pub whole_of_kind : (k : Kind) (o : Option Value) → IfSome o (IsValue heap) → IsWhole k (of_kind k o)
  whole_of_kind k None is = tt
  whole_of_kind k (Some v) is = cond_both (is_of_kind k v) _ _ (IsWhole k) (λ kind_is. (is, of_kind_is_whole k v kind_is)) (λ _. tt)

  whole_top_is_value : (operands : List Value) → AreValues operands → IfSome (whole_top operands) (IsValue heap)
  whole_top_is_value [] values = tt
  whole_top_is_value (value.Second ∷ value.Long n ∷ below) values = tt
  whole_top_is_value (value.Second ∷ _) values = tt
  whole_top_is_value (value.Long n ∷ below) values = tt
  whole_top_is_value (value.Int n ∷ below) values = tt
  whole_top_is_value (value.Null ∷ below) values = tt
  whole_top_is_value (value.Reference r ∷ below) values = values.0
  whole_top_is_value (value.ReturnAddress i ∷ below) values = tt
  whole_top_is_value (value.Unset ∷ below) values = tt

  pub top_is_whole : (k : Kind) (operands : List Value) → AreValues operands → IsWhole k (top_value k operands)
  top_is_whole k operands values = whole_of_kind k (whole_top operands) (whole_top_is_value operands values)

  -- A whole value is of its kind.
  kind_of_whole : (k : Kind) (o : Option Value) → IfSome o (IsValue heap) → IfSome (of_kind k o) (λ v. IsValue heap v × (is_of_kind k v ≡ true))
  kind_of_whole k None is = tt
  kind_of_whole k (Some v) is =
      cond_both (is_of_kind k v) _ _ (λ (o : Option Value). IfSome o (λ w. IsValue heap w × (is_of_kind k w ≡ true))) (λ kind_is. (is, kind_is)) (λ _. tt)

  pub top_is_of_kind : (k : Kind) (operands : List Value) → AreValues operands → IfSome (top_value k operands) (λ v. IsValue heap v × (is_of_kind k v ≡ true))
  top_is_of_kind k operands values = kind_of_whole k (whole_top operands) (whole_top_is_value operands values)

  pub storable_is_whole : (k : Kind) (operands : List Value) → AreValues operands → IsWhole k (storable_value k operands)
  storable_is_whole kind.Reference (value.ReturnAddress i ∷ below) values = (tt, refl)
  storable_is_whole k operands values = top_is_whole k operands values

  whole_local_is_value : (v next : Value) → IsValue heap v → IfSome (whole_local v next) (IsValue heap)
  whole_local_is_value (value.Long n) value.Second is = tt
  whole_local_is_value (value.Long n) next is = tt
  whole_local_is_value value.Second next is = tt
  whole_local_is_value (value.Int n) next is = tt
  whole_local_is_value value.Null next is = tt
  whole_local_is_value (value.Reference r) next is = is
  whole_local_is_value (value.ReturnAddress i) next is = tt
  whole_local_is_value value.Unset next is = tt

  pub local_is_whole : (k : Kind) (v next : Value) → IsValue heap v → IsWhole k (of_kind k (whole_local v next))
  local_is_whole k v next is = whole_of_kind k (whole_local v next) (whole_local_is_value v next is)

-- ---- Sizes

-- A value of any kind takes at least one slot.
pub kind_is_some : (k : Kind) → 1 ≤ kind_size k
kind_is_some kind.Int = omega arith
kind_is_some kind.Long = omega arith
kind_is_some kind.Float = omega arith
kind_is_some kind.Double = omega arith
kind_is_some kind.Reference = omega arith

element_units : (e : Element) → kind_size (kind_of_element e) ≡ units_of (record { dimensions = 0; element = e })
element_units (element.Object name) = refl
element_units (element.Primitive primitive.Byte) = refl
element_units (element.Primitive primitive.Char) = refl
element_units (element.Primitive primitive.Double) = refl
element_units (element.Primitive primitive.Float) = refl
element_units (element.Primitive primitive.Int) = refl
element_units (element.Primitive primitive.Long) = refl
element_units (element.Primitive primitive.Short) = refl
element_units (element.Primitive primitive.Boolean) = refl

-- The values of a type have the number of slots that the descriptor counts.
by_dimensions : (dimensions : ℕ) (e : Element) (b : Bool) → (dimensions == 0) ≡ b → kind_size (if b then kind_of_element e else kind.Reference) ≡ (if b && is_wide e then 2 else 1)
by_dimensions dimensions e true is = element_units e
by_dimensions dimensions e false is = refl

pub type_units : (t : FieldType) → kind_size (kind_of_type t) ≡ units_of t
type_units t = by_dimensions t.dimensions t.element (t.dimensions == 0) refl
