-- The kind of stored elements determines how instructions use the array's components.
use Rattle.std.proofs.Common.{◌≡◌, ℕ, zero, suc, ℤ, List, if◌then◌else◌, true, Option, Some, None, refl, sym, ap, subst}
use Rattle.std.proofs.Math.Dec.{eqb-suc-zero}
use Rattle.std.specs.Prelude.{IfSome, IsSome, slice_get}
use Rattle.jvms_file.specs.declared.descriptor.Primitive.TheVariants as primitive
use Rattle.jvms_file.specs.declared.descriptor.Element.{Element}
use Rattle.jvms_file.specs.declared.descriptor.Element.TheVariants as element
use Rattle.jvms_file.specs.declared.descriptor.FieldType.{FieldType}
use Rattle.jvms_file.specs.declared.insn.ArrayKind.{ArrayKind}
use Rattle.jvms_file.specs.declared.insn.ArrayKind.TheVariants as array_kind
use Rattle.jvms_file.specs.declared.insn.Narrow.TheVariants as narrow
use Rattle.jvms_file.specs.Numbers.{narrowed_int}
use Rattle.jvms_machine.specs.declared.value.Value.{Value}
use Rattle.jvms_machine.specs.declared.value.Value.TheVariants as value
use Rattle.jvms_machine.specs.Arrays.{serves}
use Rattle.jvms_machine.specs.Heap.{stored_as}
use Rattle.array_elements.specs.declared.kind.Kind.{Kind}
use Rattle.array_elements.specs.declared.kind.Kind.TheVariants as kind
use Rattle.array_elements.specs.Kinds.{kind_of, kind_of_element}

-- An instruction of a kind serves components of this type, and an int is stored there by this narrowing.
abbrev Holds : ArrayKind → (ℤ → ℤ) → FieldType → Type 0
Holds k kept t = (serves k t ≡ true) × ((n : ℤ) → stored_as t (value.Int n) ≡ value.Int (kept n))

-- The kind of stored elements determines the instruction and the narrowing.
abbrev Tells : Kind → FieldType → Type 0
Tells kind.Int t = Holds array_kind.Int (λ n. n) t
Tells kind.Byte t = Holds array_kind.Byte (narrowed_int narrow.Byte) t
Tells kind.Boolean t = Holds array_kind.Byte (narrowed_int narrow.Boolean) t
Tells kind.Char t = Holds array_kind.Char (narrowed_int narrow.Char) t
Tells kind.Short t = Holds array_kind.Short (narrowed_int narrow.Short) t
Tells kind.Long t = serves array_kind.Long t ≡ true
Tells kind.Reference t = serves array_kind.Reference t ≡ true
Tells kind.Nothing t = Unit {0}

told : (d : ℕ) (e : Element) → Tells (kind_of (record { dimensions = d; element = e })) (record { dimensions = d; element = e })
told (suc d) e =
    let t : FieldType = record { dimensions = suc d; element = e } in
    let references : kind_of t ≡ kind.Reference = ap (λ b. if b then kind_of_element e else kind.Reference) (eqb-suc-zero d) in
    let served : serves array_kind.Reference t ≡ true = ap (λ b. if b then serves array_kind.Reference (record { dimensions = 0; element = e }) else true) (eqb-suc-zero d) in
    subst (λ k. Tells k t) (sym references) served
told zero (element.Object name) = refl
told zero (element.Primitive primitive.Int) = (refl, λ n. refl)
told zero (element.Primitive primitive.Byte) = (refl, λ n. refl)
told zero (element.Primitive primitive.Boolean) = (refl, λ n. refl)
told zero (element.Primitive primitive.Char) = (refl, λ n. refl)
told zero (element.Primitive primitive.Short) = (refl, λ n. refl)
told zero (element.Primitive primitive.Float) = tt
told zero (element.Primitive primitive.Double) = tt
told zero (element.Primitive primitive.Long) = refl

tells : (k : Kind) (t : FieldType) → k ≡ kind_of t → Tells k t
tells k t is = subst (λ x. Tells x t) (sym is) (told t.dimensions t.element)

pub ints_are_served : (t : FieldType) → kind.Int ≡ kind_of t → serves array_kind.Int t ≡ true
ints_are_served t is = (tells kind.Int t is).0

pub bytes_are_served : (t : FieldType) → kind.Byte ≡ kind_of t → serves array_kind.Byte t ≡ true
bytes_are_served t is = (tells kind.Byte t is).0

pub booleans_are_served : (t : FieldType) → kind.Boolean ≡ kind_of t → serves array_kind.Byte t ≡ true
booleans_are_served t is = (tells kind.Boolean t is).0

pub chars_are_served : (t : FieldType) → kind.Char ≡ kind_of t → serves array_kind.Char t ≡ true
chars_are_served t is = (tells kind.Char t is).0

pub shorts_are_served : (t : FieldType) → kind.Short ≡ kind_of t → serves array_kind.Short t ≡ true
shorts_are_served t is = (tells kind.Short t is).0

pub longs_are_served : (t : FieldType) → kind.Long ≡ kind_of t → serves array_kind.Long t ≡ true
longs_are_served t is = tells kind.Long t is

pub references_are_served : (t : FieldType) → kind.Reference ≡ kind_of t → serves array_kind.Reference t ≡ true
references_are_served t is = tells kind.Reference t is

pub int_is_kept : (t : FieldType) (n : ℤ) → kind.Int ≡ kind_of t → stored_as t (value.Int n) ≡ value.Int n
int_is_kept t n is = (tells kind.Int t is).1 n

pub byte_is_kept : (t : FieldType) (n m : ℤ) → kind.Byte ≡ kind_of t → m ≡ narrowed_int narrow.Byte n → stored_as t (value.Int n) ≡ value.Int m
byte_is_kept t n m is same = subst (λ x. stored_as t (value.Int n) ≡ value.Int x) (sym same) ((tells kind.Byte t is).1 n)

pub boolean_is_kept : (t : FieldType) (n m : ℤ) → kind.Boolean ≡ kind_of t → m ≡ narrowed_int narrow.Boolean n → stored_as t (value.Int n) ≡ value.Int m
boolean_is_kept t n m is same = subst (λ x. stored_as t (value.Int n) ≡ value.Int x) (sym same) ((tells kind.Boolean t is).1 n)

pub char_is_kept : (t : FieldType) (n m : ℤ) → kind.Char ≡ kind_of t → m ≡ narrowed_int narrow.Char n → stored_as t (value.Int n) ≡ value.Int m
char_is_kept t n m is same = subst (λ x. stored_as t (value.Int n) ≡ value.Int x) (sym same) ((tells kind.Char t is).1 n)

pub short_is_kept : (t : FieldType) (n m : ℤ) → kind.Short ≡ kind_of t → m ≡ narrowed_int narrow.Short n → stored_as t (value.Int n) ≡ value.Int m
short_is_kept t n m is same = subst (λ x. stored_as t (value.Int n) ≡ value.Int x) (sym same) ((tells kind.Short t is).1 n)

-- The loaded element, if the instruction serves it.
pub loads : (k : ArrayKind) (t : FieldType) (elements : List Value) (index : ℕ) (result : Option Value) → serves k t ≡ true → result ≡ slice_get elements index
    → IfSome result (λ v. (serves k t ≡ true) × (slice_get elements index ≡ Some v))
loads k t elements index None served is = tt
loads k t elements index (Some v) served is = (served, sym is)

-- The stored value, if the instruction serves it.
pub stores : (k : ArrayKind) (t : FieldType) (elements : List Value) (index : ℕ) (v : Value) (result : Option Value) → serves k t ≡ true → IsSome (slice_get elements index)
    → IfSome result (λ kept. stored_as t v ≡ kept) → IfSome result (λ kept. (serves k t ≡ true) × (IsSome (slice_get elements index) × (stored_as t v ≡ kept)))
stores k t elements index v None served there keeps = tt
stores k t elements index v (Some kept) served there keeps = (served, (there, keeps))
