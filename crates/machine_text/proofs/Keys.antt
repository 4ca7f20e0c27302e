-- The fields of an instance, by the classes of its chain.
use Rattle.std.proofs.Common.{◌≡◌, ℕ, zero, suc, List, [], ◌∷◌, Some, flat_map, Bool, not, reverse, refl, ap, subst, ◌∙◌}
use Rattle.std.proofs.lemmas.Grind.{flat_map-append}
use Rattle.std.proofs.lemmas.List.Folds.{flat_map-map}
use Rattle.std.specs.List.{AllByRecursion, filter, slice_get}
use Rattle.jvms_machine.specs.declared.value.Value.{Value}
use Rattle.jvms_machine.specs.State.{Object, instance, keys, instance_fields, object_at, IsObject}
use Rattle.jvms_program.specs.declared.key.FieldKey.{FieldKey}
use Rattle.jvms_program.specs.declared.program.Class.{Class}
use Rattle.jvms_program.specs.declared.program.Field.{Field}
use Rattle.jvms_program.specs.Program.{field_key}
use Rattle.jvms_program.specs.Resolution.{chain}
use Rattle.jvms_program.specs.Slots.{instance_keys, keys_where}
use Rattle.machine.specs.Machine.{Machine}
use Rattle.machine_text.specs.declared.fields.Keeper.TheVariants as keeper
use Rattle.machine_text.specs.Objects.{field_line}
use Rattle.machine_text.specs.Parts.{fields_at, fields_of, fields_text}

-- The lines of keys, class by class.
pub lines_by_class : (line : FieldKey → List ℕ) (test : Field → Bool) (classes : List Class) →
    flat_map line (flat_map (keys_where test) classes)
    ≡ flat_map (λ c. flat_map (λ f. line (field_key c f)) (filter test c.fields)) classes
lines_by_class line test [] = refl
lines_by_class line test (c ∷ classes) =
    rw (
      flat_map-append line (keys_where test c) (flat_map (keys_where test) classes),
      flat_map-map line (field_key c) (filter test c.fields),
      lines_by_class line test classes,
    )
    refl

-- A property of all items of a list is one of the item at an index.
at_place : {X : Type 0} (P : X → Type 0) (xs : List X) (i : ℕ) (x : X) →
    slice_get xs i ≡ Some x → AllByRecursion P xs → P x
at_place P [] i x h all = absurd cc
at_place P (y ∷ ys) zero x h all = let same : y ≡ x = cc in subst P same all.0
at_place P (y ∷ ys) (suc i) x h all = at_place P ys i x h all.1

-- In a sound state an instance has the fields of its class.
pub has_its_keys : (program : List Class) (heap : List Object) (r : ℕ) (class : List ℕ) (fields : List (FieldKey × Value)) →
    AllByRecursion (IsObject program heap) heap → object_at heap r ≡ Some (instance class fields) →
    keys fields ≡ keys (instance_fields program class)
has_its_keys program heap zero class fields all h = absurd cc
has_its_keys program heap (suc i) class fields all h = (at_place (IsObject program heap) heap i (instance class fields) h all).0

-- The lines of an instance's fields, class by class.
pub fields_by_class : (m : Machine) (r : ℕ) (class : List ℕ) (fields : List (FieldKey × Value)) →
    AllByRecursion (IsObject m.program m.state.heap) m.state.heap →
    keys (instance_fields m.program class) ≡ instance_keys m.program class →
    object_at m.state.heap r ≡ Some (instance class fields) →
    flat_map (field_line (fields_at m r)) (keys (fields_at m r))
    ≡ flat_map (fields_text m (keeper.Instance r)) (reverse (chain m.program class))
fields_by_class m r class fields all law h =
    let shown : fields_at m r ≡ fields = ap fields_of h in
    let its_keys : keys (fields_at m r) ≡ instance_keys m.program class =
    ap keys shown ∙ has_its_keys m.program m.state.heap r class fields all h ∙ law in
    rw its_keys (lines_by_class (field_line (fields_at m r)) (λ f. not f.is_static) (reverse (chain m.program class)))
