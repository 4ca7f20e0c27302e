-- The method that a reference names has the numbers at which the search for it ends.
use Rattle.std.proofs.Common.{◌≡◌, ℕ, Bool, true, false, List, Option, Some, None}
use Rattle.std.specs.Prelude.{if◌then◌else◌}
use Rattle.std.specs.Option.{option_map}
use Rattle.jvms_program.specs.declared.number.MethodNumber.{MethodNumber}
use Rattle.jvms_program.specs.declared.program.Class.{Class}
use Rattle.jvms_program.specs.declared.program.MethodReference.{MethodReference}
use Rattle.jvms_file.specs.Names.{is_constructor_name}
use Rattle.jvms_program.specs.Program.{class_named}
use Rattle.jvms_program.specs.Resolution.{declared_method, first_in, class_method_order, interface_method_order, members_class, method_in_order, reference_method}
use Rattle.classes.specs.Places.{IsMethodAt, LocatesItem, method_number_at, method_place}
use Rattle.classes.specs.Declarations.{HasNoMethod}
use Rattle.classes.proofs.DeclarationLaws.{none_found}
use Rattle.classes.proofs.PlaceLaws.{IsMethodAtPlace, methods_located, method_located, methods_numbered, interface_order_named, class_order_named, named_is}

pub in_interface_order : (program : List Class) (r : MethodReference) (name descriptor class : List ℕ) (place : Option (ℕ × ℕ)) (n : Option MethodNumber) → name ≡ r.name → descriptor ≡ r.descriptor → class ≡ r.class
    → r.is_interface ≡ true → place ≡ first_in (method_place program name descriptor) (interface_method_order program class) → n ≡ option_map method_number_at place
    → LocatesItem (IsMethodAt program) (method_in_order program r) n
in_interface_order program r name descriptor class place n same_name same_descriptor k i e numbered =
    let located : LocatesItem (IsMethodAtPlace program) (method_in_order program r) place =
    rw i (rw (e, same_name, same_descriptor, k) (methods_located program r.name r.descriptor (interface_method_order program r.class) (interface_order_named program r.class))) in
    rw numbered (methods_numbered program (method_in_order program r) place located)

pub in_class_order : (program : List Class) (r : MethodReference) (name descriptor class members : List ℕ) (place : Option (ℕ × ℕ)) (n : Option MethodNumber) → name ≡ r.name → descriptor ≡ r.descriptor → class ≡ r.class → members ≡ members_class class
    → r.is_interface ≡ false → place ≡ first_in (method_place program name descriptor) (class_method_order program members) → n ≡ option_map method_number_at place
    → LocatesItem (IsMethodAt program) (method_in_order program r) n
in_class_order program r name descriptor class members place n same_name same_descriptor k m i e numbered =
    let located : LocatesItem (IsMethodAtPlace program) (method_in_order program r) place =
    rw i (rw (e, same_name, same_descriptor, m, k) (methods_located program r.name r.descriptor (class_method_order program (members_class r.class)) (class_order_named program (members_class r.class)))) in
    rw numbered (methods_numbered program (method_in_order program r) place located)

pub constructor_located : (program : List Class) (r : MethodReference) (name descriptor : List ℕ) (c : Class) (place : Option (ℕ × ℕ)) (n : Option MethodNumber) → name ≡ r.name → descriptor ≡ r.descriptor
    → is_constructor_name r.name ≡ true → class_named program r.class ≡ Some c → place ≡ method_place program name descriptor c → n ≡ option_map method_number_at place
    → LocatesItem (IsMethodAt program) (reference_method program r) n
constructor_located program r name descriptor c place n same_name same_descriptor i h e numbered =
    let located : LocatesItem (IsMethodAtPlace program) (reference_method program r) place =
    rw i (rw h (rw (e, same_name, same_descriptor) (method_located program r.name r.descriptor c (named_is program r.class c h)))) in
    rw numbered (methods_numbered program (reference_method program r) place located)

-- A method that no class declares isn't found.
missing_by : (program : List Class) (r : MethodReference) → HasNoMethod program r.name r.descriptor → (b : Bool)
    → first_in (declared_method r.name r.descriptor) (if b then interface_method_order program r.class else class_method_order program (members_class r.class)) ≡ None
missing_by program r none true = none_found (declared_method r.name r.descriptor) program none (interface_method_order program r.class) (interface_order_named program r.class)
missing_by program r none false =
    none_found (declared_method r.name r.descriptor) program none (class_method_order program (members_class r.class)) (class_order_named program (members_class r.class))

pub missing_method : (program : List Class) (r : MethodReference) → HasNoMethod program r.name r.descriptor → method_in_order program r ≡ None
missing_method program r none = missing_by program r none r.is_interface
