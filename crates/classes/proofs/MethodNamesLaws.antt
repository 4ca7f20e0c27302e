-- Resolution doesn't depend on the type that a descriptor spells.
use Rattle.std.proofs.Common.{◌≡◌, ℕ, Bool, List, ap, ◌∙◌}
use Rattle.jvms_program.specs.declared.program.Class.{Class}
use Rattle.jvms_program.specs.declared.program.MethodReference.{MethodReference}
use Rattle.jvms_program.specs.declared.thrown.Thrown.{Thrown}
use Rattle.std.specs.Prelude.{Result}
use Rattle.jvms_file.specs.Descriptors.{method_type}
use Rattle.jvms_program.specs.Resolution.{ResolvedMethod, resolved_method}
use Rattle.classes.specs.declared.methods.MethodNames.{MethodNames}
use Rattle.classes.specs.MethodNames.{reference}

-- The method to which a reference of these names resolves.
resolved : List Class → Bool → Bool → List ℕ → List ℕ → List ℕ → Result ResolvedMethod Thrown
resolved program static interface class name descriptor =
    resolved_method program static (record { is_interface = interface; class = class; name = name; descriptor = descriptor; method_type = method_type descriptor })

pub same_names : (program : List Class) (static : Bool) (n : MethodNames) (r : MethodReference) → n.is_interface ≡ r.is_interface → n.class.now ≡ r.class → n.name.now ≡ r.name → n.descriptor.now ≡ r.descriptor
    → resolved_method program static (reference n) ≡ resolved_method program static r
unfolding resolved
same_names program static n r interface class name descriptor =
    ap (λ i. resolved program static i n.class.now n.name.now n.descriptor.now) interface
    ∙ ap (λ c. resolved program static r.is_interface c n.name.now n.descriptor.now) class
    ∙ ap (λ m. resolved program static r.is_interface r.class m n.descriptor.now) name
    ∙ ap (λ d. resolved program static r.is_interface r.class r.name d) descriptor
