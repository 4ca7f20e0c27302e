-- What a result implies, by the laws of descriptors.
use Rattle.std.proofs.Common.{ℕ, List, Option, Some, Result, Ok, Err, subst}
use Rattle.std.specs.Prelude.{IfOk}
use Rattle.jvms_file.specs.declared.descriptor.FieldType.{FieldType}
use Rattle.jvms_file.specs.declared.descriptor.MethodType.{MethodType}
use Rattle.jvms_file.specs.Descriptors.{field_type_of, method_type_of, SpellsFieldType, SpellsMethodType}
use Rattle.jvms_file.proofs.DescriptorLaws.{field_is_spelled, field_is_read, method_is_spelled, method_is_read}
use Rattle.descriptor.specs.declared.fault.DescriptorFault.{DescriptorFault}
use Rattle.descriptor.specs.Reading.{IsRead}

-- A type that is returned is spelled by the text.
pub field_found : (text : List ℕ) (r : Result FieldType DescriptorFault) → IsRead r (field_type_of text) → IfOk r (λ t. SpellsFieldType text t)
field_found text (Ok t) read = field_is_spelled text t read
field_found text (Err e) read = tt

-- A method's type that is returned is spelled by the text.
pub method_found : (text : List ℕ) (r : Result MethodType DescriptorFault) → IsRead r (method_type_of text) → IfOk r (λ t. SpellsMethodType text t)
method_found text (Ok t) read = method_is_spelled text t read
method_found text (Err e) read = tt

-- A type that the text spells is returned.
pub field_only : (text : List ℕ) (r : Result FieldType DescriptorFault) → IsRead r (field_type_of text) → (t : FieldType) → SpellsFieldType text t → IsRead r (Some t)
field_only text r read t spells = subst (λ (o : Option FieldType). IsRead r o) (field_is_read text t spells) read

-- A method's type that the text spells is returned.
pub method_only : (text : List ℕ) (r : Result MethodType DescriptorFault) → IsRead r (method_type_of text) → (t : MethodType) → SpellsMethodType text t → IsRead r (Some t)
method_only text r read t spells = subst (λ (o : Option MethodType). IsRead r o) (method_is_read text t spells) read
