-- Proves that flags that access words can spell are kept as they are (JVMS tables 4.1-A, 4.5-A, 4.6-A).
use Rattle.std.proofs.Common.{◌≡◌, ℕ, ◌<◌, ◌≤◌, ◌^◌, Bool, true, false, not, ◌==◌, bit_and, bit_or, refl, sym, ap, ◌∙◌, arith}
use Rattle.std.specs.Int.Bits.{and_zero_r}
use Rattle.std.proofs.lemmas.Bool.{cond_both, cond-true, cond-false}
use Rattle.std.proofs.lemmas.Nat.{and_le_r, and_assoc, and_or_self, and_or_apart, or_of_16}
use Rattle.jvms_file.specs.Members.{is_static, is_native, is_abstract, is_interface}
use Rattle.jvms_file.specs.Spelling.{IsU2}
use Rattle.listing_spec.specs.TreeOf.{field_flags, method_flags, class_flags}

-- ---- Fields and methods

masked_small : (access mask : ℕ) → mask < 2 ^ 16 → IsU2 (bit_and access mask)
masked_small access mask small = let below : bit_and access mask ≤ mask = and_le_r access mask in omega arith

pub field_flags_small : (access : ℕ) → IsU2 (field_flags access)
field_flags_small access = masked_small access 223 (omega arith)

pub field_flags_again : (access : ℕ) → field_flags access ≡ field_flags (field_flags access)
field_flags_again access = sym (and_assoc 223 access 223)

pub method_flags_small : (access : ℕ) → IsU2 (method_flags access)
method_flags_small access = masked_small access 1343 (omega arith)

pub method_flags_again : (access : ℕ) → method_flags access ≡ method_flags (method_flags access)
method_flags_again access = sym (and_assoc 1343 access 1343)

-- Decides whether a bit is set.
abbrev is_set : ℕ → Bool
is_set n = not (n == 0)

pub static_kept : (access : ℕ) → is_static (method_flags access) ≡ is_static access
static_kept access = ap is_set (and_assoc 8 access 1343)

pub native_kept : (access : ℕ) → is_native (method_flags access) ≡ is_native access
native_kept access = ap is_set (and_assoc 256 access 1343)

pub abstract_kept : (access : ℕ) → is_abstract (method_flags access) ≡ is_abstract access
abstract_kept access = ap is_set (and_assoc 1024 access 1343)

-- ---- Classes

-- Returns the kept flags of an interface. Below, those of a class.
abbrev of_interface : ℕ → ℕ
of_interface access = bit_or (bit_and access 49) 1536

abbrev of_class : ℕ → ℕ
of_class access = bit_or (bit_and access 1041) 32

pub class_flags_small : (access : ℕ) → IsU2 (class_flags access)
class_flags_small access =
    cond_both (is_interface access) (of_interface access) (of_class access) (λ n. IsU2 n)
    (λ is. or_of_16 (bit_and access 49) 1536 (masked_small access 49 (omega arith)) (omega arith))
    (λ other. or_of_16 (bit_and access 1041) 32 (masked_small access 1041 (omega arith)) (omega arith))

interface_set : (access : ℕ) → is_interface (of_interface access) ≡ true
interface_set access =
    let both : bit_and (of_interface access) 1536 ≡ 1536 = and_or_self 1536 (bit_and access 49) in
    let one : bit_and (bit_and (of_interface access) 1536) 512 ≡ bit_and (of_interface access) 512 = and_assoc 512 (of_interface access) 1536 in
    ap is_set (sym one ∙ ap (λ (n : ℕ). bit_and n 512) both)

interface_unset : (access : ℕ) → is_interface (of_class access) ≡ false
interface_unset access =
    let apart : bit_and (of_class access) 512 ≡ bit_and (bit_and access 1041) 512 = and_or_apart 512 (bit_and access 1041) 32 refl in
    ap is_set (apart ∙ and_assoc 512 access 1041 ∙ and_zero_r access)

pub interface_kept : (access : ℕ) → is_interface (class_flags access) ≡ is_interface access
interface_kept access =
    cond_both (is_interface access) (of_interface access) (of_class access) (λ n. is_interface n ≡ is_interface access)
    (λ is. interface_set access ∙ sym is)
    (λ other. interface_unset access ∙ sym other)

interface_again : (access : ℕ) → of_interface access ≡ class_flags (of_interface access)
interface_again access =
    let same : bit_and (of_interface access) 49 ≡ bit_and access 49 = and_or_apart 49 (bit_and access 49) 1536 refl ∙ and_assoc 49 access 49 in
    ap (λ (n : ℕ). bit_or n 1536) (sym same)
    ∙ sym (cond-true (is_interface (of_interface access)) (of_interface (of_interface access)) (of_class (of_interface access)) (interface_set access))

class_again : (access : ℕ) → of_class access ≡ class_flags (of_class access)
class_again access =
    let same : bit_and (of_class access) 1041 ≡ bit_and access 1041 = and_or_apart 1041 (bit_and access 1041) 32 refl ∙ and_assoc 1041 access 1041 in
    ap (λ (n : ℕ). bit_or n 32) (sym same)
    ∙ sym (cond-false (is_interface (of_class access)) (of_interface (of_class access)) (of_class (of_class access)) (interface_unset access))

pub class_flags_again : (access : ℕ) → class_flags access ≡ class_flags (class_flags access)
class_flags_again access =
    cond_both (is_interface access) (of_interface access) (of_class access) (λ n. n ≡ class_flags n)
    (λ is. interface_again access)
    (λ other. class_again access)
