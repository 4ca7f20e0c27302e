-- Proves that the flags that a tree keeps are those that a program's meaning depends on.
use Rattle.std.proofs.Common.{◌≡◌, ℕ, Bool, true, false, not, cond, ◌==◌, ◌&&◌, bit_and, bit_or, refl, sym, ap, ◌∙◌}
use Rattle.std.proofs.lemmas.Nat.{and_assoc, and_or_self, and_or_apart}
use Rattle.std.specs.Int.Bits.{and_zero_r}
use Rattle.jvms_file.specs.Members.{has_flag, is_private, is_static, is_synchronized, is_native, is_abstract, is_interface}
use Rattle.jvms_program.specs.declared.program.MethodFlags.{MethodFlags}
use Rattle.jvms_program.specs.declared.program.ClassKind.{ClassKind}
use Rattle.jvms_program.specs.declared.program.ClassKind.TheVariants as kind
use Rattle.jvms_program.specs.Meaning.{flags_of, kind_of}
use Rattle.listing_spec.specs.TreeOf.{field_flags, method_flags, class_flags}

-- ---- Members

-- A flag in a mask is kept.
flag_kept : (access mask flag : ℕ) → bit_and mask flag ≡ flag → has_flag flag (bit_and access mask) ≡ has_flag flag access
flag_kept access mask flag within = ap (λ (n : ℕ). not (n == 0)) (and_assoc flag access mask ∙ ap (bit_and access) within)

pub field_static : (access : ℕ) → is_static (field_flags access) ≡ is_static access
field_static access = flag_kept access 223 8 refl

pub field_private : (access : ℕ) → is_private (field_flags access) ≡ is_private access
field_private access = flag_kept access 223 2 refl

pub method_native : (access : ℕ) → is_native (method_flags access) ≡ is_native access
method_native access = flag_kept access 1343 256 refl

pub method_abstract : (access : ℕ) → is_abstract (method_flags access) ≡ is_abstract access
method_abstract access = flag_kept access 1343 1024 refl

abbrev flags_by : Bool → Bool → Bool → Bool → Bool → Bool → MethodFlags
flags_by initializer static private synchronized native abstract =
    record {
      is_static = not initializer && static;
      is_private = not initializer && private;
      is_synchronized = not initializer && synchronized;
      is_native = not initializer && native;
      is_abstract = not initializer && abstract;
    }

pub method_flags_kept : (initializer : Bool) (access : ℕ) → flags_of initializer (method_flags access) ≡ flags_of initializer access
method_flags_kept i access =
    let kept = method_flags access in
    ap (λ b. flags_by i b (is_private kept) (is_synchronized kept) (is_native kept) (is_abstract kept)) (flag_kept access 1343 8 refl)
    ∙ ap (λ b. flags_by i (is_static access) b (is_synchronized kept) (is_native kept) (is_abstract kept)) (flag_kept access 1343 2 refl)
    ∙ ap (λ b. flags_by i (is_static access) (is_private access) b (is_native kept) (is_abstract kept)) (flag_kept access 1343 32 refl)
    ∙ ap (λ b. flags_by i (is_static access) (is_private access) (is_synchronized access) b (is_abstract kept)) (method_native access)
    ∙ ap (flags_by i (is_static access) (is_private access) (is_synchronized access) (is_native access)) (method_abstract access)

-- ---- Classes

-- A flag in a mask that is added is set.
flag_set : (access mask flag : ℕ) → bit_and mask flag ≡ flag → has_flag flag (bit_or access mask) ≡ has_flag flag mask
flag_set access mask flag within =
    ap (λ (n : ℕ). not (n == 0))
    (ap (bit_and (bit_or access mask)) (sym within) ∙ sym (and_assoc flag (bit_or access mask) mask) ∙ ap (λ (n : ℕ). bit_and n flag) (and_or_self mask access))

-- A flag that isn't in a mask that is added stays.
flag_apart : (access mask flag : ℕ) → bit_and mask flag ≡ 0 → has_flag flag (bit_or access mask) ≡ has_flag flag access
flag_apart access mask flag apart = ap (λ (n : ℕ). not (n == 0)) (and_or_apart flag access mask apart)

-- A flag that isn't in a mask is dropped.
flag_dropped : (access mask flag : ℕ) → bit_and mask flag ≡ 0 → has_flag flag (bit_and access mask) ≡ false
flag_dropped access mask flag apart = ap (λ (n : ℕ). not (n == 0)) (and_assoc flag access mask ∙ ap (bit_and access) apart ∙ and_zero_r access)

-- Returns the kept flags of an interface, or of a class.
abbrev flags_by_kind : Bool → ℕ → ℕ
flags_by_kind interface access = cond interface (bit_or (bit_and access 49) 1536) (bit_or (bit_and access 1041) 32)

interface_by_kind : (b : Bool) (access : ℕ) → is_interface (flags_by_kind b access) ≡ b
interface_by_kind true access = flag_set (bit_and access 49) 1536 512 refl
interface_by_kind false access = flag_apart (bit_and access 1041) 32 512 refl ∙ flag_dropped access 1041 512 refl

pub interface_kept : (access : ℕ) → is_interface (class_flags access) ≡ is_interface access
interface_kept access = interface_by_kind (is_interface access) access

abbrev kind_by : Bool → Bool → ClassKind
kind_by interface abstract = cond interface kind.Interface (cond abstract kind.Abstract kind.Neither)

kind_by_kind : (b : Bool) (access : ℕ) → kind_by b (is_abstract (flags_by_kind b access)) ≡ kind_by b (is_abstract access)
kind_by_kind true access = refl
kind_by_kind false access = ap (kind_by false) (flag_apart (bit_and access 1041) 32 1024 refl ∙ flag_kept access 1041 1024 refl)

pub kind_kept : (access : ℕ) → kind_of (class_flags access) ≡ kind_of access
kind_kept access =
    ap (λ b. kind_by b (is_abstract (class_flags access))) (interface_kept access) ∙ kind_by_kind (is_interface access) access
