-- The members of a class that were read, by their names and descriptors (JVMS 4.5, 4.6).
use Rattle.std.specs.Prelude.{◌≡◌, ℕ, Bool, false, List, Option, Some, None}
use Rattle.std.specs.BTreeSet as sorted
use Rattle.std.specs.List.{list_any}
use Rattle.std.specs.declared.cmp.Ordering.{Ordering}
use Rattle.std.specs.Ordering.{nat_cmp, ordering_then}
use Rattle.jvms_file.specs.declared.class_file.Constant.{Constant}
use Rattle.jvms_file.specs.declared.class_file.FieldInfo.{FieldInfo}
use Rattle.jvms_file.specs.declared.class_file.MethodInfo.{MethodInfo}
use Rattle.jvms_file.specs.ConstantPool.{both}
use Rattle.jvms_file.specs.Members.{is_same_field, is_same_method}
use Rattle.const_pool.specs.Texts.{canonical}
use Rattle.class_file.specs.declared.seen.Seen.{Seen}

-- Compares pairs by the first number, then by the second.
abbrev pub pair_cmp : ℕ × ℕ → ℕ × ℕ → Ordering
pair_cmp a b = ordering_then (nat_cmp a.0 b.0) (nat_cmp a.1 b.1)

abbrev pub has_pair : Seen → Option (ℕ × ℕ) → Bool
has_pair seen None = false
has_pair seen (Some pair) = sorted.contains pair_cmp seen.pairs pair

-- Decides whether a name and a descriptor are among those of the members.
abbrev pub is_seen : List Constant → Seen → ℕ → ℕ → Bool
is_seen pool seen name descriptor = has_pair seen (both (canonical pool name) (canonical pool descriptor))

-- The set has the names and descriptors of these fields.
abbrev pub AreFields : List Constant → Seen → List FieldInfo → Type 0
AreFields pool seen fields =
    (name descriptor : ℕ) → is_seen pool seen name descriptor ≡ list_any (is_same_field pool name descriptor) fields

-- The set has the names and descriptors of these methods.
abbrev pub AreMethods : List Constant → Seen → List MethodInfo → Type 0
AreMethods pool seen methods =
    (name descriptor : ℕ) → is_seen pool seen name descriptor ≡ list_any (is_same_method pool name descriptor) methods
