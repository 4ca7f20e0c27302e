-- The items that a pool's numbers name, in a pool that keeps its entries.
use Rattle.std.proofs.Common.{◌≡◌, ℕ, List, Option, None, Some, refl}
use Rattle.std.proofs.lemmas.Option.{none-some}
use Rattle.std.specs.Option.{option_and_then}
use Rattle.jvms_file.specs.declared.class_file.Constant.{Constant}
use Rattle.jvms_file.specs.ConstantPool.{entry, utf8_of, utf8_at, class_name_number, class_name_at, name_and_type_numbers, name_and_type_at, both}
use Rattle.pool_entries.specs.Kept.{IsKept}
use Rattle.pool_entries.specs.Named.{IsString, IsMember}

pub IsKept-reflexive : (pool : List Constant) → IsKept pool pool
IsKept-reflexive pool = record { stays = λ n c is. is }

pub IsKept-transitive : (a b c : List Constant) → IsKept a b → IsKept b c → IsKept a c
IsKept-transitive a b c first second = record { stays = λ n k is. second.stays n k (first.stays n k is) }

-- ---- An entry is the same in the other pool

kept_by : {A : Type 0} (old new : List Constant) (f : Constant → Option A) (n : ℕ) (x : A) (r : Option Constant) → IsKept old new → entry old n ≡ r
    → option_and_then f r ≡ Some x → option_and_then f (entry new n) ≡ Some x
kept_by old new f n x None kept here is = absurd (none-some x is)
kept_by old new f n x (Some c) kept here is = rw (kept.stays n c here) is

kept_part : {A : Type 0} (old new : List Constant) (f : Constant → Option A) (n : ℕ) (x : A) → IsKept old new
    → option_and_then f (entry old n) ≡ Some x → option_and_then f (entry new n) ≡ Some x
kept_part old new f n x kept is = kept_by old new f n x (entry old n) kept refl is

pub utf8_at-kept : (old new : List Constant) (n : ℕ) (text : List ℕ) → IsKept old new → utf8_at old n ≡ Some text → utf8_at new n ≡ Some text
utf8_at-kept old new n text kept is = kept_part old new utf8_of n text kept is

class_by : (old new : List Constant) (n : ℕ) (name : List ℕ) (r : Option ℕ) → IsKept old new → option_and_then class_name_number (entry old n) ≡ r
    → option_and_then (utf8_at old) r ≡ Some name → class_name_at new n ≡ Some name
class_by old new n name None kept here is = absurd (none-some name is)
class_by old new n name (Some m) kept here is =
    rw (kept_part old new class_name_number n m kept here) (utf8_at-kept old new m name kept is)

pub class_name_at-kept : (old new : List Constant) (n : ℕ) (name : List ℕ) → IsKept old new → class_name_at old n ≡ Some name → class_name_at new n ≡ Some name
class_name_at-kept old new n name kept is =
    class_by old new n name (option_and_then class_name_number (entry old n)) kept refl is

both_by : (old new : List Constant) (m n : ℕ) (t : List ℕ × List ℕ) (a b : Option (List ℕ)) → IsKept old new → utf8_at old m ≡ a → utf8_at old n ≡ b
    → both a b ≡ Some t → both (utf8_at new m) (utf8_at new n) ≡ Some t
both_by old new m n t (Some a) (Some b) kept first second is =
    rw (utf8_at-kept old new m a kept first, utf8_at-kept old new n b kept second) is
both_by old new m n t (Some a) None kept first second is = absurd (none-some t is)
both_by old new m n t None b kept first second is = absurd (none-some t is)

member_by : (old new : List Constant) (n : ℕ) (t : List ℕ × List ℕ) (r : Option (ℕ × ℕ)) → IsKept old new → option_and_then name_and_type_numbers (entry old n) ≡ r
    → option_and_then (λ numbers. both (utf8_at old numbers.0) (utf8_at old numbers.1)) r ≡ Some t → name_and_type_at new n ≡ Some t
member_by old new n t None kept here is = absurd (none-some t is)
member_by old new n t (Some (m, d)) kept here is =
    rw (kept_part old new name_and_type_numbers n (m, d) kept here) (both_by old new m d t (utf8_at old m) (utf8_at old d) kept refl refl is)

pub name_and_type_at-kept : (old new : List Constant) (n : ℕ) (t : List ℕ × List ℕ) → IsKept old new → name_and_type_at old n ≡ Some t → name_and_type_at new n ≡ Some t
name_and_type_at-kept old new n t kept is =
    member_by old new n t (option_and_then name_and_type_numbers (entry old n)) kept refl is

pub IsString-kept : (old new : List Constant) (n : ℕ) (text : List ℕ) → IsKept old new → IsString old n text → IsString new n text
IsString-kept old new n text kept is =
    record { number = is.number; here = kept.stays n _ is.here; names = utf8_at-kept old new is.number text kept is.names }

pub IsMember-kept : (make : ℕ → ℕ → Constant) (old new : List Constant) (n : ℕ) (class name descriptor : List ℕ) → IsKept old new
    → IsMember make old n class name descriptor → IsMember make new n class name descriptor
IsMember-kept make old new n class name descriptor kept is = record {
  class_number = is.class_number;
  member_number = is.member_number;
  here = kept.stays n _ is.here;
  names_class = class_name_at-kept old new is.class_number class kept is.names_class;
  names_member = name_and_type_at-kept old new is.member_number (name, descriptor) kept is.names_member;
}
