-- Entries of a pool, numbered from 1 by first use (JVMS 4.4).
use Rattle.std.specs.Prelude.{◌≡◌, ◌≤◌, ℕ, ◌+◌, Bool, false, ◌==◌, ◌&&◌, nat_le, if◌then◌else◌, List, [], ◌∷◌, ◌++◌, Option, Some, None, Result, Ok, Err}
use Rattle.std.specs.List.{flat_map}
use Rattle.std.specs.Map.{keys_of}
use Rattle.std.specs.Ordering.{int_eq}
use Rattle.jvms_file.specs.declared.class_file.Constant.{Constant}
use Rattle.jvms_file.specs.declared.class_file.Constant.TheVariants as constant
use Rattle.jvms_file.specs.Names.{same_text}
use Rattle.jvms_file.specs.ConstantPool.{takes_two}
use Rattle.const_pool.specs.declared.entry.Entry.{Entry}
use Rattle.const_pool.specs.declared.entry.Entry.TheVariants as entry
use Rattle.const_pool.specs.declared.builder.PoolFault.{PoolFault}
use Rattle.const_pool.specs.declared.builder.PoolFault.TheVariants as pool_fault

-- Returns an entry as a class file has it.
abbrev pub constant_of : Entry → Constant
constant_of (entry.Utf8 text) = constant.Utf8 text.items
constant_of (entry.Integer n) = constant.Integer n
constant_of (entry.Float n) = constant.Float n
constant_of (entry.Long n) = constant.Long n
constant_of (entry.Double n) = constant.Double n
constant_of (entry.Class name) = constant.Class name
constant_of (entry.String text) = constant.String text
constant_of (entry.Field class name_and_type) = constant.Field class name_and_type
constant_of (entry.Method class name_and_type) = constant.Method class name_and_type
constant_of (entry.InterfaceMethod class name_and_type) = constant.InterfaceMethod class name_and_type
constant_of (entry.NameAndType name descriptor) = constant.NameAndType name descriptor

-- Decides whether two entries are equal: they have the same tag and the same content.
abbrev pub is_same : Entry → Entry → Bool
is_same (entry.Utf8 a) (entry.Utf8 b) = same_text a.items b.items
is_same (entry.Integer a) (entry.Integer b) = int_eq a b
is_same (entry.Float a) (entry.Float b) = a == b
is_same (entry.Long a) (entry.Long b) = int_eq a b
is_same (entry.Double a) (entry.Double b) = a == b
is_same (entry.Class a) (entry.Class b) = a == b
is_same (entry.String a) (entry.String b) = a == b
is_same (entry.Field a m) (entry.Field b n) = a == b && m == n
is_same (entry.Method a m) (entry.Method b n) = a == b && m == n
is_same (entry.InterfaceMethod a m) (entry.InterfaceMethod b n) = a == b && m == n
is_same (entry.NameAndType a m) (entry.NameAndType b n) = a == b && m == n
is_same _ _ = false

-- Returns the count of numbers that an entry takes (JVMS 4.4.5).
abbrev pub width : Entry → ℕ
width e = if takes_two (constant_of e) then 2 else 1

-- Returns the count of numbers that entries take.
abbrev pub total_width : List Entry → ℕ
total_width [] = 0
total_width (e ∷ es) = width e + total_width es

-- Returns the number of an entry among entries that are numbered from n on.
abbrev pub number_from : ℕ → List Entry → Entry → Option ℕ
number_from n [] e = None
number_from n (x ∷ xs) e = if is_same e x then Some n else number_from (n + width x) xs e

-- Returns the number of an entry in a pool of these, and the entries of the pool with it. An entry that is there keeps
-- its number. A new one takes the next, and a second one after it if it is a long or a double. No number is above
-- 65534, since constant_pool_count is at most 65535 (JVMS 4.1).
unfoldable pub intern : List Entry → Entry → Result (ℕ × List Entry) PoolFault
intern es e = at_or_next (number_from 1 es e)
  where
    at_or_next : Option ℕ → Result (ℕ × List Entry) PoolFault
    at_or_next (Some n) = Ok (n, es)
    at_or_next None = if nat_le (total_width es + width e) 65534 then Ok (total_width es + 1, es ++ e ∷ []) else Err pool_fault.PoolFull

-- Returns the constants of an entry in a pool: itself, and an unusable one after a long or a double (JVMS 4.4.5).
abbrev pub constants_of : Entry → List Constant
constants_of e = if takes_two (constant_of e) then constant_of e ∷ constant.Unusable ∷ [] else constant_of e ∷ []

-- Returns the pool that has these entries.
abbrev pub pool_of : List Entry → List Constant
pool_of es = flat_map constants_of es

-- Returns entries with their numbers, from n on.
abbrev pub numbered_from : ℕ → List Entry → List (Entry × ℕ)
numbered_from n [] = []
numbered_from n (e ∷ es) = (e, n) ∷ numbered_from (n + width e) es

-- A result of interning, which turned the entries old into new. If it is no number, nothing changed. Memory is needed
-- only for an entry that isn't there and has a number left.
abbrev pub Interns : List Entry → Entry → Result ℕ PoolFault → List Entry → Type 0
Interns old e (Ok n) new = intern old e ≡ Ok (n, new)
Interns old e (Err pool_fault.PoolFull) new = (intern old e ≡ Err pool_fault.PoolFull) × (new ≡ old)
Interns old e (Err pool_fault.Memory) new = (intern old e ≡ Ok (total_width old + 1, old ++ e ∷ [])) × (new ≡ old)

-- Entries with their numbers, and the number of the next entry.
pub record IsNumbering (entries : List (Entry × ℕ)) (next : ℕ) : Type 0 where
  pub in_order : entries ≡ numbered_from 1 (keys_of entries)
  pub next_is : next ≡ total_width (keys_of entries) + 1
  pub few : total_width (keys_of entries) ≤ 65534
