-- The entries of a class that is being written: each that a name, a member or a constant needs, numbered by first use
-- (JVMS 4.4). Entries that an entry names come before it. A member's class comes before its name and descriptor.
use Rattle.std.specs.Prelude.{◌≡◌, ℕ, ◌+◌, Bool, false, ◌==◌, ◌&&◌, nat_le, if◌then◌else◌, List, [], ◌∷◌, ◌++◌, length, Option, Some, None, Result, Ok, Err, ℤ, IsTrue}
use Rattle.std.specs.List.{AllByRecursion}
use Rattle.std.specs.Ordering.{int_eq}
use Rattle.jvms_file.specs.declared.class_file.Constant.{Constant}
use Rattle.jvms_file.specs.declared.class_file.Constant.TheVariants as constant
use Rattle.jvms_file.specs.ConstantPool.{takes_two}
use Rattle.jvms_file.specs.Names.{same_text}
use Rattle.jvms_file.specs.Results.{◌>>=◌, want}
use Rattle.jvms_file.specs.Texts.{bytes_of_text, IsText}
use Rattle.pool_entries.specs.declared.fault.EntryFault.{EntryFault}
use Rattle.pool_entries.specs.declared.fault.EntryFault.TheVariants as fault
use Rattle.pool_entries.specs.declared.kind.MethodKind.{MethodKind}
use Rattle.pool_entries.specs.declared.kind.MethodKind.TheVariants as kind

-- ---- One entry

-- Decides whether two entries are equal: they have the same tag and the same content.
abbrev pub is_same : Constant → Constant → Bool
is_same (constant.Utf8 a) (constant.Utf8 b) = same_text a b
is_same (constant.Integer a) (constant.Integer b) = int_eq a b
is_same (constant.Float a) (constant.Float b) = a == b
is_same (constant.Long a) (constant.Long b) = int_eq a b
is_same (constant.Double a) (constant.Double b) = a == b
is_same (constant.Class a) (constant.Class b) = a == b
is_same (constant.String a) (constant.String b) = a == b
is_same (constant.Field a m) (constant.Field b n) = a == b && m == n
is_same (constant.Method a m) (constant.Method b n) = a == b && m == n
is_same (constant.InterfaceMethod a m) (constant.InterfaceMethod b n) = a == b && m == n
is_same (constant.NameAndType a m) (constant.NameAndType b n) = a == b && m == n
is_same _ _ = false

-- Returns the constants of an entry: itself, and an unusable one after a long or a double (JVMS 4.4.5).
abbrev pub numbers_of : Constant → List Constant
numbers_of c = if takes_two c then c ∷ constant.Unusable ∷ [] else c ∷ []

-- Returns the number of an entry in a pool whose numbers begin at n.
abbrev pub number_from : ℕ → List Constant → Constant → Option ℕ
number_from n [] c = None
number_from n (x ∷ pool) c = if is_same c x then Some n else number_from (n + 1) pool c

-- Returns the number of an entry, and the pool with it. An entry that is there keeps its number. A new one is appended.
-- No number is above 65534, since constant_pool_count is at most 65535 (JVMS 4.1).
unfoldable pub constant_entry : List Constant → Constant → Result (ℕ × List Constant) EntryFault
constant_entry pool c = found_or_appended (number_from 1 pool c)
  where
    found_or_appended : Option ℕ → Result (ℕ × List Constant) EntryFault
    found_or_appended (Some n) = Ok (n, pool)
    found_or_appended None = if nat_le (length pool + length (numbers_of c)) 65534 then Ok (length pool + 1, pool ++ numbers_of c) else Err fault.PoolFull

-- ---- Texts, names and constants

-- Decides whether a text has at most 65535 bytes, so that two bytes count them (JVMS 4.4.7).
abbrev pub is_short : List ℕ → Bool
is_short units = nat_le (length (bytes_of_text units)) 65535

abbrev pub IsShort : Constant → Type 0
IsShort (constant.Utf8 units) = IsTrue (is_short units)
IsShort _ = Unit {0}

-- Each text of a pool is short.
abbrev pub AreShort : List Constant → Type 0
AreShort pool = AllByRecursion IsShort pool

-- The units of a text have 16 bits.
abbrev pub IsProper : Constant → Type 0
IsProper (constant.Utf8 units) = IsText units
IsProper _ = Unit {0}

abbrev pub AreProper : List Constant → Type 0
AreProper pool = AllByRecursion IsProper pool

unfoldable pub text_entry : List Constant → List ℕ → Result (ℕ × List Constant) EntryFault
text_entry pool units = do
  _ ← want (is_short units) fault.TooLong
  constant_entry pool (constant.Utf8 units)

unfoldable pub class_entry : List Constant → List ℕ → Result (ℕ × List Constant) EntryFault
class_entry pool name = do
  text ← text_entry pool name
  constant_entry text.1 (constant.Class text.0)

unfoldable pub string_entry : List Constant → List ℕ → Result (ℕ × List Constant) EntryFault
string_entry pool units = do
  text ← text_entry pool units
  constant_entry text.1 (constant.String text.0)

abbrev pub integer_entry : List Constant → ℤ → Result (ℕ × List Constant) EntryFault
integer_entry pool n = constant_entry pool (constant.Integer n)

abbrev pub long_entry : List Constant → ℤ → Result (ℕ × List Constant) EntryFault
long_entry pool n = constant_entry pool (constant.Long n)

-- ---- Members

unfoldable pub name_and_type_entry : List Constant → List ℕ → List ℕ → Result (ℕ × List Constant) EntryFault
name_and_type_entry pool name descriptor = do
  first ← text_entry pool name
  second ← text_entry first.1 descriptor
  constant_entry second.1 (constant.NameAndType first.0 second.0)

-- Returns the number of the entry of a member, and the pool with it. `make` is the kind of its entry (JVMS 4.4.2).
unfoldable pub member_entry : (ℕ → ℕ → Constant) → List Constant → List ℕ → List ℕ → List ℕ → Result (ℕ × List Constant) EntryFault
member_entry make pool class name descriptor = do
  owner ← class_entry pool class
  member ← name_and_type_entry owner.1 name descriptor
  constant_entry member.1 (make owner.0 member.0)

abbrev pub field_entry : List Constant → List ℕ → List ℕ → List ℕ → Result (ℕ × List Constant) EntryFault
field_entry = member_entry (λ c m. constant.Field c m)

-- Returns the entry of a method (JVMS 4.4.2).
abbrev pub method_constant : MethodKind → ℕ → ℕ → Constant
method_constant kind.OfClass c m = constant.Method c m
method_constant kind.OfInterface c m = constant.InterfaceMethod c m

abbrev pub method_entry : MethodKind → List Constant → List ℕ → List ℕ → List ℕ → Result (ℕ × List Constant) EntryFault
method_entry how = member_entry (method_constant how)

-- ---- Results

-- A fault is the definition's, except for a lack of memory.
abbrev pub Fails : {A : Type 0} → EntryFault → Result A EntryFault → Type 0
Fails fault.TooLong asked = asked ≡ Err fault.TooLong
Fails fault.PoolFull asked = asked ≡ Err fault.PoolFull
Fails fault.Memory asked = Unit {0}

-- A number is the definition's, and so is the pool after it.
abbrev pub Gives : Result (ℕ × List Constant) EntryFault → Result ℕ EntryFault → List Constant → Type 0
Gives asked (Ok n) new = asked ≡ Ok (n, new)
Gives asked (Err e) new = Fails e asked
