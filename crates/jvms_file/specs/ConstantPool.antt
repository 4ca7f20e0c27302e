-- The constant pool (JVMS 4.4): its entries by number, how they are read, and their form.
use Rattle.std.specs.Prelude.{ℕ, zero, suc, ◌-◌, Bool, true, false, not, ◌==◌, ◌&&◌, nat_lt, if◌then◌else◌, List, [], ◌∷◌, length, Option, Some, None, is_some, slice_get, Result, Ok, Err}
use Rattle.std.specs.Option.{option_and_then}
use Rattle.std.specs.Int.{w32, w64}
use Rattle.jvms_file.specs.declared.class_file.Constant.{Constant}
use Rattle.jvms_file.specs.declared.class_file.Constant.TheVariants as constant
use Rattle.jvms_file.specs.declared.fault.ClassFault.{ClassFault}
use Rattle.jvms_file.specs.declared.fault.ClassFault.TheVariants as fault
use Rattle.jvms_file.specs.Results.{◌>>=◌, want}
use Rattle.jvms_file.specs.Bytes.{u1_at, u2_at, u4_at, u8_at, bytes_at, signed}
use Rattle.jvms_file.specs.Texts.{text_of_bytes}
use Rattle.jvms_file.specs.Names.{is_name, is_method_name, begins_with}
use Rattle.jvms_file.specs.Descriptors.{field_type_of, method_type_of, is_class_entry_name}

-- Returns the entry of a number. Entries count from 1.
abbrev pub entry : List Constant → ℕ → Option Constant
entry pool zero = None
entry pool (suc i) = slice_get pool i

abbrev pub utf8_of : Constant → Option (List ℕ)
utf8_of (constant.Utf8 text) = Some text
utf8_of _ = None

-- Returns the text of a Utf8 entry (JVMS 4.4.7).
abbrev pub utf8_at : List Constant → ℕ → Option (List ℕ)
utf8_at pool n = option_and_then utf8_of (entry pool n)

abbrev pub is_utf8 : List Constant → ℕ → Bool
is_utf8 pool n = is_some (utf8_at pool n)

abbrev pub class_name_number : Constant → Option ℕ
class_name_number (constant.Class name) = Some name
class_name_number _ = None

abbrev pub is_class : List Constant → ℕ → Bool
is_class pool n = is_some (option_and_then class_name_number (entry pool n))

-- Returns the name of a Class entry (JVMS 4.4.1).
abbrev pub class_name_at : List Constant → ℕ → Option (List ℕ)
class_name_at pool n =
    option_and_then (utf8_at pool) (option_and_then class_name_number (entry pool n))

abbrev pub name_and_type_numbers : Constant → Option (ℕ × ℕ)
name_and_type_numbers (constant.NameAndType name descriptor) = Some (name, descriptor)
name_and_type_numbers _ = None

abbrev pub is_name_and_type : List Constant → ℕ → Bool
is_name_and_type pool n = is_some (option_and_then name_and_type_numbers (entry pool n))

abbrev pub both : {A B : Type 0} → Option A → Option B → Option (A × B)
both (Some x) (Some y) = Some (x, y)
both None y = None
both (Some x) None = None

-- Returns the name and the descriptor of a NameAndType entry (JVMS 4.4.6).
abbrev pub name_and_type_at : List Constant → ℕ → Option (List ℕ × List ℕ)
name_and_type_at pool n =
    option_and_then
    (λ numbers. both (utf8_at pool numbers.0) (utf8_at pool numbers.1))
    (option_and_then name_and_type_numbers (entry pool n))

-- ---- Reading (JVMS 4.4). `cut` is the fault of missing bytes.

abbrev pub utf8_constant_at : ClassFault → List ℕ → Result (Constant × List ℕ) ClassFault
utf8_constant_at cut bytes = do
  count ← u2_at cut bytes
  text ← bytes_at cut count.0 count.1
  units ← text_or_fault (text_of_bytes text.0)
  Ok (constant.Utf8 units, text.1)
  where
    text_or_fault : Result (List ℕ) ℕ → Result (List ℕ) ClassFault
    text_or_fault (Ok units) = Ok units
    text_or_fault (Err place) = Err fault.Utf8

abbrev pub one_number_at : (ℕ → Constant) → ClassFault → List ℕ → Result (Constant × List ℕ) ClassFault
one_number_at make cut bytes = do
  a ← u2_at cut bytes
  Ok (make a.0, a.1)

abbrev pub two_numbers_at : (ℕ → ℕ → Constant) → ClassFault → List ℕ → Result (Constant × List ℕ) ClassFault
two_numbers_at make cut bytes = do
  a ← u2_at cut bytes
  b ← u2_at cut a.1
  Ok (make a.0 b.0, b.1)

abbrev pub four_bytes_at : (ℕ → Constant) → ClassFault → List ℕ → Result (Constant × List ℕ) ClassFault
four_bytes_at make cut bytes = do
  a ← u4_at cut bytes
  Ok (make a.0, a.1)

abbrev pub eight_bytes_at : (ℕ → Constant) → ClassFault → List ℕ → Result (Constant × List ℕ) ClassFault
eight_bytes_at make cut bytes = do
  a ← u8_at cut bytes
  Ok (make a.0, a.1)

-- Reads the entry after a tag (JVMS table 4.4-A).
abbrev pub tagged_at : ℕ → ClassFault → List ℕ → Result (Constant × List ℕ) ClassFault
tagged_at tag cut bytes =
    if tag == 1 then utf8_constant_at cut bytes
    else (if tag == 3 then four_bytes_at (λ n. constant.Integer (signed w32 n)) cut bytes
    else (if tag == 4 then four_bytes_at (λ n. constant.Float n) cut bytes
    else (if tag == 5 then eight_bytes_at (λ n. constant.Long (signed w64 n)) cut bytes
    else (if tag == 6 then eight_bytes_at (λ n. constant.Double n) cut bytes
    else (if tag == 7 then one_number_at (λ n. constant.Class n) cut bytes
    else (if tag == 8 then one_number_at (λ n. constant.String n) cut bytes
    else (if tag == 9 then two_numbers_at (λ m n. constant.Field m n) cut bytes
    else (if tag == 10 then two_numbers_at (λ m n. constant.Method m n) cut bytes
    else (if tag == 11 then two_numbers_at (λ m n. constant.InterfaceMethod m n) cut bytes
    else (if tag == 12 then two_numbers_at (λ m n. constant.NameAndType m n) cut bytes
    else Err fault.Tag))))))))))

unfoldable pub constant_at : ClassFault → List ℕ → Result (Constant × List ℕ) ClassFault
constant_at cut bytes = do
  tag ← u1_at cut bytes
  tagged_at tag.0 cut tag.1

-- Decides whether an entry takes two numbers, as a long or a double does (JVMS 4.4.5).
abbrev pub takes_two : Constant → Bool
takes_two (constant.Long n) = true
takes_two (constant.Double n) = true
takes_two _ = false

-- Reads the entries of n numbers.
unfoldable pub entries_at : ClassFault → ℕ → List ℕ → Result (List Constant × List ℕ) ClassFault
entries_at cut zero bytes = Ok ([], bytes)
entries_at cut (suc zero) bytes = do
  c ← constant_at cut bytes
  Ok (c.0 ∷ [], c.1)
entries_at cut (suc (suc left)) bytes = do
  c ← constant_at cut bytes
  (if takes_two c.0
      then (entries_at cut left c.1 >>= λ cs. Ok (c.0 ∷ constant.Unusable ∷ cs.0, cs.1))
      else (entries_at cut (suc left) c.1 >>= λ cs. Ok (c.0 ∷ cs.0, cs.1)))

-- Reads constant_pool_count, and entries for one number fewer (JVMS 4.1).
abbrev pub pool_at : ClassFault → List ℕ → Result (List Constant × List ℕ) ClassFault
pool_at cut bytes = do
  count ← u2_at cut bytes
  entries_at cut (count.0 - 1) count.1

-- ---- The form of entries.

-- Decides whether a descriptor is a method's: it begins with a parenthesis.
abbrev pub begins_as_method : List ℕ → Bool
begins_as_method us = begins_with 40 us

-- Decides whether a name goes with a descriptor: a method's with a method's, and a field's with a field's (JVMS 4.4.6).
abbrev pub is_member : List ℕ → List ℕ → Bool
is_member name descriptor =
    if begins_as_method descriptor
    then is_method_name name && is_some (method_type_of descriptor)
    else is_name name && is_some (field_type_of descriptor)

-- Decides whether a NameAndType entry names a method, or a field, as asked. It also passes if its numbers name no
-- texts, because that is a fault of its own.
abbrev pub names_sort : Bool → List Constant → ℕ → Bool
names_sort method pool n = right (name_and_type_at pool n)
  where
    right : Option (List ℕ × List ℕ) → Bool
    right None = true
    right (Some (name, descriptor)) = if method then begins_as_method descriptor else not (begins_as_method descriptor)

abbrev pub is_entry_name : Option (List ℕ) → Bool
is_entry_name None = true
is_entry_name (Some name) = is_class_entry_name name

abbrev pub is_entry_member : Option (List ℕ × List ℕ) → Bool
is_entry_member None = true
is_entry_member (Some (name, descriptor)) = is_member name descriptor

abbrev pub reference_fault : Bool → List Constant → ℕ → ℕ → Result (Unit {0}) ClassFault
reference_fault method pool class name_and_type = do
  _ ← want (is_class pool class && is_name_and_type pool name_and_type) fault.Index
  want (names_sort method pool name_and_type) fault.Descriptor

-- Returns the fault of an entry (JVMS 4.4.1 to 4.4.6). First, its numbers have to name entries of the right kinds. Then
-- its name or descriptor has to be well formed. `behind` are the entries after it.
unfoldable pub entry_fault : List Constant → Constant → List Constant → Result (Unit {0}) ClassFault
entry_fault pool (constant.Utf8 text) behind = Ok tt
entry_fault pool (constant.Integer n) behind = Ok tt
entry_fault pool (constant.Float n) behind = Ok tt
entry_fault pool (constant.Long n) behind = want (nat_lt 0 (length behind)) fault.Index
entry_fault pool (constant.Double n) behind = want (nat_lt 0 (length behind)) fault.Index
entry_fault pool (constant.Class name) behind = do
  _ ← want (is_utf8 pool name) fault.Index
  want (is_entry_name (utf8_at pool name)) fault.Descriptor
entry_fault pool (constant.String text) behind = want (is_utf8 pool text) fault.Index
entry_fault pool (constant.Field class name_and_type) behind = reference_fault false pool class name_and_type
entry_fault pool (constant.Method class name_and_type) behind = reference_fault true pool class name_and_type
entry_fault pool (constant.InterfaceMethod class name_and_type) behind = reference_fault true pool class name_and_type
entry_fault pool (constant.NameAndType name descriptor) behind = do
  _ ← want (is_utf8 pool name && is_utf8 pool descriptor) fault.Index
  want (is_entry_member (both (utf8_at pool name) (utf8_at pool descriptor))) fault.Descriptor
entry_fault pool constant.Unusable behind = Ok tt

-- Returns the first fault of entries, in rising order of their numbers.
unfoldable pub entries_fault : List Constant → List Constant → Result (Unit {0}) ClassFault
entries_fault pool [] = Ok tt
entries_fault pool (c ∷ behind) = do
  _ ← entry_fault pool c behind
  entries_fault pool behind
