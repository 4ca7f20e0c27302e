-- Proves which opcode an instruction is listed by: the first byte of its spelling, or the second one after `wide` (JVMS
-- 6.5 wide). Also proves which operands the opcode has.
use Rattle.std.proofs.Common.{◌≡◌, ℕ, zero, suc, ◌+◌, Bool, true, false, not, ◌==◌, ◌&&◌, ◌||◌, List, [], ◌∷◌, ◌++◌, length, Some, ℤ, refl, sym, ap, subst, ◌∙◌, arith}
use Rattle.std.specs.Prelude.{IsTrue, slice_get, pos, negsuc, int_le}
use Rattle.std.proofs.lemmas.Bool.{true≢false, and_parts, eqb-true}
use Rattle.std.proofs.lemmas.Option.{none-some, same_Some}
use Rattle.jvms_file.specs.declared.class_file.Constant.{Constant}
use Rattle.jvms_file.specs.declared.insn.TheConstants.{OPCODES}
use Rattle.jvms_file.specs.declared.insn.Opcode.{Opcode}
use Rattle.jvms_file.specs.declared.insn.Opcode.TheVariants as opcode
use Rattle.jvms_file.specs.declared.insn.Insn.{Insn}
use Rattle.jvms_file.specs.declared.insn.Insn.TheVariants as insn
use Rattle.jvms_file.specs.declared.insn.Simple.{Simple}
use Rattle.jvms_file.specs.declared.insn.Simple.TheVariants as simple
use Rattle.jvms_file.specs.declared.insn.Push.TheVariants as push
use Rattle.jvms_file.specs.declared.insn.LocalUse.{LocalUse}
use Rattle.jvms_file.specs.declared.insn.Branch.{Branch}
use Rattle.jvms_file.specs.declared.insn.FieldUse.{FieldUse}
use Rattle.jvms_file.specs.declared.insn.Invoke.{Invoke}
use Rattle.jvms_file.specs.declared.insn.ClassUse.{ClassUse}
use Rattle.jvms_file.specs.declared.insn.ArrayInsn.TheVariants as array_insn
use Rattle.jvms_file.specs.declared.insn.ArrayType.{ArrayType}
use Rattle.jvms_file.specs.declared.insn.TableSwitch.{TableSwitch}
use Rattle.jvms_file.specs.declared.insn.LookupSwitch.{LookupSwitch}
use Rattle.jvms_file.specs.Instructions.{invoked_names, is_invocable}
use Rattle.jvms_file.specs.Spelling.{u2, IsOpcode}
use Rattle.classfile_laws.proofs.InsnForms.{Behind, alone, push_byte, push_short, load, load_wide, load_long, local, increment, wide_local, wide_increment, new_array, branch, branch_wide, table, lookup, field, invoke, class, multi_new_array, Formed}
use Rattle.listing_spec.specs.TreeOf.{opcode_at}
use Rattle.tree_meaning_laws.proofs.Numbers.{signed8}

-- ---- The opcode of `wide`

abbrev is_wide : Opcode → Bool
is_wide opcode.Wide = true
is_wide _ = false

-- Decides whether `wide` is at most at place 196, from a place on.
wide_only_there : ℕ → List Opcode → Bool
wide_only_there place [] = true
wide_only_there place (o ∷ os) = (not (is_wide o) || place == 196) && wide_only_there (suc place) os

one_wide : wide_only_there 0 OPCODES ≡ true
unfolding wide_only_there
one_wide = refl

wide_place : (os : List Opcode) (place k : ℕ) → wide_only_there place os ≡ true → slice_get os k ≡ Some opcode.Wide → place + k ≡ 196
unfolding wide_only_there
wide_place [] place k only is = absurd (none-some opcode.Wide is)
wide_place (o ∷ os) place zero only is =
    let wide : o ≡ opcode.Wide = same_Some o opcode.Wide is in
    let there : (place == 196) ≡ true = ap (λ f. not (is_wide f) || place == 196) (sym wide) ∙ (and_parts (not (is_wide o) || place == 196) (wide_only_there (suc place) os) only).0 in
    let at : place ≡ 196 = eqb-true place 196 there in
    omega arith
wide_place (o ∷ os) place (suc k) only is =
    let later : suc place + k ≡ 196 = wide_place os (suc place) k (and_parts (not (is_wide o) || place == 196) (wide_only_there (suc place) os) only).1 is in
    omega arith

wide_is_196 : (code : ℕ) → IsOpcode code opcode.Wide → code ≡ 196
wide_is_196 code is = let there : 0 + code ≡ 196 = wide_place OPCODES 0 code one_wide is in omega arith

not_196 : (code : ℕ) (form : Opcode) → IsOpcode code form → is_wide form ≡ false → (code == 196) ≡ false
not_196 code form is plain = by_test (code == 196) refl
  where
    by_test : (b : Bool) → (code == 196) ≡ b → b ≡ false
    by_test false e = refl
    by_test true e =
        let there : slice_get OPCODES 196 ≡ Some form = subst (λ (n : ℕ). slice_get OPCODES n ≡ Some form) (eqb-true code 196 e) is in
        absurd (true≢false (ap is_wide (same_Some opcode.Wide form there) ∙ plain))

-- ---- The byte at which an instruction starts

byte_behind : (front : List ℕ) (b : ℕ) (rest : List ℕ) → slice_get (front ++ b ∷ rest) (length front) ≡ Some b
byte_behind [] b rest = refl
byte_behind (f ∷ front) b rest = byte_behind front b rest

next_byte : (front : List ℕ) (a b : ℕ) (rest : List ℕ) → slice_get (front ++ a ∷ b ∷ rest) (suc (length front)) ≡ Some b
next_byte [] a b rest = refl
next_byte (f ∷ front) a b rest = next_byte front a b rest

plain_opcode : (front : List ℕ) (code : ℕ) (rest : List ℕ) → (code == 196) ≡ false → opcode_at (front ++ code ∷ rest) (length front) ≡ code
plain_opcode front code rest plain = rw (byte_behind front code rest, plain) refl

widened_opcode : (front : List ℕ) (code : ℕ) (rest : List ℕ) → opcode_at (front ++ 196 ∷ code ∷ rest) (length front) ≡ code
widened_opcode front code rest = rw (byte_behind front 196 (code ∷ rest), next_byte front 196 code rest) refl

-- ---- The form of an opcode

-- An instruction has an opcode's form, except that of `wide`.
pub data Fits (pool : List Constant) : Opcode → Insn → Type 0 where
  is_alone : {s : Simple} → Fits pool (opcode.Alone s) (insn.Simple s)
  is_byte : {n : ℤ} → (int_le (negsuc 127) n && int_le n (pos 127)) ≡ true → Fits pool opcode.PushByte (insn.Simple (simple.Push (push.Int n)))
  is_short : {n : ℤ} → Fits pool opcode.PushShort (insn.Simple (simple.Push (push.Int n)))
  is_load : {n : ℕ} → Fits pool opcode.Constant (insn.Constant n)
  is_wide_load : {n : ℕ} → Fits pool opcode.ConstantWide (insn.Constant n)
  is_long_load : {n : ℕ} → Fits pool opcode.ConstantLong (insn.Constant n)
  is_local : {how : LocalUse} {n : ℕ} → Fits pool (opcode.Local how) (insn.Simple (simple.Local how n))
  is_increment : {n : ℕ} {by : ℤ} → Fits pool opcode.Increment (insn.Simple (simple.Increment n by))
  is_array : {type : ArrayType} → Fits pool opcode.NewArray (insn.Simple (simple.Array (array_insn.New type)))
  is_branch : {how : Branch} {place : ℕ} → Fits pool (opcode.Branch how) (insn.Branch how place)
  is_wide_branch : {how : Branch} {place : ℕ} → Fits pool (opcode.BranchWide how) (insn.Branch how place)
  is_table : {s : TableSwitch} → Fits pool opcode.TableSwitch (insn.Table s)
  is_lookup : {s : LookupSwitch} → Fits pool opcode.LookupSwitch (insn.Lookup s)
  is_field : {how : FieldUse} {n : ℕ} → Fits pool (opcode.Field how) (insn.Field how n)
  is_invoke : {how : Invoke} {n : ℕ} → IsTrue (is_invocable how (invoked_names pool how n)) → Fits pool (opcode.Invoke how) (insn.Invoke how n)
  is_class : {how : ClassUse} {n : ℕ} → Fits pool (opcode.Class how) (insn.Class how n)
  is_arrays : {n count : ℕ} → Fits pool opcode.MultiNewArray (insn.MultiNewArray n count)

-- The instruction at a byte is listed by this opcode.
pub record Opened (pool : List Constant) (bytes : List ℕ) (pc : ℕ) (i : Insn) : Type 0 where
  pub code : ℕ
  pub form : Opcode
  pub opcode_is : IsOpcode code form
  pub at : opcode_at bytes pc ≡ code
  pub fits : Fits pool form i

plain_opened : (pool : List Constant) (front : List ℕ) (code : ℕ) (form : Opcode) (rest : List ℕ) (i : Insn) → IsOpcode code form → is_wide form ≡ false → Fits pool form i → Opened pool (front ++ code ∷ rest) (length front) i
plain_opened pool front code form rest i is plain fits =
    record { code = code; form = form; opcode_is = is; at = plain_opcode front code rest (not_196 code form is plain); fits = fits }

widened_opened : (pool : List Constant) (front : List ℕ) (wide code : ℕ) (form : Opcode) (rest : List ℕ) (i : Insn) → IsOpcode wide opcode.Wide → IsOpcode code form → Fits pool form i
    → Opened pool (front ++ wide ∷ code ∷ rest) (length front) i
widened_opened pool front wide code form rest i widens is fits =
    subst (λ (n : ℕ). Opened pool (front ++ n ∷ code ∷ rest) (length front) i) (sym (wide_is_196 wide widens))
    (record { code = code; form = form; opcode_is = is; at = widened_opcode front code rest; fits = fits })

by_form : (pool : List Constant) (major : ℕ) (pcs : List ℕ) (pc code : ℕ) (form : Opcode) (operands : List ℕ) (i : Insn) (front rest : List ℕ) → IsOpcode code form → Behind pool major pcs pc form operands i
    → Opened pool (front ++ (code ∷ operands ++ rest)) (length front) i
by_form pool major pcs pc code form operands i front rest is alone = plain_opened pool front code form (operands ++ rest) i is refl is_alone
by_form pool major pcs pc code form operands i front rest is (push_byte m lt) = plain_opened pool front code form (operands ++ rest) i is refl (is_byte (signed8 m lt))
by_form pool major pcs pc code form operands i front rest is (push_short m lt) = plain_opened pool front code form (operands ++ rest) i is refl is_short
by_form pool major pcs pc code form operands i front rest is (load n lt test) = plain_opened pool front code form (operands ++ rest) i is refl is_load
by_form pool major pcs pc code form operands i front rest is (load_wide n lt test) = plain_opened pool front code form (operands ++ rest) i is refl is_wide_load
by_form pool major pcs pc code form operands i front rest is (load_long n lt test) = plain_opened pool front code form (operands ++ rest) i is refl is_long_load
by_form pool major pcs pc code form operands i front rest is (local n lt) = plain_opened pool front code form (operands ++ rest) i is refl is_local
by_form pool major pcs pc code form operands i front rest is (increment n m lt mt) = plain_opened pool front code form (operands ++ rest) i is refl is_increment
by_form pool major pcs pc wide form operands i front rest w (wide_local {how = how} code n is lt) =
    widened_opened pool front wide code (opcode.Local how) (u2 n ++ rest) i w is is_local
by_form pool major pcs pc wide form operands i front rest w (wide_increment code n m is lt mt) =
    widened_opened pool front wide code opcode.Increment ((u2 n ++ u2 m) ++ rest) i w is is_increment
by_form pool major pcs pc code form operands i front rest is (new_array m e) = plain_opened pool front code form (operands ++ rest) i is refl is_array
by_form pool major pcs pc code form operands i front rest is (branch m lt e) = plain_opened pool front code form (operands ++ rest) i is refl is_branch
by_form pool major pcs pc code form operands i front rest is (branch_wide m leads) = plain_opened pool front code form (operands ++ rest) i is refl is_wide_branch
by_form pool major pcs pc code form operands i front rest is (table pads default low high others padded leads lows is_low highs le count targets) = plain_opened pool front code form (operands ++ rest) i is refl is_table
by_form pool major pcs pc code form operands i front rest is (lookup pads default others padded leads few rises cases) = plain_opened pool front code form (operands ++ rest) i is refl is_lookup
by_form pool major pcs pc code form operands i front rest is (field n lt test) = plain_opened pool front code form (operands ++ rest) i is refl is_field
by_form pool major pcs pc code form operands i front rest is (invoke n others lt test behind) = plain_opened pool front code form (operands ++ rest) i is refl (is_invoke test)
by_form pool major pcs pc code form operands i front rest is (class n lt test) = plain_opened pool front code form (operands ++ rest) i is refl is_class
by_form pool major pcs pc code form operands i front rest is (multi_new_array n count lt ct test) = plain_opened pool front code form (operands ++ rest) i is refl is_arrays

-- An instruction after other bytes has the opcode at its start.
pub opened : (pool : List Constant) (major : ℕ) (pcs : List ℕ) (pc : ℕ) (first : List ℕ) (i : Insn) (front rest : List ℕ) → Formed pool major pcs pc first i → Opened pool (front ++ (first ++ rest)) (length front) i
opened pool major pcs pc first i front rest f =
    subst (λ (bytes : List ℕ). Opened pool (front ++ (bytes ++ rest)) (length front) i) (sym f.bytes_are)
    (by_form pool major pcs pc f.code f.form f.operands i front rest f.opcode_is f.behind)
