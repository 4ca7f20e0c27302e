-- An instruction takes at least one byte.
use Rattle.std.proofs.Common.{◌≡◌, ℕ, zero, suc, ◌≤◌, ◌<◌, Bool, true, false, cond, List, length, drop, Option, Some, None, Result, Ok, Err, ℤ, refl, length-drop, arith}
use Rattle.std.specs.Prelude.{slice_get, nat_lt, ◌==◌, ◌&&◌}
use Rattle.std.proofs.Common.{subst}
use Rattle.std.proofs.lemmas.Bool.{ltb-false}
use Rattle.jvms_file.specs.declared.class_file.Constant.{Constant}
use Rattle.jvms_file.specs.declared.fault.ClassFault.{ClassFault}
use Rattle.jvms_file.specs.declared.fault.ClassFault.TheVariants as fault
use Rattle.jvms_file.specs.declared.insn.TheConstants.{OPCODES}
use Rattle.jvms_file.specs.declared.insn.Insn.{Insn}
use Rattle.jvms_file.specs.declared.insn.Opcode.{Opcode}
use Rattle.jvms_file.specs.declared.insn.Opcode.TheVariants as opcode
use Rattle.jvms_file.specs.declared.insn.Invoke.{Invoke}
use Rattle.jvms_file.specs.declared.insn.Invoke.TheVariants as invoke
use Rattle.jvms_file.specs.Results.{◌>>=◌, want, present}
use Rattle.jvms_file.specs.Bytes.{number, u1_at, u2_at, u4_at, bytes_at}
use Rattle.jvms_file.specs.Instructions.{interface_count, interface_operands, after_invoke, targets_at, table_switch_insn, cases_at, lookup_switch_insn, wide_form, wide_insn, operands_at, insn_at}

-- The bytes after a value are no more than all bytes.
abbrev IsShorter : {X : Type 0} → List ℕ → Result (X × List ℕ) ClassFault → Type 0
IsShorter bytes (Ok x) = length x.1 ≤ length bytes
IsShorter bytes (Err e) = Unit {0}

record Shortens {X : Type 0} (bytes : List ℕ) (read : Result (X × List ℕ) ClassFault) : Type 0 where
  is : IsShorter bytes read

weaker : {X : Type 0} (bytes rest : List ℕ) (read : Result (X × List ℕ) ClassFault) → length rest ≤ length bytes → Shortens rest read → Shortens bytes read
weaker bytes rest (Ok x) h s = let k = s.is in record { is = omega arith }
weaker bytes rest (Err e) h s = record { is = tt }

then : {X Y : Type 0} (bytes : List ℕ) (r : Result (X × List ℕ) ClassFault) (f : X × List ℕ → Result (Y × List ℕ) ClassFault) → Shortens bytes r → ((x : X × List ℕ) → Shortens x.1 (f x)) → Shortens bytes (r >>= f)
then bytes (Ok x) f h g = weaker bytes x.1 (f x) h.is (g x)
then bytes (Err e) f h g = record { is = tt }

tested : {X Y : Type 0} (bytes : List ℕ) (r : Result Y ClassFault) (f : Y → Result (X × List ℕ) ClassFault) → ((y : Y) → Shortens bytes (f y)) → Shortens bytes (r >>= f)
tested bytes (Ok y) f g = g y
tested bytes (Err e) f g = record { is = tt }

here : {X : Type 0} (x : X) (bytes : List ℕ) → Shortens bytes (Ok (x, bytes))
here x bytes = record { is = omega arith }

taken : {X : Type 0} (cut : ClassFault) (x : X) (n : ℕ) (bytes : List ℕ) (short : Bool) → Shortens bytes (cond short (Err cut) (Ok (x, drop n bytes)))
taken cut x n bytes true = record { is = tt }
taken cut x n bytes false = record { is = omega (arith, length-drop n bytes) }

u1 : (cut : ClassFault) (bytes : List ℕ) → Shortens bytes (u1_at cut bytes)
u1 cut bytes = taken cut _ 1 bytes _

u2 : (cut : ClassFault) (bytes : List ℕ) → Shortens bytes (u2_at cut bytes)
u2 cut bytes = taken cut _ 2 bytes _

u4 : (cut : ClassFault) (bytes : List ℕ) → Shortens bytes (u4_at cut bytes)
u4 cut bytes = taken cut _ 4 bytes _

some_bytes : (cut : ClassFault) (n : ℕ) (bytes : List ℕ) → Shortens bytes (bytes_at cut n bytes)
some_bytes cut n bytes = taken cut _ n bytes _

targets : (cut : ClassFault) (pc count : ℕ) (bytes : List ℕ) → Shortens bytes (targets_at cut pc count bytes)
unfolding targets_at
targets cut pc zero bytes = here _ bytes
targets cut pc (suc left) bytes = then bytes _ _ (u4 cut bytes) (λ o. then o.1 _ _ (targets cut pc left o.1) (λ y. here _ y.1))

table_switch : (cut : ClassFault) (pc : ℕ) (bytes : List ℕ) → Shortens bytes (table_switch_insn cut pc bytes)
unfolding table_switch_insn
table_switch cut pc bytes =
    then bytes _ _ (some_bytes cut _ bytes) (λ p. then p.1 _ _ (u4 cut p.1) (λ d. then d.1 _ _ (u4 cut d.1) (λ l. then l.1 _ _ (u4 cut l.1) (λ h.
    tested h.1 _ _ (λ t. then h.1 _ _ (targets cut pc _ h.1) (λ y. here _ y.1))))))

cases : (cut : ClassFault) (pc count : ℕ) (last : Option ℤ) (bytes : List ℕ) → Shortens bytes (cases_at cut pc count last bytes)
unfolding cases_at
cases cut pc zero last bytes = here _ bytes
cases cut pc (suc left) last bytes =
    then bytes _ _ (u4 cut bytes) (λ v. then v.1 _ _ (u4 cut v.1) (λ o. tested o.1 _ _ (λ t. then o.1 _ _ (cases cut pc left _ o.1) (λ y. here _ y.1))))

lookup_switch : (cut : ClassFault) (pc : ℕ) (bytes : List ℕ) → Shortens bytes (lookup_switch_insn cut pc bytes)
unfolding lookup_switch_insn
lookup_switch cut pc bytes =
    then bytes _ _ (some_bytes cut _ bytes) (λ p. then p.1 _ _ (u4 cut p.1) (λ d. then d.1 _ _ (u4 cut d.1) (λ n.
    tested n.1 _ _ (λ t. then n.1 _ _ (cases cut pc n.0 None n.1) (λ y. here _ y.1)))))

one_byte : {X : Type 0} (cut : ClassFault) (bytes : List ℕ) (f : ℕ × List ℕ → X) → Shortens bytes (u1_at cut bytes >>= λ n. Ok (f n, n.1))
one_byte cut bytes f = then bytes _ _ (u1 cut bytes) (λ n. here _ n.1)

two_bytes : {X : Type 0} (cut : ClassFault) (bytes : List ℕ) (f : ℕ × List ℕ → X) → Shortens bytes (u2_at cut bytes >>= λ n. Ok (f n, n.1))
two_bytes cut bytes f = then bytes _ _ (u2 cut bytes) (λ n. here _ n.1)

-- The operands after the number of a call give no value of their own.
interface_rest : {X : Type 0} (cut : ClassFault) (count : Option ℕ) (bytes : List ℕ) (x : X) → Shortens bytes (interface_operands cut count bytes >>= λ rest. Ok (x, rest))
interface_rest cut None bytes x = record { is = tt }
interface_rest {X} cut (Some units) bytes x = counted (u1_at cut bytes) (u1 cut bytes)
  where
    ended : (found : ℕ) (middle : List ℕ) (r : Result (ℕ × List ℕ) ClassFault) → Shortens middle r → Shortens middle ((r >>= λ last. (want (found == units && last.0 == 0) cut >>= λ _. Ok last.1)) >>= λ rest. Ok (x, rest))
    ended found middle (Ok last) s = finished (want (found == units && last.0 == 0) cut)
      where
        finished : (t : Result (Unit {0}) ClassFault) → Shortens middle ((t >>= λ _. Ok last.1) >>= λ rest. Ok (x, rest))
        finished (Ok u) = record { is = s.is }
        finished (Err e) = record { is = tt }
    ended found middle (Err e) s = record { is = tt }

    counted : (r : Result (ℕ × List ℕ) ClassFault) → Shortens bytes r → Shortens bytes ((r >>= λ count. (u1_at cut count.1 >>= λ last. (want (count.0 == units && last.0 == 0) cut >>= λ _. Ok last.1))) >>= λ rest. Ok (x, rest))
    counted (Ok found) s = weaker bytes found.1 _ s.is (ended found.0 found.1 (u1_at cut found.1) (u1 cut found.1))
    counted (Err e) s = record { is = tt }

behind : {X : Type 0} (cut : ClassFault) (how : Invoke) (method : Option (List ℕ × List ℕ)) (bytes : List ℕ) (x : X) → Shortens bytes (after_invoke cut how method bytes >>= λ rest. Ok (x, rest))
behind cut invoke.Interface method bytes x = interface_rest cut (interface_count method) bytes x
behind cut invoke.Virtual method bytes x = here x bytes
behind cut invoke.Special method bytes x = here x bytes
behind cut invoke.Static method bytes x = here x bytes

constant : {X : Type 0} (bytes : List ℕ) (x : X) (test : Result (Unit {0}) ClassFault) → Shortens bytes (test >>= λ _. Ok (x, bytes))
constant bytes x test = tested bytes test _ (λ t. here x bytes)

wide_operands : (cut : ClassFault) (form : Option Opcode) (bytes : List ℕ) → Shortens bytes (wide_form cut form bytes)
wide_operands cut None bytes = record { is = tt }
wide_operands cut (Some (opcode.Local how)) bytes = then bytes _ _ (u2 cut bytes) (λ n. here _ n.1)
wide_operands cut (Some opcode.Increment) bytes = then bytes _ _ (u2 cut bytes) (λ n. then n.1 _ _ (u2 cut n.1) (λ m. here _ m.1))
wide_operands cut (Some form) bytes = record { is = tt }

wide : (cut : ClassFault) (bytes : List ℕ) → Shortens bytes (wide_insn cut bytes)
unfolding wide_insn
wide cut bytes = then bytes _ _ (u1 cut bytes) (λ c. wide_operands cut (slice_get OPCODES c.0) c.1)

operands : (pool : List Constant) (major pc : ℕ) (form : Opcode) (bytes : List ℕ) → Shortens bytes (operands_at pool major pc form bytes)
unfolding operands_at
operands pool major pc (opcode.Alone s) bytes = here _ bytes
operands pool major pc opcode.PushByte bytes = then bytes _ _ (u1 _ bytes) (λ n. here _ n.1)
operands pool major pc opcode.PushShort bytes = then bytes _ _ (u2 _ bytes) (λ n. here _ n.1)
operands pool major pc opcode.Constant bytes = then bytes _ _ (u1 _ bytes) (λ n. constant n.1 _ _)
operands pool major pc opcode.ConstantWide bytes = then bytes _ _ (u2 _ bytes) (λ n. constant n.1 _ _)
operands pool major pc opcode.ConstantLong bytes = then bytes _ _ (u2 _ bytes) (λ n. constant n.1 _ _)
operands pool major pc (opcode.Local how) bytes = then bytes _ _ (u1 _ bytes) (λ n. here _ n.1)
operands pool major pc opcode.Increment bytes = then bytes _ _ (u1 _ bytes) (λ n. then n.1 _ _ (u1 _ n.1) (λ m. here _ m.1))
operands pool major pc (opcode.Branch how) bytes = then bytes _ _ (u2 _ bytes) (λ n. here _ n.1)
operands pool major pc (opcode.BranchWide how) bytes = then bytes _ _ (u4 _ bytes) (λ n. here _ n.1)
operands pool major pc opcode.TableSwitch bytes = table_switch _ pc bytes
operands pool major pc opcode.LookupSwitch bytes = lookup_switch _ pc bytes
operands pool major pc (opcode.Field how) bytes = then bytes _ _ (u2 _ bytes) (λ n. constant n.1 _ _)
operands pool major pc (opcode.Invoke how) bytes = then bytes _ _ (u2 _ bytes) (λ n. tested n.1 _ _ (λ t. behind _ how _ n.1 _))
operands pool major pc (opcode.Class how) bytes = then bytes _ _ (u2 _ bytes) (λ n. constant n.1 _ _)
operands pool major pc opcode.NewArray bytes = then bytes _ _ (u1 _ bytes) (λ n. tested n.1 _ _ (λ t. here _ n.1))
operands pool major pc opcode.Wide bytes = wide _ bytes
operands pool major pc opcode.MultiNewArray bytes = then bytes _ _ (u2 _ bytes) (λ n. then n.1 _ _ (u1 _ n.1) (λ m. constant m.1 _ _))
operands pool major pc opcode.Reserved bytes = record { is = tt }

-- After the opcode there is one byte less.
abbrev IsBelow : List ℕ → Result (Insn × List ℕ) ClassFault → Type 0
IsBelow bytes (Ok x) = length x.1 < length bytes
IsBelow bytes (Err e) = Unit {0}

below : (bytes rest : List ℕ) (read : Result (Insn × List ℕ) ClassFault) → length rest < length bytes → Shortens rest read → IsBelow bytes read
below bytes rest (Ok x) h s = let k = s.is in omega arith
below bytes rest (Err e) h s = tt

formed : (pool : List Constant) (major pc : ℕ) (bytes : List ℕ) (x : ℕ × List ℕ) (form : Option Opcode) → length x.1 < length bytes
    → IsBelow bytes (present form (fault.Opcode pc) >>= λ f. operands_at pool major pc f x.1)
formed pool major pc bytes x None h = tt
formed pool major pc bytes x (Some form) h = below bytes x.1 (operands_at pool major pc form x.1) h (operands pool major pc form x.1)

read_below : (pool : List Constant) (major pc : ℕ) (bytes : List ℕ) (x : ℕ × List ℕ) (short : Bool) → (short ≡ false → length x.1 < length bytes)
    → IsBelow bytes (cond short (Err (fault.Operand pc)) (Ok x) >>= λ code. (present (slice_get OPCODES code.0) (fault.Opcode pc) >>= λ f. operands_at pool major pc f code.1))
read_below pool major pc bytes x true h = tt
read_below pool major pc bytes x false h = formed pool major pc bytes x (slice_get OPCODES x.0) (h refl)

one_less : (bytes : List ℕ) → nat_lt (length bytes) 1 ≡ false → length (drop 1 bytes) < length bytes
one_less bytes e =
    let k : 0 < length bytes = omega (arith, ltb-false _ _ e) in
    omega (arith, length-drop 1 bytes)

-- After an instruction there is at least one byte less.
pub insn_below : (pool : List Constant) (major pc : ℕ) (bytes : List ℕ) (x : Insn) (rest : List ℕ) → insn_at pool major pc bytes ≡ Ok (x, rest) → length rest < length bytes
unfolding insn_at
insn_below pool major pc bytes x rest h =
    let k : IsBelow bytes (insn_at pool major pc bytes) = read_below pool major pc bytes (number 1 bytes, drop 1 bytes) (nat_lt (length bytes) 1) (one_less bytes) in
    subst (IsBelow bytes) h k
