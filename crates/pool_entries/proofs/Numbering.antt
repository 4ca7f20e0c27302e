-- Entries are numbered in their pool as they are among themselves.
use Rattle.std.proofs.Common.{◌≡◌, ℕ, ◌+◌, true, false, cond, List, [], ◌∷◌, ◌++◌, length, Option, None, Some, Result, Ok, Err, refl, sym, ap, ◌∙◌, arith, nat_le, append-nil, subst}
use Rattle.std.specs.List.{AllByRecursion}
use Rattle.std.proofs.lemmas.List.Concat.{flat_map-append}
use Rattle.jvms_file.specs.declared.class_file.Constant.{Constant}
use Rattle.jvms_file.specs.declared.class_file.Constant.TheVariants as constant
use Rattle.jvms_file.specs.ConstantPool.{takes_two}
use Rattle.const_pool.specs.declared.entry.Entry.{Entry}
use Rattle.const_pool.specs.declared.entry.Entry.TheVariants as entry
use Rattle.const_pool.specs.declared.builder.PoolFault.{PoolFault}
use Rattle.const_pool.specs.declared.builder.PoolFault.TheVariants as pool_fault
use Rattle.const_pool.specs.Interning.{constant_of, constants_of, pool_of, is_same, width, total_width, number_from, intern, Interns}
use Rattle.const_pool.proofs.Interned.{length-pool_of}
use Rattle.pool_entries.specs.declared.fault.EntryFault.{EntryFault}
use Rattle.pool_entries.specs.declared.fault.EntryFault.TheVariants as fault
use Rattle.pool_entries.specs.Entries.{is_same as is_same_constant, numbers_of, number_from as number_in, constant_entry, IsShort, AreShort, IsProper, AreProper, Gives}
use Rattle.pool_entries.specs.Faults.{fault_of}

-- Two entries are equal exactly if their constants are.
one_constant : (a b : Entry) → is_same_constant (constant_of a) (constant_of b) ≡ is_same a b
one_constant (entry.Utf8 a) (entry.Utf8 b) = refl
one_constant (entry.Integer a) (entry.Integer b) = refl
one_constant (entry.Float a) (entry.Float b) = refl
one_constant (entry.Long a) (entry.Long b) = refl
one_constant (entry.Double a) (entry.Double b) = refl
one_constant (entry.Class a) (entry.Class b) = refl
one_constant (entry.String a) (entry.String b) = refl
one_constant (entry.Field a m) (entry.Field b n) = refl
one_constant (entry.Method a m) (entry.Method b n) = refl
one_constant (entry.InterfaceMethod a m) (entry.InterfaceMethod b n) = refl
one_constant (entry.NameAndType a m) (entry.NameAndType b n) = refl
one_constant _ _ = refl

-- No entry is the unusable one.
usable : (e : Entry) → is_same_constant (constant_of e) constant.Unusable ≡ false
usable (entry.Utf8 a) = refl
usable _ = refl

-- ---- The number of an entry

behind_two : (n : ℕ) (r : ℕ → Option ℕ) → r (n + 1 + 1) ≡ r (n + 2)
behind_two n r = let far : n + 1 + 1 ≡ n + 2 = omega arith in ap r far

number_after_entry : (n : ℕ) (x e : Entry) (pool : List Constant)
    → number_in n (constants_of x ++ pool) (constant_of e) ≡ cond (is_same e x) (Some n) (number_in (n + width x) pool (constant_of e))
number_after_entry n x e pool =
    elim (takes_two (constant_of x)) as (λ two. number_in n (cond two (constant_of x ∷ constant.Unusable ∷ []) (constant_of x ∷ []) ++ pool) (constant_of e) ≡ cond (is_same e x) (Some n) (number_in (n + cond two 2 1) pool (constant_of e))) [
      | true ↦ rw (one_constant e x, usable e) (ap (cond (is_same e x) (Some n)) (behind_two n (λ m. number_in m pool (constant_of e))))
      | false ↦ rw (one_constant e x) refl
    ]

same_number : (n : ℕ) (es : List Entry) (e : Entry) → number_in n (pool_of es) (constant_of e) ≡ number_from n es e
same_number n [] e = refl
same_number n (x ∷ es) e =
    number_after_entry n x e (pool_of es) ∙ ap (cond (is_same e x) (Some n)) (same_number (n + width x) es e)

-- ---- Interning

-- A result of interning, over the pool.
abbrev in_pool : Result (ℕ × List Entry) PoolFault → Result (ℕ × List Constant) EntryFault
in_pool (Ok (n, es)) = Ok (n, pool_of es)
in_pool (Err f) = Err (fault_of f)

length-numbers_of : (e : Entry) → length (numbers_of (constant_of e)) ≡ width e
length-numbers_of e =
    elim (takes_two (constant_of e)) as (λ two. length (cond two (constant_of e ∷ constant.Unusable ∷ []) (constant_of e ∷ [])) ≡ cond two 2 1) [ true ↦ refl | false ↦ refl ]

pool_of-push : (es : List Entry) (e : Entry) → pool_of es ++ numbers_of (constant_of e) ≡ pool_of (es ++ e ∷ [])
pool_of-push es e = sym (flat_map-append constants_of es (e ∷ []) ∙ ap (λ cs. pool_of es ++ cs) (append-nil (constants_of e)))

same_by : (es : List Entry) (e : Entry) (r : Option ℕ) → r ≡ number_from 1 es e → constant_entry (pool_of es) (constant_of e) ≡ in_pool (intern es e)
unfolding constant_entry intern
same_by es e (Some n) is = rw (same_number 1 es e, ← is) refl
same_by es e None is =
    rw (same_number 1 es e, ← is, length-pool_of es, length-numbers_of e, pool_of-push es e)
    (elim (nat_le (total_width es + width e) 65534) as (λ fits. cond fits (Ok (total_width es + 1, pool_of (es ++ e ∷ []))) (Err fault.PoolFull) ≡ in_pool (cond fits (Ok (total_width es + 1, es ++ e ∷ [])) (Err pool_fault.PoolFull))) [ true ↦ refl | false ↦ refl ])

-- The entry that is interned is the pool's.
pub constant_entry-pool_of : (es : List Entry) (e : Entry) → constant_entry (pool_of es) (constant_of e) ≡ in_pool (intern es e)
constant_entry-pool_of es e = same_by es e (number_from 1 es e) refl

pub gives_interned : (es new : List Entry) (e : Entry) (n : ℕ) → intern es e ≡ Ok (n, new) → constant_entry (pool_of es) (constant_of e) ≡ Ok (n, pool_of new)
gives_interned es new e n is = constant_entry-pool_of es e ∙ ap in_pool is

pub gives_fault : (es new : List Entry) (e : Entry) (f : PoolFault) (pool : List Constant) → Interns es e (Err f) new → Gives (constant_entry (pool_of es) (constant_of e)) (Err (fault_of f)) pool
gives_fault es new e pool_fault.PoolFull pool is = constant_entry-pool_of es e ∙ ap in_pool is.0
gives_fault es new e pool_fault.Memory pool is = tt

-- ---- A property of each entry is kept

holds_push : (P : Constant → Type 0) (xs ys : List Constant) → AllByRecursion P xs → AllByRecursion P ys → AllByRecursion P (xs ++ ys)
holds_push P [] ys are more = more
holds_push P (x ∷ xs) ys are more = (are.0, holds_push P xs ys are.1 more)

holds_numbers : (P : Constant → Type 0) (c : Constant) → P constant.Unusable → P c → AllByRecursion P (numbers_of c)
holds_numbers P c unusable is =
    elim (takes_two c) as (λ two. AllByRecursion P (cond two (c ∷ constant.Unusable ∷ []) (c ∷ []))) [ true ↦ (is, (unusable, tt)) | false ↦ (is, tt) ]

holds_in : (Constant → Type 0) → Result (ℕ × List Entry) PoolFault → Type 0
holds_in P (Ok (n, new)) = AllByRecursion P (pool_of new)
holds_in P (Err f) = Unit {0}

holds_by : (P : Constant → Type 0) (es : List Entry) (e : Entry) (r : Option ℕ) → r ≡ number_from 1 es e → P constant.Unusable → P (constant_of e) → AllByRecursion P (pool_of es) → holds_in P (intern es e)
unfolding intern holds_in
holds_by P es e (Some n) is unusable new are = rw (← is) are
holds_by P es e None is unusable new are =
    rw (← is)
    (elim (nat_le (total_width es + width e) 65534) as (λ fits. holds_in P (cond fits (Ok (total_width es + 1, es ++ e ∷ [])) (Err pool_fault.PoolFull))) [
      | true ↦ subst (AllByRecursion P) (pool_of-push es e) (holds_push P (pool_of es) (numbers_of (constant_of e)) are (holds_numbers P (constant_of e) unusable new))
      | false ↦ tt
    ])

holds_on : (P : Constant → Type 0) (es new : List Entry) (e : Entry) (n : ℕ) → P constant.Unusable → P (constant_of e) → AllByRecursion P (pool_of es) → intern es e ≡ Ok (n, new) → AllByRecursion P (pool_of new)
unfolding holds_in
holds_on P es new e n unusable one are is = subst (holds_in P) is (holds_by P es e (number_from 1 es e) refl unusable one are)

-- Texts stay short, and their units stay within 16 bits.
pub stays_short : (es new : List Entry) (e : Entry) (n : ℕ) → IsShort (constant_of e) → AreShort (pool_of es) → intern es e ≡ Ok (n, new) → AreShort (pool_of new)
stays_short es new e n short are is = holds_on IsShort es new e n tt short are is

pub stays_proper : (es new : List Entry) (e : Entry) (n : ℕ) → IsProper (constant_of e) → AreProper (pool_of es) → intern es e ≡ Ok (n, new) → AreProper (pool_of new)
stays_proper es new e n proper are is = holds_on IsProper es new e n tt proper are is
