-- Constant pools (JVMS 4.4) that end early.
use Rattle.std.proofs.Common.{ℕ, zero, suc, ◌-◌, ◌==◌, [], ◌∷◌, ◌++◌, List, Err}
use Rattle.std.specs.Int.{w32, w64}
use Rattle.jvms_file.specs.declared.class_file.Constant.{Constant}
use Rattle.jvms_file.specs.declared.class_file.Constant.TheVariants as constant
use Rattle.jvms_file.specs.declared.fault.ClassFault.{ClassFault}
use Rattle.jvms_file.specs.declared.fault.ClassFault.TheVariants as fault
use Rattle.jvms_file.specs.Bytes.{signed}
use Rattle.jvms_file.specs.ConstantPool.{utf8_constant_at, one_number_at, two_numbers_at, four_bytes_at, eight_bytes_at, tagged_at, constant_at, takes_two, entries_at, pool_at}
use Rattle.classfile_laws.proofs.CutSteps.{Cuts, given, then, same_then, chosen, number_then, bytes_then}

text_cut : (cut cut' : ClassFault) (first more : List ℕ) → Cuts cut more (utf8_constant_at cut first) (utf8_constant_at cut' (first ++ more))
text_cut cut cut' first more =
    number_then 2 cut cut' first more _ _ (λ count b1. bytes_then count cut cut' b1 more _ _ (λ text b2. same_then cut more _ _ _ (λ units. given cut more (constant.Utf8 units) b2)))

one_cut : (make : ℕ → Constant) (cut cut' : ClassFault) (first more : List ℕ) → Cuts cut more (one_number_at make cut first) (one_number_at make cut' (first ++ more))
one_cut make cut cut' first more = number_then 2 cut cut' first more _ _ (λ n b. given cut more (make n) b)

two_cut : (make : ℕ → ℕ → Constant) (cut cut' : ClassFault) (first more : List ℕ) → Cuts cut more (two_numbers_at make cut first) (two_numbers_at make cut' (first ++ more))
two_cut make cut cut' first more = number_then 2 cut cut' first more _ _ (λ m b1. number_then 2 cut cut' b1 more _ _ (λ n b2. given cut more (make m n) b2))

four_cut : (make : ℕ → Constant) (cut cut' : ClassFault) (first more : List ℕ) → Cuts cut more (four_bytes_at make cut first) (four_bytes_at make cut' (first ++ more))
four_cut make cut cut' first more = number_then 4 cut cut' first more _ _ (λ n b. given cut more (make n) b)

eight_cut : (make : ℕ → Constant) (cut cut' : ClassFault) (first more : List ℕ) → Cuts cut more (eight_bytes_at make cut first) (eight_bytes_at make cut' (first ++ more))
eight_cut make cut cut' first more = number_then 8 cut cut' first more _ _ (λ n b. given cut more (make n) b)

no_cut : (cut d : ClassFault) (more : List ℕ) → Cuts {A = Constant} cut more (Err d) (Err d)
no_cut cut d more = record { either = λ x rest e. absurd cc }

tagged_cut : (tag : ℕ) (cut cut' : ClassFault) (first more : List ℕ) → Cuts cut more (tagged_at tag cut first) (tagged_at tag cut' (first ++ more))
tagged_cut tag cut cut' first more =
    chosen cut more (tag == 1) _ _ _ _ (text_cut cut cut' first more)
    (chosen cut more (tag == 3) _ _ _ _ (four_cut (λ n. constant.Integer (signed w32 n)) cut cut' first more)
    (chosen cut more (tag == 4) _ _ _ _ (four_cut (λ n. constant.Float n) cut cut' first more)
    (chosen cut more (tag == 5) _ _ _ _ (eight_cut (λ n. constant.Long (signed w64 n)) cut cut' first more)
    (chosen cut more (tag == 6) _ _ _ _ (eight_cut (λ n. constant.Double n) cut cut' first more)
    (chosen cut more (tag == 7) _ _ _ _ (one_cut (λ n. constant.Class n) cut cut' first more)
    (chosen cut more (tag == 8) _ _ _ _ (one_cut (λ n. constant.String n) cut cut' first more)
    (chosen cut more (tag == 9) _ _ _ _ (two_cut (λ m n. constant.Field m n) cut cut' first more)
    (chosen cut more (tag == 10) _ _ _ _ (two_cut (λ m n. constant.Method m n) cut cut' first more)
    (chosen cut more (tag == 11) _ _ _ _ (two_cut (λ m n. constant.InterfaceMethod m n) cut cut' first more)
    (chosen cut more (tag == 12) _ _ _ _ (two_cut (λ m n. constant.NameAndType m n) cut cut' first more)
    (no_cut cut fault.Tag more)))))))))))

constant_cut : (cut cut' : ClassFault) (first more : List ℕ) → Cuts cut more (constant_at cut first) (constant_at cut' (first ++ more))
unfolding constant_at
constant_cut cut cut' first more = number_then 1 cut cut' first more _ _ (λ tag b. tagged_cut tag cut cut' b more)

entries_cut : (cut cut' : ClassFault) (count : ℕ) (first more : List ℕ) → Cuts cut more (entries_at cut count first) (entries_at cut' count (first ++ more))
unfolding entries_at
entries_cut cut cut' zero first more = given cut more [] first
entries_cut cut cut' (suc zero) first more =
    then cut more (constant_at cut first) (constant_at cut' (first ++ more)) _ _ (constant_cut cut cut' first more) (λ c b. given cut more (c ∷ []) b)
entries_cut cut cut' (suc (suc left)) first more =
    then cut more (constant_at cut first) (constant_at cut' (first ++ more)) _ _ (constant_cut cut cut' first more)
    (λ c b. chosen cut more (takes_two c) _ _ _ _
    (then cut more (entries_at cut left b) (entries_at cut' left (b ++ more)) _ _ (entries_cut cut cut' left b more) (λ cs b2. given cut more (c ∷ constant.Unusable ∷ cs) b2))
    (then cut more (entries_at cut (suc left) b) (entries_at cut' (suc left) (b ++ more)) _ _ (entries_cut cut cut' (suc left) b more) (λ cs b2. given cut more (c ∷ cs) b2)))

pub pool_cut : (cut cut' : ClassFault) (first more : List ℕ) → Cuts cut more (pool_at cut first) (pool_at cut' (first ++ more))
pool_cut cut cut' first more = number_then 2 cut cut' first more _ _ (λ count b. entries_cut cut cut' (count - 1) b more)
