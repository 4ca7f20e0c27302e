-- Class files (JVMS 4.1) that end early.
use Rattle.std.proofs.Common.{◌≡◌, ℕ, ◌<◌, ◌==◌, ◌||◌, true, List, [], ◌∷◌, ◌++◌, length, Result, Err, arith}
use Rattle.jvms_file.specs.declared.class_file.ClassFile.{ClassFile}
use Rattle.jvms_file.specs.declared.fault.ClassFault.{ClassFault}
use Rattle.jvms_file.specs.declared.fault.ClassFault.TheVariants as fault
use Rattle.jvms_file.specs.Results.{◌>>=◌, want}
use Rattle.jvms_file.specs.ConstantPool.{entries_fault, pool_at}
use Rattle.jvms_file.specs.ClassFile.{is_proper_class, is_version, interfaces_at, is_empty, class_at, read}
use Rattle.jvms_file.specs.Members.{kept_attributes_at, fields_at, methods_at}
use Rattle.jvms_file.specs.Spelling.{Spells}
use Rattle.classfile_laws.proofs.Steps.{want_step}
use Rattle.classfile_laws.proofs.Classes.{spelled_is_read}
use Rattle.classfile_laws.proofs.CutSteps.{Stops, number_stops, same_stops, want_stops, then_stops}
use Rattle.classfile_laws.proofs.CutPools.{pool_cut}
use Rattle.classfile_laws.proofs.CutMembers.{kept_attributes_cut, interfaces_cut, fields_cut, methods_cut}

not_empty : (behind more : List ℕ) → 0 < length more → is_empty (behind ++ more) ≡ true → ⊥
not_empty [] [] some e = omega (arith, some)
not_empty [] (b ∷ more) some e = absurd cc
not_empty (b ∷ behind) more some e = absurd cc

-- No bytes follow the last attribute.
nothing_behind : {A : Type 0} (cut : ClassFault) (behind more : List ℕ) (f : Unit {0} → Result A ClassFault) (short : Result A ClassFault) → 0 < length more → Stops cut short (want (is_empty (behind ++ more)) fault.Trailing >>= f)
nothing_behind cut behind more f short some =
    record { stops = λ y e. want_step (is_empty (behind ++ more)) fault.Trailing f y e (λ empty after. absurd (not_empty behind more some empty)) }

class_stops : (cut cut' : ClassFault) (first more : List ℕ) → 0 < length more → Stops cut (class_at cut first) (class_at cut' (first ++ more))
unfolding class_at
class_stops cut cut' first more some =
    number_stops 4 cut cut' first more _ _ (λ magic b1.
    want_stops cut (magic == 0xcafebabe) fault.Magic _ _
    (number_stops 2 cut cut' b1 more _ _ (λ minor b2.
    number_stops 2 cut cut' b2 more _ _ (λ major b3.
    want_stops cut (is_version major) fault.Version _ _
    (then_stops cut more (pool_at cut b3) (pool_at cut' (b3 ++ more)) _ _ (pool_cut cut cut' b3 more) (λ pool b4.
    same_stops {U = Unit {0}} cut (entries_fault pool pool) _ _ (λ _.
    number_stops 2 cut cut' b4 more _ _ (λ access b5.
    number_stops 2 cut cut' b5 more _ _ (λ this_class b6.
    want_stops cut (is_proper_class pool this_class) fault.Index _ _
    (number_stops 2 cut cut' b6 more _ _ (λ super_class b7.
    want_stops cut (super_class == 0 || is_proper_class pool super_class) fault.Index _ _
    (then_stops cut more (interfaces_at pool cut b7) (interfaces_at pool cut' (b7 ++ more)) _ _ (interfaces_cut pool cut cut' b7 more) (λ interfaces b8.
    then_stops cut more (fields_at pool cut b8) (fields_at pool cut' (b8 ++ more)) _ _ (fields_cut pool cut cut' b8 more) (λ fields b9.
    then_stops cut more (methods_at pool major cut access b9) (methods_at pool major cut' access (b9 ++ more)) _ _ (methods_cut pool major cut cut' access b9 more) (λ methods b10.
    then_stops cut more (kept_attributes_at pool cut b10) (kept_attributes_at pool cut' (b10 ++ more)) _ _ (kept_attributes_cut pool cut cut' b10 more) (λ attributes b11.
    nothing_behind cut b11 more _ _ some))))))))))))))))

-- The front of a spelling ends where bytes are missing.
pub front_is_truncated : (bytes more : List ℕ) (c : ClassFile) → Spells (bytes ++ more) c → 0 < length more → read bytes ≡ Err (fault.Truncated (length bytes))
front_is_truncated bytes more c spells some =
    (class_stops (fault.Truncated (length bytes)) (fault.Truncated (length (bytes ++ more))) bytes more some).stops c (spelled_is_read (bytes ++ more) c spells)
