-- The instructions of bytes, each with its byte. They are read one after another, and their bytes rise.
use Rattle.std.proofs.Common.{◌≡◌, ℕ, zero, suc, ◌-◌, ◌+◌, ◌≤◌, ◌<◌, List, [], ◌∷◌, ◌++◌, length, get_or, map, Result, Ok, Err, refl, sym, ap, subst, ◌∙◌, arith}
use Rattle.std.proofs.lemmas.List.{append-nil, map_push}
use Rattle.jvms_file.specs.declared.class_file.Constant.{Constant}
use Rattle.jvms_file.specs.declared.fault.ClassFault.{ClassFault}
use Rattle.jvms_file.specs.declared.fault.ReadError.{ReadError}
use Rattle.jvms_file.specs.declared.fault.ReadError.TheVariants as error
use Rattle.jvms_file.specs.declared.insn.Insn.{Insn}
use Rattle.jvms_file.specs.Results.{◌>>=◌}
use Rattle.jvms_file.specs.Reading.{Fails}
use Rattle.jvms_file.specs.Instructions.{insn_at}
use Rattle.jvms_file.specs.Code.{InsnAtByte, insns_at_bytes_from, insns_at_bytes, starts, insns_with_places, insns_of}
use Rattle.insn.specs.declared.located.InsnAt.{InsnAt}
use Rattle.insn.specs.Locating.{placed_of, all_placed}
use Rattle.insn.specs.Places.{IsStarts}
use Rattle.insn.proofs.Shortening.{insn_below}
use Rattle.insn.proofs.Collecting.{with_items, regroup}

-- The invariant of a loop that has read the instructions of the first bytes: `most` suffices for the rest.
pub record IsReading (pool : List Constant) (major : ℕ) (bytes : List ℕ) (front : List InsnAtByte) (rest : List ℕ) : Type 0 where
  pub most : ℕ
  pub enough : length rest ≤ most
  pub within : length rest ≤ length bytes
  pub reads : with_items front (insns_at_bytes_from most pool major (length bytes - length rest) rest) ≡ insns_at_bytes pool major bytes

pub reading_starts : (pool : List Constant) (major : ℕ) (bytes : List ℕ) → IsReading pool major bytes [] bytes
reading_starts pool major bytes = record {
  most = length bytes;
  enough = omega arith;
  within = omega arith;
  reads = let z : length bytes - length bytes ≡ 0 = omega arith in rw z (same (insns_at_bytes pool major bytes));
}
  where
    same : (read : Result (List InsnAtByte) ClassFault) → with_items [] read ≡ read
    same (Ok xs) = refl
    same (Err f) = refl

stepped : (pool : List Constant) (major pc : ℕ) (front : List InsnAtByte) (most : ℕ) (rest : List ℕ) (i : Insn) (behind : List ℕ) → 0 < length rest → length rest ≤ suc most → insn_at pool major pc rest ≡ Ok (i, behind)
    → with_items front (insns_at_bytes_from (suc most) pool major pc rest) ≡ with_items (front ++ record { pc = pc; insn = i } ∷ []) (insns_at_bytes_from most pool major (pc + (length rest - length behind)) behind)
unfolding insns_at_bytes_from
stepped pool major pc front most [] i behind lt le h = absurd (omega arith)
stepped pool major pc front most (b ∷ bytes) i behind lt le h =
    rw h (regroup front (record { pc = pc; insn = i }) (insns_at_bytes_from most pool major (pc + (length (b ∷ bytes) - length behind)) behind))

pub reading_goes_on : (pool : List Constant) (major : ℕ) (bytes : List ℕ) (front : List InsnAtByte) (rest : List ℕ) (i : Insn) (behind : List ℕ) → 0 < length rest → insn_at pool major (length bytes - length rest) rest ≡ Ok (i, behind)
    → IsReading pool major bytes front rest → IsReading pool major bytes (front ++ record { pc = length bytes - length rest; insn = i } ∷ []) behind
reading_goes_on pool major bytes front rest i behind lt h s = by_most s.most s.enough s.reads
  where
    by_most : (most : ℕ) → length rest ≤ most → with_items front (insns_at_bytes_from most pool major (length bytes - length rest) rest) ≡ insns_at_bytes pool major bytes → IsReading pool major bytes (front ++ record { pc = length bytes - length rest; insn = i } ∷ []) behind
    by_most zero le reads = absurd (omega arith)
    by_most (suc most) le reads =
        let below : length behind < length rest = insn_below pool major (length bytes - length rest) rest i behind h in
        let within : length rest ≤ length bytes = s.within in
        let next : (length bytes - length rest) + (length rest - length behind) ≡ length bytes - length behind = omega arith in
        let one : with_items front (insns_at_bytes_from (suc most) pool major (length bytes - length rest) rest) ≡ with_items (front ++ record { pc = length bytes - length rest; insn = i } ∷ []) (insns_at_bytes_from most pool major (length bytes - length behind) behind) =
        rw (sym next) (stepped pool major (length bytes - length rest) front most rest i behind lt le h) in
        record { most = most; enough = omega arith; within = omega arith; reads = sym one ∙ reads }

pub reading_stops : (e : ReadError) (pool : List Constant) (major : ℕ) (bytes : List ℕ) (front : List InsnAtByte) (rest : List ℕ) → 0 < length rest → Fails e (insn_at pool major (length bytes - length rest) rest)
    → IsReading pool major bytes front rest → Fails e (insns_at_bytes pool major bytes)
unfolding insns_at_bytes_from
reading_stops error.Memory pool major bytes front rest lt h s = tt
reading_stops (error.Fault f) pool major bytes front rest lt h s = sym s.reads ∙ fails s.most rest lt s.enough h
  where
    fails : (most : ℕ) (left : List ℕ) → 0 < length left → length left ≤ most → insn_at pool major (length bytes - length rest) left ≡ Err f → with_items front (insns_at_bytes_from most pool major (length bytes - length rest) left) ≡ Err f
    fails zero left lt le h = absurd (omega arith)
    fails (suc most) [] lt le h = absurd (omega arith)
    fails (suc most) (b ∷ left) lt le h = rw h refl

pub reading_ends : (pool : List Constant) (major : ℕ) (bytes : List ℕ) (front : List InsnAtByte) (rest : List ℕ) → length rest ≡ 0 → IsReading pool major bytes front rest → insns_at_bytes pool major bytes ≡ Ok front
unfolding insns_at_bytes_from
reading_ends pool major bytes front rest none s = sym s.reads ∙ ended s.most rest none
  where
    ended : (most : ℕ) (left : List ℕ) → length left ≡ 0 → with_items front (insns_at_bytes_from most pool major (length bytes - length rest) left) ≡ Ok front
    ended zero [] h = ap (λ (ys : List InsnAtByte). Ok ys) (append-nil front)
    ended (suc most) [] h = ap (λ (ys : List InsnAtByte). Ok ys) (append-nil front)
    ended most (b ∷ left) h = absurd (omega arith)

-- ---- Their bytes rise.

record IsFrom (pc most : ℕ) (pcs : List ℕ) : Type 0 where
  rising : (i j : ℕ) → i < j → j < length pcs → get_or pcs i 0 < get_or pcs j 0
  above : (k : ℕ) → k < length pcs → pc ≤ get_or pcs k 0
  few : length pcs ≤ most

one_more : (pc next most more : ℕ) (pcs : List ℕ) → pc < next → most < more → IsFrom next most pcs → IsFrom pc more (pc ∷ pcs)
one_more pc next most more pcs up room s = record { rising = rises; above = lies; few = omega (arith, s.few) }
  where
    rises : (i j : ℕ) → i < j → j < length (pc ∷ pcs) → get_or (pc ∷ pcs) i 0 < get_or (pc ∷ pcs) j 0
    rises zero zero h k = absurd (omega arith)
    rises zero (suc j) h k = let l : next ≤ get_or pcs j 0 = s.above j (omega arith) in omega arith
    rises (suc i) zero h k = absurd (omega arith)
    rises (suc i) (suc j) h k = s.rising i j (omega arith) (omega arith)

    lies : (k : ℕ) → k < length (pc ∷ pcs) → pc ≤ get_or (pc ∷ pcs) k 0
    lies zero h = omega arith
    lies (suc k) h = let l : next ≤ get_or pcs k 0 = s.above k (omega arith) in omega arith

none_from : (pc most : ℕ) → IsFrom pc most []
none_from pc most = record { rising = λ i j h k. absurd (omega arith); above = λ k h. absurd (omega arith); few = omega arith }

abbrev RisesFrom : ℕ → ℕ → Result (List InsnAtByte) ClassFault → Type 0
RisesFrom pc most (Ok is) = IsFrom pc most (starts is)
RisesFrom pc most (Err e) = Unit {0}

joined : (pc next most more : ℕ) (i : Insn) (read : Result (List InsnAtByte) ClassFault) → pc < next → most < more → RisesFrom next most read → RisesFrom pc more (read >>= λ others. Ok (record { pc = pc; insn = i } ∷ others))
joined pc next most more i (Ok is) up room s = one_more pc next most more (starts is) up room s
joined pc next most more i (Err e) up room s = tt

-- One instruction, and the bytes of those after it, which rise from its end.
one_read : (most : ℕ) (pool : List Constant) (major pc : ℕ) (bytes : List ℕ) (others : (next : ℕ) (rest : List ℕ) → RisesFrom next (length rest) (insns_at_bytes_from most pool major next rest)) (r : Result (Insn × List ℕ) ClassFault) → insn_at pool major pc bytes ≡ r
    → RisesFrom pc (length bytes) (r >>= λ i. (insns_at_bytes_from most pool major (pc + (length bytes - length i.1)) i.1 >>= λ is. Ok (record { pc = pc; insn = i.0 } ∷ is)))
one_read most pool major pc bytes others (Ok x) h =
    let below : length x.1 < length bytes = insn_below pool major pc bytes x.0 x.1 h in
    let next = pc + (length bytes - length x.1) in
    joined pc next (length x.1) (length bytes) x.0 (insns_at_bytes_from most pool major next x.1) (omega arith) below (others next x.1)
one_read most pool major pc bytes others (Err e) h = tt

rise : (most : ℕ) (pool : List Constant) (major pc : ℕ) (bytes : List ℕ) → RisesFrom pc (length bytes) (insns_at_bytes_from most pool major pc bytes)
unfolding insns_at_bytes_from
rise zero pool major pc [] = none_from pc 0
rise (suc most) pool major pc [] = none_from pc 0
rise zero pool major pc (b ∷ bytes) = none_from pc (length (b ∷ bytes))
rise (suc most) pool major pc (b ∷ bytes) = one_read most pool major pc (b ∷ bytes) (λ next rest. rise most pool major next rest) (insn_at pool major pc (b ∷ bytes)) refl

-- The bytes at which a method's instructions start rise, and there are at most 65,535.
pub placed_rise : (pool : List Constant) (major : ℕ) (bytes : List ℕ) (is : List InsnAtByte) → length bytes ≤ 65535 → insns_at_bytes pool major bytes ≡ Ok is → IsStarts (starts is)
placed_rise pool major bytes is le h =
    let k : RisesFrom 0 (length bytes) (insns_at_bytes pool major bytes) = rise (length bytes) pool major 0 bytes in
    let s : IsFrom 0 (length bytes) (starts is) = subst (RisesFrom 0 (length bytes)) h k in
    record { rising = s.rising; few = omega (arith, s.few) }

pub pcs_of_all : (ls : List InsnAt) → map (λ l. l.pc) ls ≡ starts (all_placed ls)
pcs_of_all [] = refl
pcs_of_all (l ∷ ls) = ap (λ (pcs : List ℕ). l.pc ∷ pcs) (pcs_of_all ls)

-- A loop appends one more instruction.
pub one_pushed : (ls : List InsnAt) (l : InsnAt) → all_placed (ls ++ l ∷ []) ≡ all_placed ls ++ placed_of l ∷ []
one_pushed ls l = map_push placed_of ls l

-- A fault of the second pass is one of the whole.
pub places_stop : (e : ReadError) (pool : List Constant) (major : ℕ) (bytes : List ℕ) (is : List InsnAtByte) → insns_at_bytes pool major bytes ≡ Ok is → Fails e (insns_with_places (starts is) is) → Fails e (insns_of pool major bytes)
unfolding insns_of
places_stop error.Memory pool major bytes is h r = tt
places_stop (error.Fault f) pool major bytes is h r = rw (h, r) refl
