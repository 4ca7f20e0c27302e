-- The constant pool (JVMS 4.4). A spelled one is read, and a read one is spelled so.
use Rattle.std.proofs.Common.{◌≡◌, ℕ, zero, suc, ◌+◌, ◌-◌, ◌<◌, Bool, true, false, List, [], ◌∷◌, ◌++◌, length, Ok, refl, sym, ap, subst, ◌∙◌, append_assoc, arith, inl, inr, append-nil}
use Rattle.std.proofs.lemmas.Bool.{cases_Bool}
use Rattle.jvms_file.specs.declared.class_file.Constant.{Constant}
use Rattle.jvms_file.specs.declared.class_file.Constant.TheVariants as constant
use Rattle.jvms_file.specs.declared.fault.ClassFault.{ClassFault}
use Rattle.jvms_file.specs.ConstantPool.{takes_two, constant_at, entries_at, pool_at, entry_fault, entries_fault}
use Rattle.jvms_file.specs.Spelling.{u2, IsU2, InOrder, IsNumbered, SpellsConstant, SpellsPool}
use Rattle.classfile_laws.proofs.Numbers.{IsBytes, u2_again}
use Rattle.classfile_laws.proofs.Steps.{Found, answered, joined, step, choose, u2_step}
use Rattle.classfile_laws.proofs.Constants.{IsUsable, constant_again, constant_found}

-- ---- Numbers that name no entry.

-- After an entry that takes one number comes one that names an entry, and its width decides the next.
first_number : (c : Constant) (cs : List Constant) → IsNumbered false (c ∷ cs) → IsUsable c × IsNumbered (takes_two c) cs
first_number constant.Unusable cs is = absurd is
first_number (constant.Utf8 text) cs is = (tt, is)
first_number (constant.Integer n) cs is = (tt, is)
first_number (constant.Float n) cs is = (tt, is)
first_number (constant.Long n) cs is = (tt, is)
first_number (constant.Double n) cs is = (tt, is)
first_number (constant.Class n) cs is = (tt, is)
first_number (constant.String n) cs is = (tt, is)
first_number (constant.Field m n) cs is = (tt, is)
first_number (constant.Method m n) cs is = (tt, is)
first_number (constant.InterfaceMethod m n) cs is = (tt, is)
first_number (constant.NameAndType m n) cs is = (tt, is)

-- A list is numbered if its first entry names one, and its width decides the others.
number_first : (c : Constant) (cs : List Constant) → IsUsable c → IsNumbered (takes_two c) cs → IsNumbered false (c ∷ cs)
number_first constant.Unusable cs usable is = absurd usable
number_first (constant.Utf8 text) cs usable is = is
number_first (constant.Integer n) cs usable is = is
number_first (constant.Float n) cs usable is = is
number_first (constant.Long n) cs usable is = is
number_first (constant.Double n) cs usable is = is
number_first (constant.Class n) cs usable is = is
number_first (constant.String n) cs usable is = is
number_first (constant.Field m n) cs usable is = is
number_first (constant.Method m n) cs usable is = is
number_first (constant.InterfaceMethod m n) cs usable is = is
number_first (constant.NameAndType m n) cs usable is = is

-- The number after a long or a double names no entry.
second_number : (c : Constant) (cs : List Constant) → IsNumbered true (c ∷ cs) → (c ≡ constant.Unusable) × IsNumbered false cs
second_number constant.Unusable cs is = (refl, is)
second_number (constant.Utf8 text) cs is = absurd is
second_number (constant.Integer n) cs is = absurd is
second_number (constant.Float n) cs is = absurd is
second_number (constant.Long n) cs is = absurd is
second_number (constant.Double n) cs is = absurd is
second_number (constant.Class n) cs is = absurd is
second_number (constant.String n) cs is = absurd is
second_number (constant.Field m n) cs is = absurd is
second_number (constant.Method m n) cs is = absurd is
second_number (constant.InterfaceMethod m n) cs is = absurd is
second_number (constant.NameAndType m n) cs is = absurd is

-- No bytes spell a number that names no entry.
unusable_is_empty : (c : Constant) (bytes : List ℕ) → c ≡ constant.Unusable → SpellsConstant bytes c → bytes ≡ []
unusable_is_empty c bytes is s = subst (SpellsConstant bytes) is s

-- The last entry takes one number.
last_takes_one : (pool : List Constant) (c : Constant) → entry_fault pool c [] ≡ Ok tt → takes_two c ≡ false
unfolding entry_fault
last_takes_one pool (constant.Long n) e = absurd cc
last_takes_one pool (constant.Double n) e = absurd cc
last_takes_one pool constant.Unusable e = refl
last_takes_one pool (constant.Utf8 text) e = refl
last_takes_one pool (constant.Integer n) e = refl
last_takes_one pool (constant.Float n) e = refl
last_takes_one pool (constant.Class n) e = refl
last_takes_one pool (constant.String n) e = refl
last_takes_one pool (constant.Field m n) e = refl
last_takes_one pool (constant.Method m n) e = refl
last_takes_one pool (constant.InterfaceMethod m n) e = refl
last_takes_one pool (constant.NameAndType m n) e = refl

-- If none of the entries has a fault, the first has none, and neither have those after it.
no_fault : (pool : List Constant) (c : Constant) (cs : List Constant) → entries_fault pool (c ∷ cs) ≡ Ok tt → (entry_fault pool c cs ≡ Ok tt) × (entries_fault pool cs ≡ Ok tt)
unfolding entries_fault
no_fault pool c cs e = step (entry_fault pool c cs) (λ _. entries_fault pool cs) tt e (λ u is more. (is, more))

-- ---- Spelled entries are read.

-- Entries that are spelled one after another are read.
entries_again : (cut : ClassFault) (cs : List Constant) (bytes rest : List ℕ) → IsNumbered false cs → InOrder SpellsConstant bytes cs → entries_at cut (length cs) (bytes ++ rest) ≡ Ok (cs, rest)
unfolding entries_at
entries_again cut [] bytes rest is s = rw s refl
entries_again cut (c ∷ []) bytes rest is s =
    let first = first_number c [] is in
    rw (s.2, append_assoc s.0 s.1 rest, constant_again cut s.0 c (s.1 ++ rest) first.0 s.3, s.4) refl
entries_again cut (c ∷ d ∷ cs) bytes rest is s =
    let first = first_number c (d ∷ cs) is in
    let others = s.4 in
    rw (s.2, append_assoc s.0 s.1 rest, constant_again cut s.0 c (s.1 ++ rest) first.0 s.3)
    (elim (cases_Bool (takes_two c)) [
      | inl two ↦
          let second = second_number d cs (subst (λ (b : Bool). IsNumbered b (d ∷ cs)) two first.1) in
          let none = unusable_is_empty d others.0 second.0 others.3 in
          rw (two, others.2, none, entries_again cut cs others.1 rest second.1 others.4, second.0) refl
      | inr one ↦
          rw (one, entries_again cut (d ∷ cs) s.1 rest (subst (λ (b : Bool). IsNumbered b (d ∷ cs)) one first.1) others) refl
    ])

-- A pool that is spelled is read.
pub pool_again : (cut : ClassFault) (bytes : List ℕ) (pool : List Constant) (rest : List ℕ) → SpellsPool bytes pool → pool_at cut (bytes ++ rest) ≡ Ok (pool, rest)
pool_again cut bytes pool rest s =
    let two = s.3 in
    let fewer : length pool + 1 - 1 ≡ length pool = omega arith in
    rw (two.2, append_assoc two.0 two.1 rest, two.3, u2_again cut (length pool + 1) (two.1 ++ rest) s.0, fewer) (entries_again cut pool two.1 rest s.1 two.4)

-- ---- Read entries are spelled so.

record FoundEntries (n : ℕ) (bytes : List ℕ) (cs : List Constant) (rest : List ℕ) : Type 0 where
  count : length cs ≡ n
  numbered : IsNumbered false cs
  found : Found (InOrder SpellsConstant) bytes cs rest

-- Entries without a fault are spelled where they were read.
entries_found : (pool : List Constant) (cut : ClassFault) (n : ℕ) (bytes : List ℕ) (cs : List Constant) (rest : List ℕ) → IsBytes bytes → entries_fault pool cs ≡ Ok tt → entries_at cut n bytes ≡ Ok (cs, rest) → FoundEntries n bytes cs rest
unfolding entries_at
entries_found pool cut zero bytes cs rest are sound e =
    let same = answered [] cs bytes rest e in
    subst (λ (ds : List Constant). FoundEntries 0 bytes ds rest) same.0 (record { count = refl; numbered = refl; found = record { first = []; parts = same.1; spells = refl; left = subst IsBytes same.1 are } })
entries_found pool cut (suc zero) bytes cs rest are sound e =
    step (constant_at cut bytes) _ _ e (λ x is last.
    let found = constant_found cut bytes x.0 x.1 are is in
    let same = answered (x.0 ∷ []) cs x.1 rest last in
    let one = last_takes_one pool x.0 (no_fault pool x.0 [] (subst (λ (ds : List Constant). entries_fault pool ds ≡ Ok tt) (sym same.0) sound)).0 in
    subst (λ (ds : List Constant). FoundEntries 1 bytes ds rest) same.0 (record {
      count = refl;
      numbered = number_first x.0 [] found.spells.1 one;
      found = record { first = found.first; parts = found.parts ∙ ap (λ (w : List ℕ). found.first ++ w) same.1; spells = (found.first, [], sym (append-nil found.first), found.spells.0, refl); left = subst IsBytes same.1 found.left };
    }))
entries_found pool cut (suc (suc left)) bytes cs rest are sound e =
    step (constant_at cut bytes) _ _ e (λ x is more.
    let found = constant_found cut bytes x.0 x.1 are is in
    choose (takes_two x.0) _ _ _ more
    (λ two f. step (entries_at cut left x.1) _ _ f (λ ys are_those last.
    let same = answered (x.0 ∷ constant.Unusable ∷ ys.0) cs ys.1 rest last in
    let sound2 = no_fault pool constant.Unusable ys.0 (no_fault pool x.0 (constant.Unusable ∷ ys.0) (subst (λ (ds : List Constant). entries_fault pool ds ≡ Ok tt) (sym same.0) sound)).1 in
    let others = entries_found pool cut left x.1 ys.0 ys.1 found.left sound2.1 are_those in
    let behind = others.found in
    subst (λ (ds : List Constant). FoundEntries (suc (suc left)) bytes ds rest) same.0 (record {
      count = ap (λ (k : ℕ). suc (suc k)) others.count;
      numbered = number_first x.0 (constant.Unusable ∷ ys.0) found.spells.1 (subst (λ (b : Bool). IsNumbered b (constant.Unusable ∷ ys.0)) (sym two) others.numbered);
      found = record { first = found.first ++ behind.first; parts = joined found.first behind.first rest bytes x.1 ys.1 found.parts behind.parts same.1; spells = (found.first, behind.first, refl, found.spells.0, ([], behind.first, refl, refl, behind.spells)); left = subst IsBytes same.1 behind.left };
    })))
    (λ one f. step (entries_at cut (suc left) x.1) _ _ f (λ ys are_those last.
    let same = answered (x.0 ∷ ys.0) cs ys.1 rest last in
    let sound2 = no_fault pool x.0 ys.0 (subst (λ (ds : List Constant). entries_fault pool ds ≡ Ok tt) (sym same.0) sound) in
    let others = entries_found pool cut (suc left) x.1 ys.0 ys.1 found.left sound2.1 are_those in
    let behind = others.found in
    subst (λ (ds : List Constant). FoundEntries (suc (suc left)) bytes ds rest) same.0 (record {
      count = ap suc others.count;
      numbered = number_first x.0 ys.0 found.spells.1 (subst (λ (b : Bool). IsNumbered b ys.0) (sym one) others.numbered);
      found = record { first = found.first ++ behind.first; parts = joined found.first behind.first rest bytes x.1 ys.1 found.parts behind.parts same.1; spells = (found.first, behind.first, refl, found.spells.0, behind.spells); left = subst IsBytes same.1 behind.left };
    }))))

-- A pool that was read. A count of 0 is read as a pool without entries, and isn't spelled so.
pub record FoundPool (bytes : List ℕ) (pool : List Constant) (rest : List ℕ) : Type 0 where
  pub left : IsBytes rest
  pub spelled : 0 < length pool → Found SpellsPool bytes pool rest

-- A pool without a faulty entry is spelled where it was read.
pub pool_found : (cut : ClassFault) (bytes : List ℕ) (pool : List Constant) (rest : List ℕ) → IsBytes bytes → entries_fault pool pool ≡ Ok tt → pool_at cut bytes ≡ Ok (pool, rest) → FoundPool bytes pool rest
pool_found cut bytes pool rest are sound e =
    u2_step cut bytes _ _ are e (λ n behind fits parts left more.
    let others = entries_found pool cut (n - 1) behind pool rest left sound more in
    let found = others.found in
    record {
      left = found.left;
      spelled = λ some.
          let count : n ≡ length pool + 1 = omega (arith, others.count) in
          record {
            first = u2 n ++ found.first;
            parts = joined (u2 n) found.first rest bytes behind rest parts found.parts refl;
            spells = (subst IsU2 count fits, others.numbered, sound, (u2 n, found.first, refl, ap u2 count, found.spells));
            left = found.left;
          };
    })
