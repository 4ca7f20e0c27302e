-- Counts of arrays and elements that are capped above any limit.
use Rattle.std.proofs.Common.{◌≡◌, ℕ, zero, suc, ◌+◌, ◌*◌, ◌<◌, ◌≤◌, Bool, true, false, not, ◌&&◌, nat_lt, nat_le, List, [], ◌∷◌, length, if◌then◌else◌, refl, sym, ap, ◌∙◌, arith, add-zero, mul-zero, suc-mul, zero-mul}
use Rattle.std.specs.Prelude.{map}
use Rattle.std.proofs.lemmas.Bool.{false≢true}
use Rattle.std.proofs.lemmas.Bool.Decides.{nat_tests}
use Rattle.jvms_machine.specs.declared.value.Value.{Value}
use Rattle.jvms_machine.specs.declared.machine.Limits.{Limits}
use Rattle.jvms_machine.specs.declared.action.NewObject.TheVariants as new_object
use Rattle.jvms_program.specs.declared.thrown.Thrown.TheVariants as thrown
use Rattle.jvms_machine.specs.State.{State, Thread}
use Rattle.jvms_machine.specs.Exceptions.{throws}
use Rattle.jvms_machine.specs.Heap.{arrays_made, elements_made, has_dimensions, has_room_for_elements}
use Rattle.jvms_machine.specs.Decisions.{never_seen}
use Rattle.jvms_machine.specs.Arrays.{length_of_value, creation_decision, new_arrays_room}
use Rattle.exec_ref.specs.Counting.{capped_count}

-- ---- Capped numbers

cap_is : (z : ℕ) → 0x100000000 ≤ z → capped_count z ≡ 0x100000000
cap_is z most = grind (arith, nat_tests)

under_cap : (z : ℕ) → z ≤ 0x100000000 → capped_count z ≡ z
under_cap z few = grind (arith, nat_tests)

at_least : (b k z : ℕ) → z ≤ b + suc k * z
at_least b k z = omega (arith, suc-mul k z)

grown_over : (b n y : ℕ) → 0x100000000 < y → capped_count (b + n * 0x100000000) ≡ capped_count (b + n * y)
grown_over b zero y over = ap (λ k. capped_count (b + k)) (zero-mul 0x100000000 ∙ sym (zero-mul y))
grown_over b (suc k) y over =
    cap_is (b + suc k * 0x100000000) (at_least b k 0x100000000) ∙ sym (cap_is (b + suc k * y) (let least = at_least b k y in omega (arith, least, over)))

grown_by : (b n y : ℕ) (over : Bool) → nat_lt 0x100000000 y ≡ over → capped_count (b + n * (if over then 0x100000000 else y)) ≡ capped_count (b + n * y)
grown_by b n y true is = grown_over b n y (grind (arith, nat_tests))
grown_by b n y false is = refl

capped_grows : (b n y : ℕ) → capped_count (b + n * capped_count y) ≡ capped_count (b + n * y)
capped_grows b n y = grown_by b n y (nat_lt 0x100000000 y) refl

-- ---- Nested arrays

arrays_more : (n : ℕ) (lengths : List ℕ) → arrays_made (n ∷ lengths) ≡ 1 + n * arrays_made lengths
arrays_more n [] = sym (ap (λ k. 1 + k) (mul-zero n))
arrays_more n (m ∷ lengths) = refl

elements_more : (n : ℕ) (lengths : List ℕ) → elements_made (n ∷ lengths) ≡ n + n * elements_made lengths
elements_more n [] = sym (ap (λ k. n + k) (mul-zero n) ∙ add-zero n)
elements_more n (m ∷ lengths) = refl

pub arrays_grow : (lengths parts : List Value) (first : Value) (x y n : ℕ) → lengths ≡ first ∷ parts → n ≡ length_of_value first → y ≡ capped_count (arrays_made (map length_of_value parts)) → x ≡ capped_count (1 + n * y)
    → x ≡ capped_count (arrays_made (map length_of_value lengths))
arrays_grow lengths parts first x y n are times part is =
    is ∙ ap (λ k. capped_count (1 + n * k)) part ∙ capped_grows 1 n (arrays_made (map length_of_value parts))
    ∙ ap (λ k. capped_count (1 + k * arrays_made (map length_of_value parts))) times
    ∙ ap capped_count (sym (arrays_more (length_of_value first) (map length_of_value parts)))
    ∙ ap (λ l. capped_count (arrays_made (map length_of_value l))) (sym are)

pub elements_grow : (lengths parts : List Value) (first : Value) (x y n : ℕ) → lengths ≡ first ∷ parts → n ≡ length_of_value first → y ≡ capped_count (elements_made (map length_of_value parts)) → x ≡ capped_count (n + n * y)
    → x ≡ capped_count (elements_made (map length_of_value lengths))
elements_grow lengths parts first x y n are times part is =
    is ∙ ap (λ k. capped_count (n + n * k)) part ∙ capped_grows n n (elements_made (map length_of_value parts))
    ∙ ap (λ k. capped_count (k + k * elements_made (map length_of_value parts))) times
    ∙ ap capped_count (sym (elements_more (length_of_value first) (map length_of_value parts)))
    ∙ ap (λ l. capped_count (elements_made (map length_of_value l))) (sym are)

-- ---- Room

fits_by : (held n limit : ℕ) → limit < 0x100000000 → nat_le (held + capped_count n) limit ≡ nat_le (held + n) limit
fits_by held n limit small = by (nat_lt 0x100000000 n) refl
  where
    by : (over : Bool) → nat_lt 0x100000000 n ≡ over → nat_le (held + (if over then 0x100000000 else n)) limit ≡ nat_le (held + n) limit
    by true is = grind (arith, nat_tests)
    by false is = refl

pub room_counted : (limits : Limits) (s : State) (objects elements x y : ℕ) → limits.objects < 0x100000000 → limits.elements < 0x100000000 → x ≡ capped_count objects → y ≡ capped_count elements
    → has_room_for_elements x y limits s ≡ has_room_for_elements objects elements limits s
room_counted limits s objects elements x y few small is are =
    ap (λ k. nat_le (length s.heap + k) limits.objects && nat_le (s.elements + y) limits.elements) is
    ∙ ap (λ b. b && nat_le (s.elements + y) limits.elements) (fits_by (length s.heap) objects limits.objects few)
    ∙ ap (λ k. nat_le (length s.heap + objects) limits.objects && nat_le (s.elements + k) limits.elements) are
    ∙ ap (λ b. nat_le (length s.heap + objects) limits.objects && b) (fits_by s.elements elements limits.elements small)

-- A list of lengths that isn't empty makes at least one array.
pub one_at_least : (lengths : List Value) (x : ℕ) → x ≡ capped_count (arrays_made (map length_of_value lengths)) → 0 < length lengths → 1 ≤ x
one_at_least [] x is some = omega (arith, some)
one_at_least (v ∷ lengths) x is some =
    let more = arrays_more (length_of_value v) (map length_of_value lengths) in
    by (length_of_value v * arrays_made (map length_of_value lengths)) (is ∙ ap capped_count more)
  where
    by : (k : ℕ) → x ≡ capped_count (1 + k) → 1 ≤ x
    by k e = grind (arith, nat_tests)

-- ---- The decision on the room

pub room_of_count : (limits : Limits) (s : State) (thread : Thread) (class : List ℕ) (dimensions : ℕ) (lengths : List ℕ) (b : Bool) → has_dimensions class dimensions ≡ true → b ≡ has_room_for_elements (arrays_made lengths) (elements_made lengths) limits s
    → new_arrays_room limits s thread class dimensions lengths ≡ (if not b then throws limits s thread thrown.OutOfMemoryError else creation_decision s dimensions (new_object.Arrays class dimensions))
room_of_count limits s thread class dimensions lengths b has is =
    ap (λ r. if not r then never_seen else (if not (has_room_for_elements (arrays_made lengths) (elements_made lengths) limits s) then throws limits s thread thrown.OutOfMemoryError else creation_decision s dimensions (new_object.Arrays class dimensions))) has
    ∙ ap (λ r. if not r then throws limits s thread thrown.OutOfMemoryError else creation_decision s dimensions (new_object.Arrays class dimensions)) (sym is)

-- A class has no arrays of no dimensions.
pub one_dimension : (class : List ℕ) (dimensions : ℕ) → has_dimensions class dimensions ≡ true → 0 < dimensions
one_dimension class zero is = absurd (false≢true is)
one_dimension class (suc more) is = omega arith
