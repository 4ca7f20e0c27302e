-- The objects of nested arrays: their number, and that they are objects whose elements are references to others of
-- them.
use Rattle.std.proofs.Common.{◌≡◌, ℕ, zero, suc, ◌+◌, ◌*◌, ◌<◌, ◌≤◌, List, [], ◌∷◌, length, drop, flat_map, refl, ap, ◌∙◌, arith}
use Rattle.std.specs.List.{AllByRecursion, range_with_len}
use Rattle.std.proofs.lemmas.List.{length-append}
use Rattle.std.proofs.lemmas.List.FromFn.{length-map-range_with_len}
use Rattle.std.proofs.Math.Nat.{mul-le-mul_right}
use Rattle.jvms_machine.specs.declared.value.Value.TheVariants as value
use Rattle.jvms_program.specs.declared.program.Class.{Class}
use Rattle.jvms_machine.specs.State.{Object, IsValue, IsObject}
use Rattle.jvms_machine.specs.Heap.{component_type, first_element, arrays_made, part_references, new_arrays}
use Rattle.jvms_machine.proofs.ListLaws.{all_weaker, all_replicate, all_append, all_map_weaker}
use Rattle.jvms_machine.proofs.OpeningSoundness.{default_is_value}

-- ---- The number of arrays

-- There is at least one array.
pub some_made : (n : ℕ) (lengths : List ℕ) → 1 ≤ arrays_made (n ∷ lengths)
some_made n [] = omega arith
some_made n (m ∷ lengths) = omega arith

-- Parts of the same size.
parts_length : (part : ℕ → List Object) (size : ℕ) → ((r : ℕ) → length (part r) ≡ size) → (rs : List ℕ) → length (flat_map part rs) ≡ length rs * size
parts_length part size each [] = omega arith
parts_length part size each (r ∷ rs) =
    let here = each r in
    let rest = parts_length part size each rs in
    let both = length-append (part r) (flat_map part rs) in
    let more : suc (length rs) * size ≡ size + length rs * size = omega arith in
    omega arith

pub new_arrays_length : (r : ℕ) (class : List ℕ) (lengths : List ℕ) → length (new_arrays r class lengths) ≡ arrays_made lengths
new_arrays_length r class [] = refl
new_arrays_length r class (n ∷ []) = refl
new_arrays_length r class (n ∷ m ∷ lengths) =
    let size = arrays_made (m ∷ lengths) in
    let parts = part_references (r + 1) size n in
    let as_many : length parts ≡ n = length-map-range_with_len (λ i. (r + 1) + i * size) 0 n in
    let all = parts_length (λ part. new_arrays part (drop 1 class) (m ∷ lengths)) size (λ part. new_arrays_length part (drop 1 class) (m ∷ lengths)) parts in
    ap suc (all ∙ ap (λ k. k * size) as_many) ∙ omega arith

-- ---- The references of parts

-- Consecutive numbers are below the end.
counted_within : (a n : ℕ) → AllByRecursion (λ i. i < a + n) (range_with_len a n)
counted_within a zero = tt
counted_within a (suc n) =
    (omega arith, all_weaker (λ i. i < (a + 1) + n) (λ i. i < a + suc n) (λ i below. omega arith) (range_with_len (a + 1) n) (counted_within (a + 1) n))

-- A part begins at or after the first reference, and ends within the references of all parts.
abbrev LiesWithin : ℕ → ℕ → ℕ → ℕ → Type 0
LiesWithin first size count part = (first ≤ part) × (part + size ≤ first + count * size)

-- A part ends within them, because fewer parts are before it than there are.
part_ends : (first size count i : ℕ) → i < 0 + count → (first + i * size) + size ≤ first + count * size
part_ends first size count i below =
    let most : suc i * size ≤ count * size = mul-le-mul_right size (omega arith) in
    omega arith

parts_lie_within : (first size count : ℕ) → AllByRecursion (LiesWithin first size count) (part_references first size count)
parts_lie_within first size count =
    all_map_weaker (λ i. i < 0 + count) (LiesWithin first size count) (λ i. first + i * size) (λ i below. (omega arith, part_ends first size count i below)) (range_with_len 0 count) (counted_within 0 count)

-- ---- The objects of parts

-- A property of what each part gives, by a property of the part, is one of all.
all_parts : {X Y : Type 0} (P : X → Type 0) (Q : Y → Type 0) (f : X → List Y) → ((x : X) → P x → AllByRecursion Q (f x)) → (xs : List X) → AllByRecursion P xs → AllByRecursion Q (flat_map f xs)
all_parts P Q f each [] all = tt
all_parts P Q f each (x ∷ xs) all = all_append Q (f x) (flat_map f xs) (each x all.0) (all_parts P Q f each xs all.1)

-- A nested array and its parts are objects of a heap that has them from a reference on.
pub new_arrays_are : (program : List Class) (heap : List Object) (r : ℕ) (class : List ℕ) (lengths : List ℕ) → 0 < r → r + arrays_made lengths ≤ length heap + 1 → AllByRecursion (IsObject program heap) (new_arrays r class lengths)
new_arrays_are program heap r class [] from within = tt
new_arrays_are program heap r class (n ∷ []) from within =
    (all_replicate (IsValue heap) n (first_element class) (default_is_value heap (component_type class)), tt)
new_arrays_are program heap r class (n ∷ m ∷ lengths) from within =
    let size = arrays_made (m ∷ lengths) in
    let parts = part_references (r + 1) size n in
    let some : 1 ≤ size = some_made m lengths in
    let lie = parts_lie_within (r + 1) size n in (
      all_map_weaker (LiesWithin (r + 1) size n) (IsValue heap) value.Reference (λ part lies. (omega arith, omega arith)) parts lie,
      all_parts (LiesWithin (r + 1) size n) (IsObject program heap) (λ part. new_arrays part (drop 1 class) (m ∷ lengths))
          (λ part lies. new_arrays_are program heap part (drop 1 class) (m ∷ lengths) (omega arith) (omega arith)) parts lie,
    )
