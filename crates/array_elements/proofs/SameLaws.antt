-- Elements that a comparison finds equal.
use Rattle.std.proofs.Common.{◌≡◌, ℕ, List, map, true, ℤ, pos, refl, ap}
use Rattle.std.specs.Prelude.{nat_eq}
use Rattle.std.specs.Ordering.{int_eq}
use Rattle.std.specs.Cmp.Lexicographic.{pointwise}
use Rattle.std.proofs.lemmas.Bool.Decides.{Decides-eqb, Decides-int_eq}
use Rattle.std.proofs.lemmas.Slice.Eq.{slice_eq-Decides}
use Rattle.jvms_machine.specs.declared.value.Value.TheVariants as value
use Rattle.array_elements.specs.Elements.{reference_value}

ints : (xs ys : List ℤ) → pointwise int_eq xs ys ≡ true → xs ≡ ys
ints xs ys same = (slice_eq-Decides Decides-int_eq xs ys (pointwise int_eq xs ys) refl).0 same

naturals : (xs ys : List ℕ) → pointwise nat_eq xs ys ≡ true → xs ≡ ys
naturals xs ys same = (slice_eq-Decides Decides-eqb xs ys (pointwise nat_eq xs ys) refl).0 same

pub same_ints : (xs ys : List ℤ) → pointwise int_eq xs ys ≡ true → map value.Int xs ≡ map value.Int ys
same_ints xs ys same = ap (map value.Int) (ints xs ys same)

pub same_longs : (xs ys : List ℤ) → pointwise int_eq xs ys ≡ true → map value.Long xs ≡ map value.Long ys
same_longs xs ys same = ap (map value.Long) (ints xs ys same)

pub same_naturals : (xs ys : List ℕ) → pointwise nat_eq xs ys ≡ true → map (λ n. value.Int (pos n)) xs ≡ map (λ n. value.Int (pos n)) ys
same_naturals xs ys same = ap (map (λ n. value.Int (pos n))) (naturals xs ys same)

pub same_references : (xs ys : List ℕ) → pointwise nat_eq xs ys ≡ true → map reference_value xs ≡ map reference_value ys
same_references xs ys same = ap (map reference_value) (naturals xs ys same)
