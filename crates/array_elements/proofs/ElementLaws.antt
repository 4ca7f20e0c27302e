-- Values that are stored among the elements of an array.
use Rattle.std.proofs.Common.{◌≡◌, ℕ, zero, suc, ◌<◌, List, ◌∷◌, map, replicate, ℤ, pos, slice_set, refl, sym, ap, ◌∙◌, arith}
use Rattle.jvms_machine.specs.declared.value.Value.{Value}
use Rattle.jvms_machine.specs.declared.value.Value.TheVariants as value
use Rattle.array_elements.specs.declared.kind.Kind.TheVariants as kind
use Rattle.array_elements.specs.Kinds.{IsOfKind}
use Rattle.array_elements.specs.Elements.{reference_value}
use Rattle.array_elements.proofs.Lists.{set_map}

pub int_put : (old new : List ℤ) (i : ℕ) (n : ℤ) → new ≡ slice_set old i n → map value.Int new ≡ slice_set (map value.Int old) i (value.Int n)
int_put old new i n is = ap (map value.Int) is ∙ sym (set_map value.Int old i n)

pub long_put : (old new : List ℤ) (i : ℕ) (n : ℤ) → new ≡ slice_set old i n → map value.Long new ≡ slice_set (map value.Long old) i (value.Long n)
long_put old new i n is = ap (map value.Long) is ∙ sym (set_map value.Long old i n)

-- An int that narrowing doesn't change.
pub narrowed_put : (old new : List ℤ) (i : ℕ) (n m : ℤ) → new ≡ slice_set old i m → m ≡ n → map value.Int new ≡ slice_set (map value.Int old) i (value.Int n)
narrowed_put old new i n m is same = ap (map value.Int) is ∙ sym (set_map value.Int old i m) ∙ ap (λ k. slice_set (map value.Int old) i (value.Int k)) same

pub natural_put : (old new : List ℕ) (i : ℕ) (n : ℤ) (m : ℕ) → new ≡ slice_set old i m → pos m ≡ n → map (λ k. value.Int (pos k)) new ≡ slice_set (map (λ k. value.Int (pos k)) old) i (value.Int n)
natural_put old new i n m is same =
    ap (map (λ k. value.Int (pos k))) is ∙ sym (set_map (λ k. value.Int (pos k)) old i m) ∙ ap (λ k. slice_set (map (λ j. value.Int (pos j)) old) i (value.Int k)) same

pub null_put : (old new : List ℕ) (i : ℕ) → new ≡ slice_set old i 0 → map reference_value new ≡ slice_set (map reference_value old) i value.Null
null_put old new i is = ap (map reference_value) is ∙ sym (set_map reference_value old i 0)

there : (r : ℕ) → 0 < r → reference_value r ≡ value.Reference r
there zero over = absurd (omega (arith, over))
there (suc r) over = refl

pub reference_put : (old new : List ℕ) (i r : ℕ) → new ≡ slice_set old i r → 0 < r → map reference_value new ≡ slice_set (map reference_value old) i (value.Reference r)
reference_put old new i r is over =
    ap (map reference_value) is ∙ sym (set_map reference_value old i r) ∙ ap (slice_set (map reference_value old) i) (there r over)

same_again : (n i : ℕ) → replicate n value.Unset ≡ slice_set (replicate n value.Unset) i value.Unset
same_again zero i = refl
same_again (suc n) zero = refl
same_again (suc n) (suc i) = ap (λ l. value.Unset ∷ l) (same_again n i)

-- Nothing is stored where there are no values.
pub unset_put : (n i : ℕ) (v : Value) → IsOfKind kind.Nothing v → replicate n value.Unset ≡ slice_set (replicate n value.Unset) i v
unset_put n i value.Unset is = same_again n i
unset_put n i (value.Int k) is = absurd is
unset_put n i (value.Long k) is = absurd is
unset_put n i value.Second is = absurd is
unset_put n i value.Null is = absurd is
unset_put n i (value.Reference r) is = absurd is
unset_put n i (value.ReturnAddress r) is = absurd is
