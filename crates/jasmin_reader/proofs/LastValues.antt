-- Proves which value is the last of a switch's lines.
use Rattle.std.proofs.Common.{◌≡◌, ◌-◌, suc, List, [], ◌∷◌, length, refl, arith, ◌∙◌, ap}
use Rattle.std.specs.Prelude.{slice_get}
use Rattle.std.specs.Option.{option_map}
use Rattle.jasmin.specs.declared.source.MatchLine.{MatchLine}
use Rattle.jasmin.specs.Reading.{last_value}

last_behind : (m n : MatchLine) (ms : List MatchLine) → slice_get (m ∷ n ∷ ms) (length (m ∷ n ∷ ms) - 1) ≡ slice_get (n ∷ ms) (length (n ∷ ms) - 1)
last_behind m n ms =
    let place : length (m ∷ n ∷ ms) - 1 ≡ suc (length (n ∷ ms) - 1) = omega arith in
    rw place refl

pub last_value_of : (ms : List MatchLine) → last_value ms ≡ option_map (λ m. m.value) (slice_get ms (length ms - 1))
last_value_of [] = refl
last_value_of (m ∷ []) = refl
last_value_of (m ∷ n ∷ ms) = last_value_of (n ∷ ms) ∙ ap (option_map (λ (k : MatchLine). k.value)) (rw (last_behind m n ms) refl)
