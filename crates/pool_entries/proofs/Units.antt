-- The units of a slice have 16 bits.
use Rattle.std.proofs.Common.{ℕ, zero, suc, List, [], ◌∷◌, get_or, Fits, w16, arith}
use Rattle.jvms_file.specs.Texts.{IsText}

pub are_units : (units : List ℕ) → ((i : ℕ) → Fits w16 (get_or units i 0)) → IsText units
are_units [] fit = tt
are_units (u ∷ units) fit = (omega (arith, fit zero), are_units units (λ i. fit (suc i)))
