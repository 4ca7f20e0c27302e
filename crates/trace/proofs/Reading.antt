-- Consecutive reads.
use Rattle.std.proofs.Common.{ℕ, List, Option, Some, None, sym, ◌∙◌, refl}
use Rattle.std.specs.Io.KnownBytes.{Consumes, Keeps}

-- Nothing has been read yet.
pub kept_all : (left : Option (List ℕ)) → Keeps left left
kept_all None = tt
kept_all (Some xs) = refl

-- Nothing was read, twice in a row.
pub kept_twice : (old mid new : Option (List ℕ)) → Keeps old mid → Keeps mid new → Keeps old new
kept_twice None mid new first second = tt
kept_twice (Some xs) None new first second = absurd first
kept_twice (Some xs) (Some ys) None first second = absurd second
kept_twice (Some xs) (Some ys) (Some zs) first second = second ∙ first

-- Nothing was read, and then these bytes.
pub consumed_later : (old mid new : Option (List ℕ)) (bytes : List ℕ) → Keeps old mid → Consumes mid new bytes → Consumes old new bytes
consumed_later None mid new bytes first second = tt
consumed_later (Some xs) None new bytes first second = absurd first
consumed_later (Some xs) (Some ys) None bytes first second = absurd second
consumed_later (Some xs) (Some ys) (Some zs) bytes first second = sym first ∙ second
