-- Defines trails back from a transaction along links, and the cycles that they close (own).
use Rattle.std.specs.Prelude.{◌≡◌, ℕ, List, [], ◌∷◌}
use Rattle.velodrome.specs.Cycles.{IsIn}
use Rattle.velodrome.specs.declared.verdict.ConflictingPair.{ConflictingPair}
use Rattle.atom_order.specs.declared.link.Link.{Link}

-- Links lead back from b to a. Each leads into the transaction that the one before leads from.
abbrev pub IsTrail : List ℕ → (ℕ → List Link) → ℕ → ℕ → List Link → Type 0
IsTrail live into a b [] = b ≡ a
IsTrail live into a b (l ∷ links) = IsIn b live × IsIn l (into b) × IsTrail live into a l.from links

-- Returns the transactions along the trail, in reverse, before these.
abbrev pub transactions_along : List ℕ → List Link → List ℕ
transactions_along ts [] = ts
transactions_along ts (l ∷ links) = transactions_along (l.from ∷ ts) links

abbrev pub pairs_along : List ConflictingPair → List Link → List ConflictingPair
pairs_along ps [] = ps
pairs_along ps (l ∷ links) = pairs_along (l.pair ∷ ps) links
