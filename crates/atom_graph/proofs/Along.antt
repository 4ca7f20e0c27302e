-- What is along a trail, as lists of its links in reverse.
use Rattle.std.proofs.Common.{◌≡◌, ℕ, List, [], ◌∷◌, ◌++◌, map, reverse, refl, ap, ◌∙◌, append_assoc}
use Rattle.std.proofs.lemmas.List.{map-append, reverse-append}
use Rattle.velodrome.specs.declared.verdict.ConflictingPair.{ConflictingPair}
use Rattle.atom_order.specs.declared.link.Link.{Link}
use Rattle.atom_order.specs.Trails.{pairs_along, transactions_along}

-- The image of the first link follows those of the others.
last_image : {X : Type 0} (image : Link → X) (l : Link) (links : List Link) (xs : List X) → map image (reverse (l ∷ links)) ++ xs ≡ map image (reverse links) ++ image l ∷ xs
last_image image l links xs =
    ap (λ (ls : List Link). map image ls ++ xs) (reverse-append (l ∷ []) links)
    ∙ ap (λ ys. ys ++ xs) (map-append image (reverse links) (l ∷ []))
    ∙ append_assoc (map image (reverse links)) (image l ∷ []) xs

pub along_transactions : (links : List Link) (ts : List ℕ) → map (λ (l : Link). l.from) (reverse links) ++ ts ≡ transactions_along ts links
along_transactions [] ts = refl
along_transactions (l ∷ links) ts = last_image (λ (k : Link). k.from) l links ts ∙ along_transactions links (l.from ∷ ts)

pub along_pairs : (links : List Link) (ps : List ConflictingPair) → map (λ (l : Link). l.pair) (reverse links) ++ ps ≡ pairs_along ps links
along_pairs [] ps = refl
along_pairs (l ∷ links) ps = last_image (λ (k : Link). k.pair) l links ps ∙ along_pairs links (l.pair ∷ ps)
