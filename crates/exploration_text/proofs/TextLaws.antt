-- A level's line is appended to those before.
use Rattle.std.proofs.Common.{List, ap, length, refl, take, ℕ, ◌+◌, ◌<◌, ◌∙◌, ◌∷◌, ◌++◌, ◌≡◌, [], sym}
use Rattle.std.proofs.lemmas.List.{flat_map_more, take_more}
use Rattle.std.specs.List.{flat_map}
use Rattle.std.specs.Prelude.{get_or}

pub one_more : {X : Type 0} (f : X → List ℕ) (xs : List X) (i : ℕ) (d : X) (old new line : List ℕ) → i < length xs → old ≡ flat_map f (take i xs) → line ≡ f (get_or xs i d) → new ≡ old ++ line → new ≡ flat_map f (take (i + 1) xs)
one_more f xs i d old new line less before is appended =
    appended ∙ ap (λ l. l ++ line) before ∙ ap (λ l. flat_map f (take i xs) ++ l) is ∙ flat_map_more f [] (take i xs) (get_or xs i d) ∙ ap (flat_map f) (sym (take_more xs i d less))
