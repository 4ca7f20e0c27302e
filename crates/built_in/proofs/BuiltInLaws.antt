-- The built-in classes by their names.
use Rattle.std.proofs.Common.{◌≡◌, ℕ, Bool, true, false, ◌||◌, List, [], ◌∷◌, ◌++◌, drop, refl, sym, ◌∙◌}
use Rattle.std.specs.List.{list_any}
use Rattle.jvms_program.specs.declared.program.Class.{Class}
use Rattle.jvms_file.specs.Names.{same_text}
use Rattle.jvms_program.specs.BuiltIn.{throwable_classes, built_in_classes, is_built_in}
use Rattle.built_in.specs.Ordinary.{ordinary_classes}

any_append : {X : Type 0} (p : X → Bool) (xs ys : List X) → list_any p (xs ++ ys) ≡ (list_any p xs || list_any p ys)
any_append p [] ys = refl
any_append p (x ∷ xs) ys = or_step (p x) (list_any p xs) (list_any p ys) (list_any p (xs ++ ys)) (any_append p xs ys)
  where
    or_step : (a b c d : Bool) → d ≡ (b || c) → (a || d) ≡ ((a || b) || c)
    or_step true b c d h = refl
    or_step false b c d h = h

-- A built-in class is one of those below Throwable, or another.
pub built_in_when : (name : List ℕ) (a b : Bool) → a ≡ list_any (λ (c : Class). same_text c.name name) ordinary_classes
    → b ≡ list_any (λ (c : Class). same_text c.name name) (drop 1 throwable_classes) → (a || b) ≡ is_built_in name
unfolding is_built_in built_in_classes
built_in_when name a b first second =
    (λ i. first i || second i) ∙ sym (any_append (λ (c : Class). same_text c.name name) ordinary_classes (drop 1 throwable_classes))
