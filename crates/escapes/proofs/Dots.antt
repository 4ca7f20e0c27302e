-- The numbers of dots in texts.
use Rattle.std.proofs.Common.{◌≡◌, ℕ, ◌+◌, ◌==◌, Bool, false, cond, List, [], ◌∷◌, ◌++◌, refl, ap, ◌∙◌, arith}
use Rattle.std.proofs.lemmas.Bool.{or_parts}
use Rattle.std.proofs.lemmas.List.Sums.{sum_by-cons, sum_by-append}
use Rattle.escapes.specs.declared.sort.NameSort.{NameSort}
use Rattle.escapes.specs.declared.sort.NameSort.TheVariants as sort
use Rattle.escapes.specs.Cuts.{has, dots_in}
use Rattle.escapes.specs.Escapes.{name_text}
use Rattle.escapes.specs.Keys.{IsNameOf, IsMember, member_text}
use Rattle.escapes.proofs.Members.{no_dot, spelled_no_dot}

abbrev counted : ℕ → ℕ
counted x = cond (x == 46) 1 0

behind_one : (x : ℕ) (xs : List ℕ) → dots_in (x ∷ xs) ≡ counted x + dots_in xs
behind_one x xs = sum_by-cons counted x xs

-- A text without dots has none.
pub none_counted : (xs : List ℕ) → has 46 xs ≡ false → dots_in xs ≡ 0
none_counted [] none = refl
none_counted (x ∷ xs) none =
    let both = or_parts (x == 46) (has 46 xs) none in
    behind_one x xs ∙ ap (λ (b : Bool). cond b 1 0 + dots_in xs) both.0 ∙ ap (λ (n : ℕ). 0 + n) (none_counted xs both.1)

pub joined_count : (xs ys : List ℕ) (m n : ℕ) → dots_in xs ≡ m → dots_in ys ≡ n → dots_in (xs ++ ys) ≡ m + n
joined_count xs ys m n left right =
    let whole : dots_in (xs ++ ys) ≡ dots_in xs + dots_in ys = sum_by-append counted xs ys in
    omega arith

pub behind_dot : (xs : List ℕ) (n : ℕ) → dots_in xs ≡ n → dots_in (46 ∷ xs) ≡ 1 + n
behind_dot xs n e = behind_one 46 xs ∙ ap (λ (k : ℕ). 1 + k) e

-- A name as it is written has no dot.
pub name_dots : (s : NameSort) (us : List ℕ) → IsNameOf s us → dots_in (name_text us) ≡ 0
name_dots s us is = none_counted (name_text us) (spelled_no_dot us (no_dot s us is))

-- A member has two dots.
pub member_dots : (n d : NameSort) (class name descriptor : List ℕ) → IsMember n d class name descriptor → dots_in (member_text class name descriptor) ≡ 2
member_dots n d class name descriptor is =
    joined_count (name_text class ++ 46 ∷ name_text name) (46 ∷ name_text descriptor) 1 1
    (joined_count (name_text class) (46 ∷ name_text name) 0 1 (name_dots sort.Class class is.class) (behind_dot (name_text name) 0 (name_dots n name is.name)))
    (behind_dot (name_text descriptor) 0 (name_dots d descriptor is.descriptor))
