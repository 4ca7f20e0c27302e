-- The chain of a class: the class and its superclasses.
use Rattle.std.proofs.Common.{◌≡◌, ℕ, zero, suc, ◌+◌, List, [], ◌∷◌, ◌++◌, map, Option, Some, None, Bor, refl, sym, ap, arith}
use Rattle.std.proofs.lemmas.List.{append_assoc, map-append}
use Rattle.std.specs.Option.{option_and_then, option_copied}
use Rattle.jvms_program.specs.declared.program.Class.{Class}
use Rattle.jvms_program.specs.Program.{class_named}
use Rattle.jvms_program.specs.Resolution.{chain_within}

-- The superclass of a class.
abbrev pub superclass_of : List Class → Class → Option Class
superclass_of program c = option_and_then (class_named program) c.superclass

-- Returns a class and its superclasses, at most n classes.
abbrev pub chain_from : List Class → ℕ → Option Class → List Class
chain_from program zero o = []
chain_from program (suc most) None = []
chain_from program (suc most) (Some c) = c ∷ chain_from program most (superclass_of program c)

pub of_none : (program : List Class) (most : ℕ) (o : Option Class) →
    o ≡ None → chain_from program most o ≡ []
of_none program zero o e = refl
of_none program (suc most) o e = rw e refl

pub of_some : (program : List Class) (most less : ℕ) (o : Option Class) (c : Class) →
    most ≡ less + 1 → o ≡ Some c →
    chain_from program most o ≡ c ∷ chain_from program less (superclass_of program c)
of_some program zero less o c m e = absurd (omega arith)
of_some program (suc most) less o c m e = let same : most ≡ less = omega arith in rw (e, same) refl

-- Properties of chains of up to n classes.
abbrev IsSo : List Class → ℕ → Type 0
IsSo program most = (name : List ℕ) → chain_within most program name ≡ chain_from program most (class_named program name)

above : (program : List Class) (most : ℕ) (name : List ℕ) (c : Class) (super : Option (List ℕ)) →
    IsSo program most → Some c ≡ class_named program name → super ≡ c.superclass →
    chain_within (suc most) program name ≡ c ∷ chain_from program most (option_and_then (class_named program) super)
unfolding chain_within
above program most name c None so h s = rw (← h) (rw (← s) (rw (of_none program most None refl) refl))
above program most name c (Some super) so h s = rw (← h) (rw (← s) (rw (so super) refl))

found : (program : List Class) (most : ℕ) (name : List ℕ) (o : Option Class) →
    IsSo program most → o ≡ class_named program name →
    chain_within (suc most) program name ≡ chain_from program (suc most) o
unfolding chain_within
found program most name None so h = rw (← h) refl
found program most name (Some c) so h = above program most name c c.superclass so h refl

-- The chain of a named class begins with that class.
pub of_class : (program : List Class) (most : ℕ) (name : List ℕ) →
    chain_within most program name ≡ chain_from program most (class_named program name)
unfolding chain_within
of_class program zero name = refl
of_class program (suc most) name = found program most name (class_named program name) (of_class program most) refl

pub ruleset ways = (of_none, of_some, of_class)

-- One more class of a chain, if there is another.
pub one_more : (program : List Class) (most less : ℕ) (classes more : List (Bor Class)) (next above : Option (Bor Class))
    (c : Bor Class) (all : List Class) →
    most ≡ less + 1 → more ≡ classes ++ c ∷ [] → next ≡ Some c → option_copied above ≡ superclass_of program c.now →
    map (λ x. x.now) classes ++ chain_from program most (option_copied next) ≡ all →
    map (λ x. x.now) more ++ chain_from program less (option_copied above) ≡ all
one_more program most less classes more next above c all m more_is next_is above_is so_far =
    rw (more_is, above_is, map-append)
    (rw append_assoc (rw (sym (of_some program most less (option_copied next) c.now m (ap option_copied next_is))) so_far))
