-- The names of built-in classes begin with the same unit.
use Rattle.std.proofs.Common.{◌≡◌, ℕ, true, false, ◌&&◌, ◌||◌, ◌==◌, List, [], ◌∷◌, refl, sym, ap, ◌∙◌, arith}
use Rattle.std.proofs.lemmas.Bool.{and_parts, true≢false}
use Rattle.std.proofs.lemmas.Bool.Decides.{nat_tests}
use Rattle.std.specs.List.{list_all, list_any}
use Rattle.jvms_file.specs.Names.{begins_with, same_text}
use Rattle.jvms_program.specs.BuiltIn.{built_in_classes, is_built_in}
use Rattle.jvms_program.specs.declared.program.Class.{Class}

all_begin : list_all (λ (c : Class). begins_with 106 c.name) built_in_classes ≡ true
unfolding built_in_classes
all_begin = refl

heads_differ : (u v w : ℕ) → (v == u) ≡ true → (w == u) ≡ false → (v == w) ≡ false
heads_differ u v w one other = grind (arith, nat_tests)

differ : (u : ℕ) (a b : List ℕ) → begins_with u a ≡ true → begins_with u b ≡ false → same_text a b ≡ false
differ u [] b is other = absurd (true≢false (sym is))
differ u (v ∷ vs) [] is other = refl
differ u (v ∷ vs) (w ∷ ws) is other = ap (λ b. b && same_text vs ws) (heads_differ u v w is other)

none_named : (u : ℕ) (classes : List Class) (name : List ℕ) → list_all (λ (c : Class). begins_with u c.name) classes ≡ true → begins_with u name ≡ false
    → list_any (λ (c : Class). same_text c.name name) classes ≡ false
none_named u [] name all other = refl
none_named u (c ∷ classes) name all other =
    let parts = and_parts (begins_with u c.name) (list_all (λ (d : Class). begins_with u d.name) classes) all in
    ap (λ b. b || list_any (λ (d : Class). same_text d.name name) classes) (differ u c.name name parts.0 other) ∙ none_named u classes name parts.1 other

pub not_built_in : (name : List ℕ) → begins_with 106 name ≡ false → false ≡ is_built_in name
unfolding is_built_in
not_built_in name other = sym (none_named 106 built_in_classes name all_begin other)
