-- Names of classes and members (JVMS 4.2), as lists of UTF-16 code units.
use Rattle.std.specs.Prelude.{ℕ, Bool, false, not, ◌&&◌, ◌||◌, ◌==◌, List, [], ◌∷◌, codes, nat_eq}
use Rattle.std.specs.List.{list_all, slice_split}
use Rattle.std.specs.Cmp.Lexicographic.{pointwise}

-- Decides whether two texts are equal.
abbrev pub same_text : List ℕ → List ℕ → Bool
same_text a b = pointwise nat_eq a b

-- Decides whether a unit is one that no name may have: one of . ; [ /
abbrev pub is_reserved : ℕ → Bool
is_reserved u = u == 46 || u == 59 || u == 91 || u == 47

-- Decides whether a text is a field's name, or one part of a class's (JVMS 4.2.2): not empty, with no reserved unit.
abbrev pub is_name : List ℕ → Bool
is_name [] = false
is_name (u ∷ us) = list_all (λ v. not (is_reserved v)) (u ∷ us)

-- Decides whether a text is a class's name (JVMS 4.2.1): names joined by slashes.
abbrev pub is_class_name : List ℕ → Bool
is_class_name us = list_all is_name (slice_split (λ u. u == 47) us)

abbrev pub is_angle : ℕ → Bool
is_angle u = u == 60 || u == 62

-- Decides whether a text is the name of a constructor (JVMS 2.9).
abbrev pub is_constructor_name : List ℕ → Bool
is_constructor_name us = same_text us (codes "<init>")

-- Decides whether a text is the name of the initializer of a class or an interface (JVMS 2.9).
abbrev pub is_initializer_name : List ℕ → Bool
is_initializer_name us = same_text us (codes "<clinit>")

-- Decides whether a text is a method's name (JVMS 4.2.2): without angle brackets, or <init> or <clinit>.
abbrev pub is_method_name : List ℕ → Bool
is_method_name us =
    is_constructor_name us || is_initializer_name us || (is_name us && list_all (λ u. not (is_angle u)) us)

-- Decides whether a text begins with a unit.
abbrev pub begins_with : ℕ → List ℕ → Bool
begins_with u [] = false
begins_with u (v ∷ vs) = v == u
