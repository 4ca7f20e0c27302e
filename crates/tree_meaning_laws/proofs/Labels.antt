-- Proves that no two places have the same label, and that the label of a place that something refers to marks it.
use Rattle.std.proofs.Common.{◌≡◌, ℕ, zero, suc, ◌+◌, ◌^◌, ◌<◌, ◌≤◌, Bool, true, false, cond, List, [], ◌∷◌, ◌++◌, length, Option, Some, refl, sym, ap, subst, ◌∙◌, arith}
use Rattle.std.specs.Option.{option_map, unwrap_or}
use Rattle.std.specs.Fmt.{decimal}
use Rattle.std.specs.Cmp.Lexicographic.{same_text as texts_are_same}
use Rattle.std.proofs.lemmas.Cmp.{nat_list_eq_equiv}
use Rattle.std.proofs.lemmas.Fmt.{decimal_injective}
use Rattle.jvms_file.specs.declared.class_file.Code.{Code}
use Rattle.jvms_file.specs.Names.{same_text}
use Rattle.jasmin.specs.declared.source.Operation.{Operation}
use Rattle.jasmin.specs.declared.source.CodeItem.{CodeItem}
use Rattle.jasmin.specs.declared.source.CodeItem.TheVariants as item
use Rattle.jasmin.specs.Denote.{label_place, target, operations}
use Rattle.listing_spec.specs.TreeOf.{label_of, is_referred, label_items}

-- ---- Two labels

same_here : (a : List ℕ) → same_text a a ≡ true
same_here a = nat_list_eq_equiv.refl a

one_place : (p q : ℕ) → p < 2 ^ 64 → q < 2 ^ 64 → same_text (label_of p) (label_of q) ≡ true → p ≡ q
unfolding label_of
one_place p q small few same =
    let texts : 76 ∷ decimal p ≡ 76 ∷ decimal q = texts_are_same (76 ∷ decimal p) (76 ∷ decimal q) (sym same) in
    let digits : decimal p ≡ decimal q = cc in
    decimal_injective p q small few digits

-- The labels of different places differ.
other_label : (p q : ℕ) → p < 2 ^ 64 → q < 2 ^ 64 → p < q → same_text (label_of p) (label_of q) ≡ false
other_label p q small few below = by_test (same_text (label_of p) (label_of q)) refl
  where
    by_test : (b : Bool) → same_text (label_of p) (label_of q) ≡ b → b ≡ false
    by_test false is = refl
    by_test true is = let same : p ≡ q = one_place p q small few is in absurd (omega arith)

-- ---- Items

-- Returns the items of operations from a place on.
abbrev pub items_from : Code → ℕ → List Operation → List CodeItem
items_from c place [] = label_items c place
items_from c place (o ∷ os) = label_items c place ++ item.Operation o ∷ items_from c (suc place) os

-- Returns the label of a place, or none.
abbrev label_if : Bool → ℕ → List CodeItem
label_if referred place = cond referred (item.Label (label_of place) ∷ []) []

operations_behind : (b : Bool) (place : ℕ) (rest : List CodeItem) → operations (label_if b place ++ rest) ≡ operations rest
operations_behind true place rest = refl
operations_behind false place rest = refl

no_operations : (b : Bool) (place : ℕ) → operations (label_if b place) ≡ []
no_operations true place = refl
no_operations false place = refl

pub operations_are : (c : Code) (place : ℕ) (os : List Operation) → operations (items_from c place os) ≡ os
operations_are c place [] = no_operations (is_referred c place) place
operations_are c place (o ∷ os) =
    operations_behind (is_referred c place) place (item.Operation o ∷ items_from c (suc place) os) ∙ ap (λ others. o ∷ others) (operations_are c (suc place) os)

-- ---- The place of a label

label_here : (place : ℕ) (rest : List CodeItem) → label_place (label_if true place ++ rest) (label_of place) ≡ Some 0
label_here place rest = ap (λ b. cond b (Some 0) (label_place rest (label_of place))) (same_here (label_of place))

label_after : (b : Bool) (place p : ℕ) (rest : List CodeItem) → same_text (label_of place) (label_of p) ≡ false → label_place (label_if b place ++ rest) (label_of p) ≡ label_place rest (label_of p)
label_after true place p rest other = ap (λ b. cond b (Some 0) (label_place rest (label_of p))) other
label_after false place p rest other = refl

leads_here : (c : Code) (place : ℕ) (os : List Operation) → is_referred c place ≡ true → label_place (items_from c place os) (label_of place) ≡ Some 0
leads_here c place [] is = ap (λ b. label_place (label_if b place) (label_of place)) is ∙ label_here place []
leads_here c place (o ∷ os) is =
    ap (λ b. label_place (label_if b place ++ item.Operation o ∷ items_from c (suc place) os) (label_of place)) is
    ∙ label_here place (item.Operation o ∷ items_from c (suc place) os)

-- The number of operations before a label is that of the operations before its place.
leads_over : (c : Code) (place k p : ℕ) (os : List Operation) → p ≡ place + k → k ≤ length os → p < 2 ^ 64 → is_referred c p ≡ true → label_place (items_from c place os) (label_of p) ≡ Some k
leads_over c place zero p os at within small is =
    let same : p ≡ place = omega arith in
    subst (λ (q : ℕ). label_place (items_from c q os) (label_of p) ≡ Some 0) same (leads_here c p os is)
leads_over c place (suc k) p [] at within small is = absurd (omega arith)
leads_over c place (suc k) p (o ∷ os) at within small is =
    let next : p ≡ suc place + k = omega arith in
    label_after (is_referred c place) place p (item.Operation o ∷ items_from c (suc place) os) (other_label place p (omega arith) small (omega arith))
    ∙ ap (option_map suc) (leads_over c (suc place) k p os next (omega arith) small is)

-- The label of a place marks this place.
abbrev pub IsLed : List CodeItem → ℕ → Type 0
IsLed items place = target items (label_of place) ≡ place

pub place_is_led : (c : Code) (os : List Operation) (p : ℕ) → length os < 65536 → p ≤ length os → is_referred c p ≡ true → IsLed (items_from c 0 os) p
place_is_led c os p few within is =
    ap (λ (o : Option ℕ). unwrap_or o 0) (leads_over c 0 p p os (omega arith) within (omega arith) is)
