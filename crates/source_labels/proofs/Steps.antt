-- Proves how labels change with one more item of code.
use Rattle.std.proofs.Common.{◌≡◌, ℕ, suc, ◌+◌, ◌<◌, Bool, true, false, cond, ◌||◌, List, [], ◌∷◌, ◌++◌, length, get_or, take, drop, Option, None, Some, is_some, Bor, refl, sym, ap, ◌∙◌}
use Rattle.std.proofs.lemmas.List.{length-append, take_more, take-append-drop}
use Rattle.std.specs.BTreeMap as tree
use Rattle.std.specs.BTreeMap.{BTreeMap}
use Rattle.std.specs.Cmp.Lexicographic.{nat_list_eq_equiv, texts_ties}
use Rattle.std.specs.Cmp.Lexicographic as texts
use Rattle.std.specs.Option.{option_map}
use Rattle.std.specs.Ordering.{is_eq}
use Rattle.jvms_file.specs.Names.{same_text}
use Rattle.jasmin.specs.declared.source.CodeItem.{CodeItem}
use Rattle.jasmin.specs.declared.source.CodeItem.TheVariants as item
use Rattle.jasmin.specs.declared.source.Operation.{Operation}
use Rattle.jasmin.specs.Denote.{label_place, operations}
use Rattle.jasmin.specs.Assembling.{defines, repeats_label}
use Rattle.source_labels.specs.Places.{name_cmp, ArePlacesOf}

-- The items up to a place are those before it, followed by its own.
pub at_place : (code : List CodeItem) (i : ℕ) (here x : CodeItem) → i < length code → here ≡ get_or code i here → here ≡ x → take (i + 1) code ≡ take i code ++ x ∷ []
at_place code i here x within there is = take_more code i here within ∙ ap (λ (y : CodeItem). take i code ++ y ∷ []) (sym there ∙ is)

-- ---- One more operation

operations-append : (xs ys : List CodeItem) → operations (xs ++ ys) ≡ operations xs ++ operations ys
operations-append [] ys = refl
operations-append (item.Label name ∷ xs) ys = operations-append xs ys
operations-append (item.Operation o ∷ xs) ys = ap (λ (os : List Operation). o ∷ os) (operations-append xs ys)

placed_before_operation : (items : List CodeItem) (o : Operation) (label : List ℕ) → label_place (items ++ item.Operation o ∷ []) label ≡ label_place items label
placed_before_operation [] o label = refl
placed_before_operation (item.Label name ∷ items) o label = ap (λ (p : Option ℕ). cond (same_text name label) (Some 0) p) (placed_before_operation items o label)
placed_before_operation (item.Operation other ∷ items) o label = ap (λ (p : Option ℕ). option_map suc p) (placed_before_operation items o label)

repeated_before_operation : (items : List CodeItem) (o : Operation) → repeats_label (items ++ item.Operation o ∷ []) ≡ repeats_label items
repeated_before_operation [] o = refl
repeated_before_operation (item.Label name ∷ items) o = λ i. is_some (placed_before_operation items o name i) || repeated_before_operation items o i
repeated_before_operation (item.Operation other ∷ items) o = repeated_before_operation items o

pub once_with_operation : (items : List CodeItem) (o : Operation) → repeats_label items ≡ false → repeats_label (items ++ item.Operation o ∷ []) ≡ false
once_with_operation items o once = repeated_before_operation items o ∙ once

pub with_operation : (items : List CodeItem) (o : Operation) (places : BTreeMap (Bor (List ℕ)) ℕ) (count : ℕ) → ArePlacesOf items places count → ArePlacesOf (items ++ item.Operation o ∷ []) places (count + 1)
with_operation items o places count kept = record {
  placed = λ label. kept.placed label ∙ sym (placed_before_operation items o label.now);
  counted =
      let one : count + 1 ≡ length (operations items) + 1 = ap (λ (n : ℕ). n + 1) kept.counted in
      one ∙ sym (length-append (operations items) (o ∷ [])) ∙ ap length (sym (operations-append items (item.Operation o ∷ [])));
}

-- ---- One more label

pub no_value : (place : Option ℕ) → false ≡ is_some place → None ≡ place
no_value None e = refl
no_value (Some place) e = cc

-- Returns the first place if it is present, or else the second.
abbrev or_else : Option ℕ → Option ℕ → Option ℕ
or_else None other = other
or_else (Some place) other = Some place

cond-or_else : (b : Bool) (place other : Option ℕ) → cond b (Some 0) (or_else place other) ≡ or_else (cond b (Some 0) place) other
cond-or_else true place other = refl
cond-or_else false place other = refl

suc-or_else : (place : Option ℕ) (b : Bool) (count : ℕ) → option_map suc (or_else place (cond b (Some count) None)) ≡ or_else (option_map suc place) (cond b (Some (suc count)) None)
suc-or_else None true count = refl
suc-or_else None false count = refl
suc-or_else (Some place) b count = refl

placed_with_label : (items : List CodeItem) (name label : List ℕ) → label_place (items ++ item.Label name ∷ []) label ≡ or_else (label_place items label) (cond (same_text name label) (Some (length (operations items))) None)
placed_with_label [] name label = refl
placed_with_label (item.Label other ∷ items) name label =
    ap (λ (p : Option ℕ). cond (same_text other label) (Some 0) p) (placed_with_label items name label)
    ∙ cond-or_else (same_text other label) (label_place items label) (cond (same_text name label) (Some (length (operations items))) None)
placed_with_label (item.Operation o ∷ items) name label =
    ap (λ (p : Option ℕ). option_map suc p) (placed_with_label items name label)
    ∙ suc-or_else (label_place items label) (same_text name label) (length (operations items))

put_or_else : (b : Bool) (place : Option ℕ) (count total : ℕ) → count ≡ total → (b ≡ true → place ≡ None) → cond b (Some count) place ≡ or_else place (cond b (Some total) None)
put_or_else true place count total same none = ap (λ (n : ℕ). Some n) same ∙ ap (λ (p : Option ℕ). or_else p (Some total)) (sym (none refl))
put_or_else false None count total same none = refl
put_or_else false (Some place) count total same none = refl

pub with_label : (items : List CodeItem) (name : Bor (List ℕ)) (old new : BTreeMap (Bor (List ℕ)) ℕ) (count : ℕ) → None ≡ tree.get name_cmp old name
    → ((q : Bor (List ℕ)) → tree.get name_cmp new q ≡ cond (is_eq (name_cmp name q)) (Some count) (tree.get name_cmp old q))
    → ArePlacesOf items old count → ArePlacesOf (items ++ item.Label name.now ∷ []) new count
with_label items name old new count none put kept =
    let absent : label_place items name.now ≡ None = sym (none ∙ kept.placed name) in
    record {
      placed = λ label.
          put label
          ∙ (λ i. cond (sym (texts_ties name.now label.now) i) (Some count) (kept.placed label i))
          ∙ put_or_else (same_text name.now label.now) (label_place items label.now) count (length (operations items)) kept.counted
          (λ same. ap (label_place items) (sym (texts.same_text name.now label.now (sym same))) ∙ absent)
          ∙ sym (placed_with_label items name.now label.now);
      counted = kept.counted ∙ ap length (sym (operations-append items (item.Label name.now ∷ []) ∙ nothing (operations items)));
    }
  where
    nothing : (os : List Operation) → os ++ [] ≡ os
    nothing [] = refl
    nothing (o ∷ os) = ap (λ (rest : List Operation). o ∷ rest) (nothing os)

is_some-or_else : (place : Option ℕ) (b : Bool) (count : ℕ) → is_some (or_else place (cond b (Some count) None)) ≡ (is_some place || b)
is_some-or_else None true count = refl
is_some-or_else None false count = refl
is_some-or_else (Some place) b count = refl

is_some-cond : (b : Bool) (place : Option ℕ) → is_some (cond b (Some 0) place) ≡ (b || is_some place)
is_some-cond true place = refl
is_some-cond false place = refl

is_some-suc : (place : Option ℕ) → is_some (option_map suc place) ≡ is_some place
is_some-suc None = refl
is_some-suc (Some place) = refl

regrouped : (a b c d : Bool) → ((a || b) || (c || d)) ≡ ((a || c) || (b || d))
regrouped true b c d = refl
regrouped false true true d = refl
regrouped false true false d = refl
regrouped false false c d = refl

-- With a label appended, a label is repeated if one was before or the new one was defined.
repeated_with_label : (items : List CodeItem) (name : List ℕ) → repeats_label (items ++ item.Label name ∷ []) ≡ (repeats_label items || defines name items)
repeated_with_label [] name = refl
repeated_with_label (item.Label other ∷ items) name =
    let defined : defines other (items ++ item.Label name ∷ []) ≡ (defines other items || same_text other name) =
    ap is_some (placed_with_label items name other) ∙ is_some-or_else (label_place items other) (same_text name other) (length (operations items))
    ∙ ap (λ b. defines other items || b) (nat_list_eq_equiv.symm name other) in
    (λ i. defined i || repeated_with_label items name i)
    ∙ regrouped (defines other items) (same_text other name) (repeats_label items) (defines name items)
    ∙ ap (λ b. (defines other items || repeats_label items) || b) (sym (is_some-cond (same_text other name) (label_place items name)))
repeated_with_label (item.Operation o ∷ items) name =
    repeated_with_label items name ∙ ap (λ b. repeats_label items || b) (sym (is_some-suc (label_place items name)))

-- An undefined label may be appended without repetition.
pub once_more : (items : List CodeItem) (name : List ℕ) → label_place items name ≡ None → repeats_label items ≡ false → repeats_label (items ++ item.Label name ∷ []) ≡ false
once_more items name none once = repeated_with_label items name ∙ λ i. once i || is_some (none i)

or-true : (b : Bool) → (b || true) ≡ true
or-true true = refl
or-true false = refl

-- A defined label is repeated if it is appended.
twice : (items : List CodeItem) (name : List ℕ) → defines name items ≡ true → repeats_label (items ++ item.Label name ∷ []) ≡ true
twice items name defined = repeated_with_label items name ∙ ap (λ b. repeats_label items || b) defined ∙ or-true (repeats_label items)

-- ---- Items appended

or-true_cases : (a b c d : Bool) → (a ≡ true → c ≡ true) → (b ≡ true → d ≡ true) → (a || b) ≡ true → (c || d) ≡ true
or-true_cases true b c d f g e = ap (λ x. x || d) (f refl)
or-true_cases false b c d f g e = ap (λ x. c || x) (g e) ∙ or-true c

stays_defined : (xs ys : List CodeItem) (label : List ℕ) → defines label xs ≡ true → defines label (xs ++ ys) ≡ true
stays_defined [] ys label e = cc
stays_defined (item.Label name ∷ xs) ys label e =
    is_some-cond (same_text name label) (label_place (xs ++ ys) label)
    ∙ or-true_cases (same_text name label) (defines label xs) (same_text name label) (defines label (xs ++ ys)) (λ same. same) (stays_defined xs ys label) (sym (is_some-cond (same_text name label) (label_place xs label)) ∙ e)
stays_defined (item.Operation o ∷ xs) ys label e =
    is_some-suc (label_place (xs ++ ys) label) ∙ stays_defined xs ys label (sym (is_some-suc (label_place xs label)) ∙ e)

-- A label that is repeated in the first part of code is repeated in the code.
stays_repeated : (xs ys : List CodeItem) → repeats_label xs ≡ true → repeats_label (xs ++ ys) ≡ true
stays_repeated [] ys e = cc
stays_repeated (item.Label name ∷ xs) ys e =
    or-true_cases (defines name xs) (repeats_label xs) (defines name (xs ++ ys)) (repeats_label (xs ++ ys)) (stays_defined xs ys name) (stays_repeated xs ys) e
stays_repeated (item.Operation o ∷ xs) ys e = stays_repeated xs ys e

-- A label that is defined before a place and at the place is repeated.
pub repeated_at : (code : List CodeItem) (i : ℕ) (name : List ℕ) → take (i + 1) code ≡ take i code ++ item.Label name ∷ [] → defines name (take i code) ≡ true → repeats_label code ≡ true
repeated_at code i name here defined =
    ap repeats_label (sym (take-append-drop (i + 1) code)) ∙ stays_repeated (take (i + 1) code) (drop (i + 1) code) (ap repeats_label here ∙ twice (take i code) name defined)
