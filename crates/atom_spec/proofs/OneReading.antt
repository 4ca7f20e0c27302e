-- A text is that of one specification, or has one first faulty line.
use Rattle.std.proofs.Common.{◌≡◌, ◌≢◌, ℕ, suc, ◌+◌, ◌<◌, ◌==◌, Bool, true, false, not, cond, List, [], ◌∷◌, ◌++◌, length, refl, sym, ap, subst, ◌∙◌, append_assoc, arith, ◌⊎◌, inl, inr}
use Rattle.std.specs.Prelude.{codes, map, filter}
use Rattle.std.specs.List.{AllByRecursion}
use Rattle.std.proofs.lemmas.Bool.{true≢false}
use Rattle.jvms_file.specs.Texts.{IsText}
use Rattle.escapes.specs.declared.sort.NameSort.TheVariants as sort
use Rattle.escapes.specs.Escapes.{name_text}
use Rattle.escapes.specs.Cuts.{has, dots_in}
use Rattle.escapes.specs.Keys.{IsNameOf}
use Rattle.escapes.proofs.Cutting.{one_cut}
use Rattle.escapes.proofs.Spelling.{one_name}
use Rattle.escapes.proofs.Members.{one_member}
use Rattle.velodrome.specs.declared.specification.Pattern.{Pattern}
use Rattle.velodrome.specs.declared.specification.Pattern.TheVariants as pattern
use Rattle.velodrome.specs.declared.specification.SpecificationLine.{SpecificationLine}
use Rattle.atom_spec.specs.Lines.{IsPattern, IsLine, pattern_text, word_text, line_text, is_skipped}
use Rattle.atom_spec.specs.Parts.{dots_of}
use Rattle.atom_spec.specs.Specs.{lines_of, AreLines, IsFaulty}
use Rattle.atom_spec.proofs.Patterns.{pattern_dots, class_clear}
use Rattle.atom_spec.proofs.SpecLines.{cut_line, word_clear}

-- ---- Patterns

-- The first dot separates the class from the name.
parted : (c d x y : List ℕ) → IsNameOf sort.Class c → IsNameOf sort.Class d → name_text c ++ 46 ∷ x ≡ name_text d ++ 46 ∷ y → (c ≡ d) × (x ≡ y)
parted c d x y left right e =
    let parts = one_cut 46 (name_text c) x (name_text d) y (class_clear c left) (class_clear d right) e in
    (one_name c d left.units right.units parts.0, parts.1)

star_is_text : IsText (codes "*")
star_is_text = (omega arith, tt)

star : (n : List ℕ) → IsNameOf sort.Method n → codes "*" ≡ name_text n → n ≡ codes "*"
star n is e = one_name n (codes "*") is.units star_is_text (sym e)

same_named : (c d n m : List ℕ) → c ≡ d → n ≡ m → pattern.Named c n ≡ pattern.Named d m
same_named c d n m one two = ap (λ (x : List ℕ). pattern.Named x n) one ∙ ap (λ (x : List ℕ). pattern.Named d x) two

same_exactly : (c d n m x y : List ℕ) → c ≡ d → n ≡ m → x ≡ y → pattern.Exactly c n x ≡ pattern.Exactly d m y
same_exactly c d n m x y one two three =
    ap (λ (z : List ℕ). pattern.Exactly z n x) one ∙ ap (λ (z : List ℕ). pattern.Exactly d z x) two ∙ ap (λ (z : List ℕ). pattern.Exactly d m z) three

by_dots : (p q : Pattern) → IsPattern p → IsPattern q → dots_of p ≡ dots_of q → pattern_text p ≡ pattern_text q → p ≡ q
by_dots pattern.All pattern.All left right dots e = refl
by_dots pattern.All q left right dots e = absurd (omega arith)
by_dots (pattern.Class c) (pattern.Class d) left right dots e = ap (λ (x : List ℕ). pattern.Class x) (parted c d (codes "*") (codes "*") left right e).0
by_dots (pattern.Class c) (pattern.Named d m) left right dots e = absurd (right.2 (star m right.1 (parted c d (codes "*") (name_text m) left right.0 e).1))
by_dots (pattern.Class c) q left right dots e = absurd (omega arith)
by_dots (pattern.Named c n) (pattern.Class d) left right dots e = absurd (left.2 (star n left.1 (sym (parted c d (name_text n) (codes "*") left.0 right e).1)))
by_dots (pattern.Named c n) (pattern.Named d m) left right dots e =
    let parts = parted c d (name_text n) (name_text m) left.0 right.0 e in
    same_named c d n m parts.0 (one_name n m left.1.units right.1.units parts.1)
by_dots (pattern.Named c n) q left right dots e = absurd (omega arith)
by_dots (pattern.Exactly c n x) (pattern.Exactly d m y) left right dots e =
    let same = one_member sort.Method sort.MethodDescriptor c n x d m y left right e in
    same_exactly c d n m x y same.same_first same.same_second same.same_third
by_dots (pattern.Exactly c n x) q left right dots e = absurd (omega arith)

one_pattern : (p q : Pattern) → IsPattern p → IsPattern q → pattern_text p ≡ pattern_text q → p ≡ q
one_pattern p q left right e = by_dots p q left right (sym (pattern_dots p left) ∙ ap dots_in e ∙ pattern_dots q right) e

-- ---- Lines

one_word : (a b : Bool) → word_text a ≡ word_text b → a ≡ b
one_word true true e = refl
one_word true false e = absurd cc
one_word false true e = absurd cc
one_word false false e = refl

abbrev made : Bool → Pattern → SpecificationLine
made b p = record { is_atomic = b; pattern = p }

one_line : (l k : SpecificationLine) → IsLine l → IsLine k → line_text l ≡ line_text k → l ≡ k
one_line l k left right e =
    let parts = cut_line (line_text l) (word_text l.is_atomic) (pattern_text l.pattern) k refl (word_clear l.is_atomic) e in
    ap (λ (b : Bool). made b l.pattern) (one_word l.is_atomic k.is_atomic parts.0) ∙ ap (λ (p : Pattern). made k.is_atomic p) (one_pattern l.pattern k.pattern left right parts.1)

same_lines : (xs ys : List SpecificationLine) → AllByRecursion IsLine xs → AllByRecursion IsLine ys → map line_text xs ≡ map line_text ys → xs ≡ ys
same_lines [] [] left right e = refl
same_lines [] (y ∷ ys) left right e = absurd cc
same_lines (x ∷ xs) [] left right e = absurd cc
same_lines (x ∷ xs) (y ∷ ys) left right e =
    let first : line_text x ≡ line_text y = cc in
    let rest : map line_text xs ≡ map line_text ys = cc in
    ap (λ (z : SpecificationLine). z ∷ xs) (one_line x y left.0 right.0 first) ∙ ap (λ (zs : List SpecificationLine). y ∷ zs) (same_lines xs ys left.1 right.1 rest)

pub one_specification : (lines : List (List ℕ)) (xs ys : List SpecificationLine) → AreLines lines xs → AreLines lines ys → xs ≡ ys
one_specification lines xs ys left right = same_lines xs ys left.are_valid right.are_valid (sym left.written ∙ right.written)

-- ---- Faults

record IsWritten (line : List ℕ) : Type 0 where
  by_line : SpecificationLine
  is : IsLine by_line
  text : line ≡ line_text by_line

-- The line is skipped, or it is a line of a specification.
abbrev IsFine : List ℕ → Type 0
IsFine line = (is_skipped line ≡ true) ⊎ IsWritten line

abbrev AreFine : List (List ℕ) → Type 0
AreFine lines = AllByRecursion IsFine lines

abbrev kept : List ℕ → Bool
kept l = not (is_skipped l)

abbrev Written : List (List ℕ) → Type 0
Written lines = (s : List SpecificationLine) → AllByRecursion IsLine s → filter kept lines ≡ map line_text s → AreFine lines

fine_kept : (x : List ℕ) (xs : List (List ℕ)) → Written xs → (s : List SpecificationLine) → AllByRecursion IsLine s → x ∷ filter kept xs ≡ map line_text s → AreFine (x ∷ xs)
fine_kept x xs further [] all e = absurd cc
fine_kept x xs further (l ∷ s) all e =
    let first : x ≡ line_text l = cc in
    let rest : filter kept xs ≡ map line_text s = cc in
    let written : IsWritten x = record { by_line = l; is = all.0; text = first } in
    (inr written, further s all.1 rest)

fine_step : (x : List ℕ) (xs : List (List ℕ)) (skipped : Bool) → is_skipped x ≡ skipped → Written xs → (s : List SpecificationLine) → AllByRecursion IsLine s
    → cond (not skipped) (x ∷ filter kept xs) (filter kept xs) ≡ map line_text s → AreFine (x ∷ xs)
fine_step x xs true is further s all e = (inl is, further s all e)
fine_step x xs false is further s all e = fine_kept x xs further s all e

fine : (xs : List (List ℕ)) → Written xs
fine [] s all e = tt
fine (x ∷ xs) s all e = fine_step x xs (is_skipped x) refl (fine xs) s all e

are_fine : (xs : List (List ℕ)) (s : List SpecificationLine) → AreLines xs s → AreFine xs
are_fine xs s are = fine xs s are.are_valid are.written

not_fine : (x : List ℕ) → is_skipped x ≡ false → ((l : SpecificationLine) → IsLine l → x ≢ line_text l) → IsFine x → ⊥
not_fine x kept none is = elim is [ inl skipped ↦ true≢false (sym skipped ∙ kept) | inr w ↦ none w.by_line w.is w.text ]

middle : (xs : List (List ℕ)) (y : List ℕ) (ys : List (List ℕ)) → AreFine (xs ++ y ∷ ys) → IsFine y
middle [] y ys are = are.0
middle (x ∷ xs) y ys are = middle xs y ys are.1

pub no_fault : (text : List ℕ) (specification : List SpecificationLine) (line : ℕ) → AreLines (lines_of text) specification → IsFaulty text line → ⊥
no_fault text specification line are fault =
    not_fine fault.here fault.kept fault.none (middle fault.before fault.here fault.after (subst AreFine fault.split (are_fine (lines_of text) specification are)))

same_place : (xs ys : List (List ℕ)) (x y : List ℕ) (us vs : List (List ℕ)) → AreFine xs → AreFine ys → (IsFine x → ⊥) → (IsFine y → ⊥) → xs ++ x ∷ us ≡ ys ++ y ∷ vs → length xs ≡ length ys
same_place [] [] x y us vs left right no_x no_y e = refl
same_place [] (b ∷ ys) x y us vs left right no_x no_y e =
    let same : b ≡ x = cc in
    absurd (no_x (subst IsFine same right.0))
same_place (a ∷ xs) [] x y us vs left right no_x no_y e =
    let same : a ≡ y = cc in
    absurd (no_y (subst IsFine same left.0))
same_place (a ∷ xs) (b ∷ ys) x y us vs left right no_x no_y e =
    let rest : xs ++ x ∷ us ≡ ys ++ y ∷ vs = cc in
    ap suc (same_place xs ys x y us vs left.1 right.1 no_x no_y rest)

pub one_fault : (text : List ℕ) (j k : ℕ) → IsFaulty text j → IsFaulty text k → j ≡ k
one_fault text j k left right =
    let same = same_place left.before right.before left.here right.here left.after right.after (are_fine left.before left.specification left.first) (are_fine right.before right.specification right.first)
    (not_fine left.here left.kept left.none) (not_fine right.here right.kept right.none) (sym left.split ∙ right.split) in
    left.count ∙ ap suc same ∙ sym right.count
