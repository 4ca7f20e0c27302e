-- Proves that lines with their line ends consist of the pieces that are written.
use Rattle.std.proofs.Common.{◌≡◌, ℕ, List, [], ◌∷◌, ◌++◌, map, flat_map, refl, ap, ◌∙◌}
use Rattle.std.proofs.lemmas.List.{append-nil}
use Rattle.std.proofs.lemmas.List.Folds.{flat_map-map}
use Rattle.std.proofs.lemmas.Grind.{flat_map-append}
use Rattle.std.specs.Prelude.{codes}
use Rattle.jasmin.specs.declared.source.TableLines.{TableLines}
use Rattle.jasmin.specs.declared.source.LookupLines.{LookupLines}
use Rattle.jasmin.specs.declared.source.Operation.{Operation}
use Rattle.jasmin.specs.declared.source.Operation.TheVariants as operation
use Rattle.jasmin.specs.declared.source.CodeItem.TheVariants as item
use Rattle.listing_spec.specs.Printed.{join_words, mnemonic, opcode_of, operand_words, switch_line, default_line, match_line, lines_after, item_lines}
use Rattle.source_text.specs.Lines.{with_lf, text_of_lines}

-- One line is ended.
pub one_ended : (line : List ℕ) → text_of_lines (line ∷ []) ≡ with_lf line
one_ended line = append-nil (with_lf line)

-- The text of appended lines is that of the first ones, followed by that of the others.
pub ended_append : (xs ys : List (List ℕ)) → text_of_lines (xs ++ ys) ≡ text_of_lines xs ++ text_of_lines ys
ended_append xs ys = flat_map-append with_lf xs ys

-- The text of a line for each element is that of each line in turn.
pub ended_map : {A : Type 0} (f : A → List ℕ) (xs : List A) → text_of_lines (map f xs) ≡ flat_map (λ x. with_lf (f x)) xs
ended_map f xs = flat_map-map with_lf f xs

-- The text of lines for each element is that of each element's lines in turn.
pub ended_flat_map : {A : Type 0} (f : A → List (List ℕ)) (xs : List A) → text_of_lines (flat_map f xs) ≡ flat_map (λ x. text_of_lines (f x)) xs
ended_flat_map f [] = refl
ended_flat_map f (x ∷ xs) = ended_append (f x) (flat_map f xs) ∙ ap (λ (w : List ℕ). text_of_lines (f x) ++ w) (ended_flat_map f xs)

pub table_lines : (lines : TableLines) → text_of_lines (lines_after (operation.Table lines)) ≡ flat_map (λ label. with_lf (switch_line (label ∷ []))) lines.labels ++ with_lf (default_line lines.default)
table_lines lines =
    ended_append (map (λ (label : List ℕ). switch_line (label ∷ [])) lines.labels) (default_line lines.default ∷ [])
    ∙ ap (λ (w : List ℕ). w ++ text_of_lines (default_line lines.default ∷ [])) (ended_map (λ (label : List ℕ). switch_line (label ∷ [])) lines.labels)
    ∙ ap (λ (w : List ℕ). flat_map (λ label. with_lf (switch_line (label ∷ []))) lines.labels ++ w) (one_ended (default_line lines.default))

pub lookup_lines : (lines : LookupLines) → text_of_lines (lines_after (operation.Lookup lines)) ≡ flat_map (λ m. with_lf (match_line m)) lines.matches ++ with_lf (default_line lines.default)
lookup_lines lines =
    ended_append (map match_line lines.matches) (default_line lines.default ∷ [])
    ∙ ap (λ (w : List ℕ). w ++ text_of_lines (default_line lines.default ∷ [])) (ended_map match_line lines.matches)
    ∙ ap (λ (w : List ℕ). flat_map (λ m. with_lf (match_line m)) lines.matches ++ w) (one_ended (default_line lines.default))

pub label_line : (name : List ℕ) → text_of_lines (item_lines (item.Label name)) ≡ with_lf (name ++ codes ":")
unfolding item_lines
label_line name = one_ended (name ++ codes ":")

pub operation_lines : (o : Operation) → text_of_lines (item_lines (item.Operation o)) ≡ with_lf (codes "  " ++ join_words (mnemonic (opcode_of o) ∷ operand_words o)) ++ text_of_lines (lines_after o)
unfolding item_lines
operation_lines o = refl
