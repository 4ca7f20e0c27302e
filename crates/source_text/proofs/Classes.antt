-- Proves that the lines of a source consist of the pieces that are written.
use Rattle.std.proofs.Common.{◌≡◌, ℕ, List, [], ◌∷◌, ◌++◌, map, flat_map, ap, ◌∙◌}
use Rattle.std.specs.Prelude.{codes}
use Rattle.jasmin.specs.declared.source.Source.{Source}
use Rattle.listing_spec.specs.Printed.{join_words, field_line, method_text, class_line, lines_of_source}
use Rattle.source_text.specs.Lines.{with_lf, text_of_lines}
use Rattle.source_text.proofs.Ended.{ended_append, ended_map, ended_flat_map}

abbrev pub interface_line : List ℕ → List ℕ
interface_line name = join_words (codes ".implements" ∷ name ∷ [])

abbrev pub super_line : Source → List ℕ
super_line s = join_words (codes ".super" ∷ s.superclass ∷ [])

pub source_pieces : (s : Source)
    → text_of_lines (lines_of_source s) ≡ with_lf (codes ".bytecode 49.0") ++ (with_lf (class_line s) ++ (with_lf (super_line s) ++ (flat_map (λ name. with_lf (interface_line name)) s.interfaces
    ++ (flat_map (λ f. with_lf (field_line f)) s.fields ++ flat_map (λ m. text_of_lines (method_text m)) s.methods))))
unfolding lines_of_source
source_pieces s =
    let members : text_of_lines (map field_line s.fields ++ flat_map method_text s.methods) ≡ flat_map (λ f. with_lf (field_line f)) s.fields ++ flat_map (λ m. text_of_lines (method_text m)) s.methods =
    ended_append (map field_line s.fields) (flat_map method_text s.methods) ∙ ap (λ (w : List ℕ). w ++ text_of_lines (flat_map method_text s.methods)) (ended_map field_line s.fields)
    ∙ ap (λ (w : List ℕ). flat_map (λ f. with_lf (field_line f)) s.fields ++ w) (ended_flat_map method_text s.methods) in
    ap (λ (w : List ℕ). with_lf (codes ".bytecode 49.0") ++ (with_lf (class_line s) ++ (with_lf (super_line s) ++ w)))
    (ended_append (map interface_line s.interfaces) (map field_line s.fields ++ flat_map method_text s.methods)
    ∙ ap (λ (w : List ℕ). w ++ text_of_lines (map field_line s.fields ++ flat_map method_text s.methods)) (ended_map interface_line s.interfaces)
    ∙ ap (λ (w : List ℕ). flat_map (λ name. with_lf (interface_line name)) s.interfaces ++ w) members)
