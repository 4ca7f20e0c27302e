-- Proves that the lines of a method consist of the pieces that are written.
use Rattle.std.proofs.Common.{◌≡◌, ℕ, true, false, List, [], ◌∷◌, ◌++◌, map, flat_map, refl, sym, ap, ◌∙◌, append_assoc}
use Rattle.std.specs.Prelude.{codes}
use Rattle.std.specs.Fmt.{decimal}
use Rattle.jasmin.specs.declared.source.MethodLines.{MethodLines}
use Rattle.jasmin.specs.Denote.{has_code}
use Rattle.jasmin.specs.Operands.{method_words}
use Rattle.listing_spec.specs.Printed.{join_words, access_names, catch_line, throws_line, item_lines, body_lines, method_text}
use Rattle.source_text.specs.Lines.{with_lf, text_of_lines}
use Rattle.source_text.proofs.Ended.{one_ended, ended_append, ended_map, ended_flat_map}

abbrev pub first_line : MethodLines → List ℕ
first_line m = join_words (codes ".method" ∷ access_names method_words m.access ++ (m.name ++ m.descriptor) ∷ [])

abbrev pub stack_line : ℕ → List ℕ
stack_line n = join_words (codes ".limit" ∷ codes "stack" ∷ decimal n ∷ [])

abbrev pub locals_line : ℕ → List ℕ
locals_line n = join_words (codes ".limit" ∷ codes "locals" ∷ decimal n ∷ [])

-- The body of a method with code has these pieces.
pub body_pieces : (m : MethodLines) → has_code m.name m.access ≡ true
    → text_of_lines (body_lines m) ≡ (with_lf (stack_line m.max_stack) ++ with_lf (locals_line m.max_locals)) ++ (flat_map (λ c. with_lf (catch_line c)) m.catches ++ flat_map (λ i. text_of_lines (item_lines i)) m.code)
unfolding body_lines
body_pieces m has =
    let catches = ended_map catch_line m.catches in
    let code = ended_flat_map item_lines m.code in
    let both : text_of_lines (map catch_line m.catches ++ flat_map item_lines m.code) ≡ flat_map (λ c. with_lf (catch_line c)) m.catches ++ flat_map (λ i. text_of_lines (item_lines i)) m.code =
    ended_append (map catch_line m.catches) (flat_map item_lines m.code) ∙ ap (λ (w : List ℕ). w ++ text_of_lines (flat_map item_lines m.code)) catches ∙ ap (λ (w : List ℕ). flat_map (λ c. with_lf (catch_line c)) m.catches ++ w) code in
    rw has (ap (λ (w : List ℕ). with_lf (stack_line m.max_stack) ++ (with_lf (locals_line m.max_locals) ++ w)) both
    ∙ sym (append_assoc (with_lf (stack_line m.max_stack)) (with_lf (locals_line m.max_locals)) (flat_map (λ c. with_lf (catch_line c)) m.catches ++ flat_map (λ i. text_of_lines (item_lines i)) m.code)))

-- The body of a method without code is empty.
pub no_body : (m : MethodLines) → has_code m.name m.access ≡ false → text_of_lines (body_lines m) ≡ []
unfolding body_lines
no_body m hasnt = rw hasnt refl

pub method_pieces : (m : MethodLines)
    → text_of_lines (method_text m) ≡ with_lf (first_line m) ++ (flat_map (λ name. with_lf (throws_line name)) m.throws ++ (text_of_lines (body_lines m) ++ with_lf (codes ".end method")))
unfolding method_text
method_pieces m =
    let last : text_of_lines (body_lines m ++ codes ".end method" ∷ []) ≡ text_of_lines (body_lines m) ++ with_lf (codes ".end method") =
    ended_append (body_lines m) (codes ".end method" ∷ []) ∙ ap (λ (w : List ℕ). text_of_lines (body_lines m) ++ w) (one_ended (codes ".end method")) in
    ap (λ (w : List ℕ). with_lf (first_line m) ++ w)
    (ended_append (map throws_line m.throws) (body_lines m ++ codes ".end method" ∷ [])
    ∙ ap (λ (w : List ℕ). w ++ text_of_lines (body_lines m ++ codes ".end method" ∷ [])) (ended_map throws_line m.throws)
    ∙ ap (λ (w : List ℕ). flat_map (λ name. with_lf (throws_line name)) m.throws ++ w) last)
