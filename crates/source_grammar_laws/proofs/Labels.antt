-- Proves that a word is a label exactly if it is read as one.
use Rattle.std.proofs.Common.{◌≡◌, ◌⊎◌, inl, inr, ℕ, ◌<◌, ◌&&◌, ◌||◌, Bool, true, false, eqb, List, [], ◌∷◌, Option, Some, Ok, refl, arith}
use Rattle.std.specs.Prelude.{nat_le}
use Rattle.std.proofs.lemmas.Bool.{or_parts, not-true, leb-false, lt-leb, le-leb, ne_eqb, eqb-false}
use Rattle.jasmin.specs.declared.token.Lexeme.{Lexeme}
use Rattle.jasmin.specs.declared.token.Lexeme.TheVariants as lexeme
use Rattle.jasmin.specs.declared.statement.Flaw.TheVariants as flaw
use Rattle.jasmin.specs.Operands.{is_label, label_at}
use Rattle.source_grammar_laws.specs.Words.{IsLabel}
use Rattle.source_grammar_laws.proofs.Places.{place_said}

no_digit : (u : ℕ) (low high : Bool) → nat_le 48 u ≡ low → nat_le u 57 ≡ high → (low && high) ≡ false → (u < 48) ⊎ (57 < u)
no_digit u false high a b e = inl (leb-false 48 u a)
no_digit u true false a b e = inr (leb-false u 57 b)
no_digit u true true a b e = absurd cc

pub is_label_said : (w : List ℕ) → is_label w ≡ true → IsLabel w
is_label_said [] e = absurd cc
is_label_said (u ∷ us) e =
    let all = or_parts (nat_le 48 u && nat_le u 57) (eqb u 43 || (eqb u 45 || eqb u 46)) (not-true ((nat_le 48 u && nat_le u 57) || (eqb u 43 || (eqb u 45 || eqb u 46))) e) in
    let plus = or_parts (eqb u 43) (eqb u 45 || eqb u 46) all.1 in
    let signs = or_parts (eqb u 45) (eqb u 46) plus.1 in
    (u, us, refl, no_digit u (nat_le 48 u) (nat_le u 57) refl refl all.0, eqb-false u 43 plus.0, eqb-false u 45 signs.0, eqb-false u 46 signs.1)

outside : (u : ℕ) → (u < 48) ⊎ (57 < u) → (nat_le 48 u && nat_le u 57) ≡ false
outside u (inl low) = rw (lt-leb 48 u low) refl
outside u (inr high) = rw (le-leb 48 u (omega arith), lt-leb u 57 high) refl

pub is_label_reads : (w : List ℕ) → IsLabel w → is_label w ≡ true
is_label_reads w (u, us, e, digit, plus, minus, dot) = rw (e, outside u digit, ne_eqb u 43 plus, ne_eqb u 45 minus, ne_eqb u 46 dot) refl

pub label_said : (o : Option Lexeme) (label : List ℕ) → label_at o ≡ Ok label → (o ≡ Some (lexeme.Word label)) × IsLabel label
label_said o label e =
    let h = place_said is_label flaw.Name o label e in
    (h.0, is_label_said label h.1)
