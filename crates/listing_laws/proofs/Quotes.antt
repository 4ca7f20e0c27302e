-- Proves that a text between quotes is read as the text that it spells.
use Rattle.std.proofs.Common.{◌≡◌, ℕ, ◌+◌, ◌-◌, ◌*◌, ◌/◌, ◌%◌, ◌<◌, ◌≤◌, ◌&&◌, Bool, true, false, cond, eqb, List, [], ◌∷◌, Some, refl, inl, inr, arith}
use Rattle.std.specs.Prelude.{nat_le, nat_lt}
use Rattle.std.specs.List.{flat_map}
use Rattle.std.proofs.lemmas.Bool.{eqb-true, le-leb, lt-leb, ltb-true, ltb-false}
use Rattle.jvms_file.specs.Texts.{IsText}
use Rattle.jasmin.specs.declared.token.Lexeme.TheVariants as lexeme
use Rattle.jasmin.specs.Lexing.{digit, SpellsUnit, SpellsUnits}
use Rattle.jasmin.specs.Lexing.{four_digits as digits_unit, unit_of_escape as unescaped}
use Rattle.listing_spec.specs.Printed.{hexadecimal, four_digits, escape_of, quotation}
use Rattle.listing_laws.proofs.Words.{IsPiece}

-- ---- Four digits

hexadecimal_is : (d : ℕ) → d < 16 → digit (hexadecimal d) ≡ Some d
hexadecimal_is d small = by (nat_lt d 10) refl
  where
    by : (b : Bool) → nat_lt d 10 ≡ b → digit (cond b (48 + d) (87 + d)) ≡ Some d
    by true is =
        let few : d < 10 = ltb-true d 10 is in
        let back : (48 + d) - 48 ≡ d = omega arith in
        rw (le-leb 48 (48 + d) (omega arith), le-leb (48 + d) 57 (omega arith), back) refl
    by false is =
        let many : 10 ≤ d = ltb-false d 10 is in
        let back : (87 + d) - 87 ≡ d = omega arith in
        rw (le-leb 48 (87 + d) (omega arith), lt-leb (87 + d) 57 (omega arith), le-leb 97 (87 + d) (omega arith), le-leb (87 + d) 102 (omega arith), back) refl

digits_are : (u : ℕ) → u < 65536 → digits_unit (hexadecimal (u / 4096)) (hexadecimal (u / 256 % 16)) (hexadecimal (u / 16 % 16)) (hexadecimal (u % 16)) ≡ Some u
digits_are u small =
    let value : ((u / 4096 * 16 + u / 256 % 16) * 16 + u / 16 % 16) * 16 + u % 16 ≡ u = omega arith in
    rw (hexadecimal_is (u / 4096) (omega arith), hexadecimal_is (u / 256 % 16) (omega arith), hexadecimal_is (u / 16 % 16) (omega arith), hexadecimal_is (u % 16) (omega arith), value) refl

-- ---- A unit

-- A unit is spelled by one escape, or otherwise.
one_escape : (v letter u : ℕ) (other : List ℕ) → (b : Bool) → eqb u v ≡ b → (SpellsUnit (92 ∷ letter ∷ []) v) → (eqb u v ≡ false → SpellsUnit other u) → SpellsUnit (cond b (92 ∷ letter ∷ []) other) u
one_escape v letter u other true is here next = rw (eqb-true u v is) here
one_escape v letter u other false is here next = next is

plain_or_digits : (u : ℕ) (b : Bool) → u < 65536 → eqb u 34 ≡ false → eqb u 92 ≡ false → SpellsUnit (cond b (u ∷ []) (92 ∷ 117 ∷ four_digits u)) u
plain_or_digits u true small quote slash = inl (refl, rw (quote, slash) refl)
plain_or_digits u false small quote slash = inr (inr (hexadecimal (u / 4096), hexadecimal (u / 256 % 16), hexadecimal (u / 16 % 16), hexadecimal (u % 16), refl, digits_are u small))

letter_spells : (letter v : ℕ) → unescaped letter ≡ Some v → SpellsUnit (92 ∷ letter ∷ []) v
letter_spells letter v is = inr (inl (letter, refl, is))

unit_spells : (u : ℕ) → u < 65536 → SpellsUnit (escape_of u) u
unit_spells u small =
    one_escape 10 110 u _ (eqb u 10) refl (letter_spells 110 10 refl) (λ a.
    one_escape 13 114 u _ (eqb u 13) refl (letter_spells 114 13 refl) (λ b.
    one_escape 9 116 u _ (eqb u 9) refl (letter_spells 116 9 refl) (λ c.
    one_escape 8 98 u _ (eqb u 8) refl (letter_spells 98 8 refl) (λ d.
    one_escape 12 102 u _ (eqb u 12) refl (letter_spells 102 12 refl) (λ e.
    one_escape 34 34 u _ (eqb u 34) refl (letter_spells 34 34 refl) (λ quote.
    one_escape 92 92 u _ (eqb u 92) refl (letter_spells 92 92 refl) (λ slash.
    plain_or_digits u (nat_le 32 u && nat_le u 126) small quote slash)))))))

units_spell : (us : List ℕ) → IsText us → SpellsUnits (flat_map escape_of us) us
units_spell [] are = refl
units_spell (u ∷ us) are = (escape_of u, flat_map escape_of us, refl, unit_spells u are.0, units_spell us are.1)

pub quoted_piece : (us : List ℕ) → IsText us → IsPiece (quotation us) (lexeme.Text us)
unfolding quotation
quoted_piece us are = record { spells = λ behind ends. (flat_map escape_of us, refl, units_spell us are); plain = refl }
