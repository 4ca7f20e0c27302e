-- Proves that paired units can be decoded, and that the text has these units.
use Rattle.std.proofs.Common.{◌≡◌, ℕ, Bool, true, false, not, ◌&&◌, ◌||◌, List, [], ◌∷◌, ◌++◌, length, flat_map, Some, refl, sym, ap, ◌∙◌, arith, Result, Ok, Err}
use Rattle.std.specs.Result.{IsOk, is_err}
use Rattle.std.specs.Str.{IsUtf8}
use Rattle.std.specs.String.{IsUtf16Of}
use Rattle.std.specs.Char.Escape.{encode_utf16}
use Rattle.std.specs.Char.Utf16.{utf16_chars, is_high_surrogate, is_low_surrogate, lone_unit_char, has_unpaired_surrogate}
use Rattle.std.proofs.lemmas.Bool.{and_parts, or_parts, not-true, cond_both}
use Rattle.std.proofs.lemmas.Bool.Decides.{nat_tests}
use Rattle.std.proofs.lemmas.Str.{chars_from_encodes}
use Rattle.jasmin.specs.Sources.{units_of}
use Rattle.shared_data.specs.Surrogates.{is_high, is_low}
use Rattle.listing_spec.specs.Printable.{is_paired}
use Rattle.source_text.specs.Lines.{text_of_lines}
use Rattle.source_text.proofs.Plain.{AllPlain, paired_append, nil_plain}

same_high : (u : ℕ) → is_high_surrogate u ≡ is_high u
same_high u = grind (arith, nat_tests)

same_low : (u : ℕ) → is_low_surrogate u ≡ is_low u
same_low u = grind (arith, nat_tests)

whole_unit : (u : ℕ) → is_high u ≡ false → is_low u ≡ false → lone_unit_char u ≡ Some u
whole_unit u high low = grind (arith, nat_tests)

feed_paired : is_paired (10 ∷ []) ≡ true
unfolding is_paired
feed_paired = refl

pub paired_decodes : (us : List ℕ) → is_paired us ≡ true → has_unpaired_surrogate us ≡ false
unfolding is_paired utf16_chars
paired_decodes [] e = refl
paired_decodes (u ∷ []) e =
    let w = or_parts (is_high u) (is_low u) (not-true (is_high u || is_low u) e) in
    rw (whole_unit u w.0 w.1) refl
paired_decodes (u ∷ v ∷ us) e =
    cond_both (is_high u) (is_low v && is_paired us) (not (is_low u) && is_paired (v ∷ us)) (λ b. b ≡ true → has_unpaired_surrogate (u ∷ v ∷ us) ≡ false)
    (λ high f.
    let w = and_parts (is_low v) (is_paired us) f in
    let h : is_high_surrogate u ≡ true = same_high u ∙ high in
    let l : is_low_surrogate v ≡ true = same_low v ∙ w.0 in
    rw (h, l) (paired_decodes us w.1))
    (λ whole f.
    let w = and_parts (not (is_low u)) (is_paired (v ∷ us)) f in
    let h : is_high_surrogate u ≡ false = same_high u ∙ whole in
    rw (h, whole_unit u whole (not-true (is_low u) w.0)) (paired_decodes (v ∷ us) w.1))
    e

-- A text that is spelled by units has these units.
pub decoded_units : (units bytes : List ℕ) → IsUtf8 bytes → IsUtf16Of units bytes → units_of bytes ≡ units
decoded_units units bytes utf8 (cs, spelled, coded) =
    ap (flat_map encode_utf16) (sym (chars_from_encodes cs bytes utf8 (sym coded))) ∙ sym spelled

-- Plain lines with their line ends are paired.
pub lines_paired : (ls : List (List ℕ)) → AllPlain ls → is_paired (text_of_lines ls) ≡ true
lines_paired [] a = nil_plain.pairs
lines_paired (l ∷ ls) a = paired_append (l ++ 10 ∷ []) (text_of_lines ls) (paired_append l (10 ∷ []) (a.0).pairs feed_paired) (lines_paired ls a.1)

-- The empty list is paired.
pub none_left : (us : List ℕ) → length us ≡ 0 → is_paired us ≡ true
unfolding is_paired
none_left [] e = refl
none_left (u ∷ us) e = absurd (omega (arith, e))

-- A result without a fault is Ok.
pub no_fault : {T E : Type 0} (r : Result T E) (b : Bool) → is_err r ≡ b → b ≡ false → IsOk r
no_fault (Ok x) b is isnt = refl
no_fault (Err e) b is isnt = absurd cc
