-- Proves that the words of numbers, texts, flags, labels and instructions are plain.
use Rattle.std.proofs.Common.{◌≡◌, ℕ, zero, suc, ◌+◌, ◌/◌, ◌%◌, ◌<◌, ◌≤◌, Bool, true, false, cond, ◌&&◌, ◌==◌, List, [], ◌∷◌, ◌++◌, map, flat_map, ℤ, pos, negsuc, refl, sym, subst, arith}
use Rattle.std.specs.Prelude.{nat_le, nat_lt, codes, slice_get}
use Rattle.std.specs.Option.{unwrap_or}
use Rattle.std.specs.List.{list_all}
use Rattle.std.specs.Fmt.{digits, digits_onto, digit_glyph, decimal, signed_decimal}
use Rattle.std.proofs.lemmas.Bool.{and_parts, cond_both, lt-ltb, leb-true}
use Rattle.jvms_file.specs.Texts.{IsText}
use Rattle.jvms_file.specs.Members.{has_flag}
use Rattle.jasmin.specs.declared.mnemonic.TheConstants.{MNEMONICS}
use Rattle.jasmin.specs.Operands.{Access}
use Rattle.listing_spec.specs.TreeOf.{label_of}
use Rattle.listing_spec.specs.Listable.{IsPlaceLabel}
use Rattle.listing_spec.specs.Printed.{access_names, hexadecimal, four_digits, escape_of, quotation, mnemonic}
use Rattle.source_text.proofs.Plain.{IsPlain, AllPlain, is_simple, nil_plain, plain_append, simple_plain, small_first}

-- ---- Numbers

glyph_first : (d : ℕ) (l : List ℕ) → d < 10 → IsPlain l → IsPlain (digit_glyph false d ∷ l)
glyph_first d l small p = rw (lt-ltb d 10 small) (small_first (48 + d) l (omega arith) (omega arith) p)

digits_plain : (k n : ℕ) (l : List ℕ) → IsPlain l → IsPlain (digits_onto k 10 false n l)
digits_plain zero n l p = p
digits_plain (suc k) n l p =
    let here : IsPlain (digit_glyph false (n % 10) ∷ l) = glyph_first (n % 10) l (omega arith) p in
    cond_both (n / 10 == 0) (digit_glyph false (n % 10) ∷ l) (digits_onto k 10 false (n / 10) (digit_glyph false (n % 10) ∷ l)) IsPlain
    (λ last. here) (λ more. digits_plain k (n / 10) (digit_glyph false (n % 10) ∷ l) here)

-- A number has at most this many digits.
most_digits : (n : ℕ) → (k : ℕ) × (decimal n ≡ digits_onto k 10 false n [])
unfolding digits
most_digits n = (64, refl)

pub decimal_plain : (n : ℕ) → IsPlain (decimal n)
decimal_plain n = let w = most_digits n in subst IsPlain (sym w.1) (digits_plain w.0 n [] nil_plain)

pub signed_plain : (n : ℤ) → IsPlain (signed_decimal n)
signed_plain (pos n) = decimal_plain n
signed_plain (negsuc n) = small_first 45 (decimal (suc n)) (omega arith) (omega arith) (decimal_plain (suc n))

pub label_plain : (label : List ℕ) → IsPlaceLabel label → IsPlain label
unfolding label_of
label_plain label (place, is) = subst IsPlain (sym is) (small_first 76 (decimal place) (omega arith) (omega arith) (decimal_plain place))

-- ---- Texts in quotes

hexadecimal_first : (d : ℕ) (l : List ℕ) → d < 16 → IsPlain l → IsPlain (hexadecimal d ∷ l)
hexadecimal_first d l small p =
    cond_both (nat_lt d 10) (48 + d) (87 + d) (λ u. IsPlain (u ∷ l))
    (λ below. small_first (48 + d) l (omega arith) (omega arith) p)
    (λ above. small_first (87 + d) l (omega arith) (omega arith) p)

numbered_plain : (u : ℕ) → u < 0x10000 → IsPlain (92 ∷ 117 ∷ four_digits u)
numbered_plain u small =
    let a : u / 4096 < 16 = omega arith in
    let b : u / 256 % 16 < 16 = omega arith in
    let c : u / 16 % 16 < 16 = omega arith in
    let d : u % 16 < 16 = omega arith in
    let four : IsPlain (four_digits u) = hexadecimal_first (u / 4096) _ a (hexadecimal_first (u / 256 % 16) _ b (hexadecimal_first (u / 16 % 16) _ c (hexadecimal_first (u % 16) [] d nil_plain))) in
    small_first 92 (117 ∷ four_digits u) (omega arith) (omega arith) (small_first 117 (four_digits u) (omega arith) (omega arith) four)

either : (b : Bool) (x y : List ℕ) → IsPlain x → IsPlain y → IsPlain (cond b x y)
either true x y p q = p
either false x y p q = q

printable_plain : (u : ℕ) (y : List ℕ) → IsPlain y → IsPlain (cond (nat_le 32 u && nat_le u 126) (u ∷ []) y)
printable_plain u y q =
    cond_both (nat_le 32 u && nat_le u 126) (u ∷ []) y IsPlain
    (λ met.
    let w = and_parts (nat_le 32 u) (nat_le u 126) met in
    let least : 32 ≤ u = leb-true 32 u w.0 in
    let most : u ≤ 126 = leb-true u 126 w.1 in
    small_first u [] (omega arith) (omega arith) nil_plain)
    (λ unmet. q)

escaped_plain : (u : ℕ) → u < 0x10000 → IsPlain (escape_of u)
escaped_plain u small =
    either (u == 10) (codes "\\n") _ (simple_plain (codes "\\n") refl)
    (either (u == 13) (codes "\\r") _ (simple_plain (codes "\\r") refl)
    (either (u == 9) (codes "\\t") _ (simple_plain (codes "\\t") refl)
    (either (u == 8) (codes "\\b") _ (simple_plain (codes "\\b") refl)
    (either (u == 12) (codes "\\f") _ (simple_plain (codes "\\f") refl)
    (either (u == 34) (codes "\\\"") _ (simple_plain (codes "\\\"") refl)
    (either (u == 92) (codes "\\\\") _ (simple_plain (codes "\\\\") refl)
    (printable_plain u (92 ∷ 117 ∷ four_digits u) (numbered_plain u small))))))))

inside_plain : (text : List ℕ) → IsText text → IsPlain (flat_map escape_of text)
inside_plain [] fits = nil_plain
inside_plain (u ∷ us) fits = plain_append (escape_of u) (flat_map escape_of us) (escaped_plain u fits.0) (inside_plain us fits.1)

pub quoted_plain : (text : List ℕ) → IsText text → IsPlain (quotation text)
unfolding quotation
quoted_plain text fits =
    small_first 34 (flat_map escape_of text ++ 34 ∷ []) (omega arith) (omega arith)
    (plain_append (flat_map escape_of text) (34 ∷ []) (inside_plain text fits) (simple_plain (34 ∷ []) refl))

-- ---- Words of tables

pub access_plain : (table : Access) (access : ℕ) → list_all (λ w. list_all is_simple w.0) table ≡ true → AllPlain (access_names table access)
unfolding access_names
access_plain [] access e = tt
access_plain ((word, flag) ∷ others) access e =
    let w = and_parts (list_all is_simple word) (list_all (λ w. list_all is_simple w.0) others) e in
    let rest = access_plain others access w.1 in
    cond_both (has_flag flag access) (word ∷ access_names others access) (access_names others access) AllPlain
    (λ set. (simple_plain word w.0, rest)) (λ unset. rest)

name_plain : (names : List (List ℕ)) (place : ℕ) → list_all (λ name. list_all is_simple name) names ≡ true → IsPlain (unwrap_or (slice_get names place) [])
name_plain [] place e = nil_plain
name_plain (name ∷ names) zero e = simple_plain name (and_parts (list_all is_simple name) (list_all (λ name. list_all is_simple name) names) e).0
name_plain (name ∷ names) (suc place) e = name_plain names place (and_parts (list_all is_simple name) (list_all (λ name. list_all is_simple name) names) e).1

pub mnemonic_plain : (code : ℕ) → IsPlain (mnemonic code)
mnemonic_plain code = name_plain (map (λ name. name.now) MNEMONICS) code refl
