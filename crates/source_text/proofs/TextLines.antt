-- Proves that a text has certain lines if its units are those of the lines, each with a line end, and the lines are
-- plain.
use Rattle.std.proofs.Common.{◌≡◌, ℕ, zero, suc, ◌+◌, ◌-◌, ◌/◌, ◌%◌, ◌≤◌, true, false, cond, ◌&&◌, ◌||◌, ◌==◌, List, [], ◌∷◌, ◌++◌, length, get_or, map, flat_map, refl, sym, ap, ◌∙◌, subst, append_assoc, arith, Result, Ok, Err, String}
use Rattle.std.specs.Result.{IfOk}
use Rattle.std.specs.String.{string_bytes}
use Rattle.std.specs.Prelude.{nat_lt}
use Rattle.std.specs.List.{list_all, slice_split, onto_first}
use Rattle.std.specs.Str.{chars, IsUtf8}
use Rattle.std.specs.Str.Lines.{lines, lines_of_parts, strip_carriage_return}
use Rattle.std.specs.Char.Escape.{encode_utf16}
use Rattle.std.proofs.lemmas.Bool.{and_parts, and_from, or_parts, not-true, cond_both, ne_eqb, ltb-false}
use Rattle.std.proofs.lemmas.Str.{chars-encodes, encodes-append, IsUtf8-string_bytes}
use Rattle.std.proofs.lemmas.List.Folds.{list_all-append}
use lib.Utf8.{scalar, scalars, encode, encodes}
use Rattle.jasmin.specs.Sources.{units_of}
use Rattle.source_text.specs.Lines.{text_of_lines}
use Rattle.source_text.proofs.Plain.{AllPlain, is_line_unit}

-- ---- Characters and units

-- The characters of a text are split at a unit that ends a line: those before it, and those after it.
record Cut (cs l rest : List ℕ) : Type 0 where
  front : List ℕ
  behind : List ℕ
  parts : cs ≡ front ++ 10 ∷ behind
  here : flat_map encode_utf16 front ≡ l
  later : flat_map encode_utf16 behind ≡ rest

-- A character of one unit precedes a split text.
cut_one : (c : ℕ) (cs l rest : List ℕ) → encode_utf16 c ≡ c ∷ [] → list_all is_line_unit l ≡ true → c ∷ flat_map encode_utf16 cs ≡ l ++ 10 ∷ rest
    → ((m : List ℕ) → list_all is_line_unit m ≡ true → flat_map encode_utf16 cs ≡ m ++ 10 ∷ rest → Cut cs m rest) → Cut (c ∷ cs) l rest
cut_one c cs [] rest code plain e next =
    let first : c ≡ 10 = cc in
    let others : flat_map encode_utf16 cs ≡ rest = cc in
    record { front = []; behind = cs; parts = ap (λ (n : ℕ). n ∷ cs) first; here = refl; later = others }
cut_one c cs (u ∷ us) rest code plain e next =
    let first : c ≡ u = cc in
    let others : flat_map encode_utf16 cs ≡ us ++ 10 ∷ rest = cc in
    let k = next us (and_parts (is_line_unit u) (list_all is_line_unit us) plain).1 others in
    let units : c ∷ flat_map encode_utf16 k.front ≡ u ∷ us = ap (λ (n : ℕ). n ∷ flat_map encode_utf16 k.front) first ∙ ap (λ (w : List ℕ). u ∷ w) k.here in
    record {
      front = c ∷ k.front;
      behind = k.behind;
      parts = ap (λ (w : List ℕ). c ∷ w) k.parts;
      here = ap (λ (w : List ℕ). w ++ flat_map encode_utf16 k.front) code ∙ units;
      later = k.later;
    }

two_same : (a b c d : ℕ) (xs ys : List ℕ) → a ≡ c → b ≡ d → xs ≡ ys → a ∷ b ∷ xs ≡ c ∷ d ∷ ys
two_same a b c d xs ys e f g = cc

-- A character of two units precedes a split text.
two_more : (c h w u v : ℕ) (cs us rest : List ℕ) → encode_utf16 c ≡ h ∷ w ∷ [] → h ≡ u → w ≡ v → Cut cs us rest → Cut (c ∷ cs) (u ∷ v ∷ us) rest
two_more c h w u v cs us rest code first second k = record {
  front = c ∷ k.front;
  behind = k.behind;
  parts = ap (λ (z : List ℕ). c ∷ z) k.parts;
  here = ap (λ (z : List ℕ). z ++ flat_map encode_utf16 k.front) code ∙ two_same h w u v (flat_map encode_utf16 k.front) us first second k.here;
  later = k.later;
}

-- A character of two units that end no line precedes a split text.
cut_two : (c h w : ℕ) (cs l rest : List ℕ) → encode_utf16 c ≡ h ∷ w ∷ [] → 11 ≤ h → 11 ≤ w → list_all is_line_unit l ≡ true → h ∷ w ∷ flat_map encode_utf16 cs ≡ l ++ 10 ∷ rest
    → ((m : List ℕ) → list_all is_line_unit m ≡ true → flat_map encode_utf16 cs ≡ m ++ 10 ∷ rest → Cut cs m rest) → Cut (c ∷ cs) l rest
cut_two c h w cs [] rest code high low plain e next = let first : h ≡ 10 = cc in absurd (omega arith)
cut_two c h w cs (u ∷ []) rest code high low plain e next = let second : w ≡ 10 = cc in absurd (omega arith)
cut_two c h w cs (u ∷ v ∷ us) rest code high low plain e next =
    let others : flat_map encode_utf16 cs ≡ us ++ 10 ∷ rest = cc in
    let some = (and_parts (is_line_unit u) (list_all is_line_unit (v ∷ us)) plain).1 in
    two_more c h w u v cs us rest code (cc) (cc) (next us (and_parts (is_line_unit v) (list_all is_line_unit us) some).1 others)

cut : (cs l rest : List ℕ) → list_all is_line_unit l ≡ true → flat_map encode_utf16 cs ≡ l ++ 10 ∷ rest → Cut cs l rest
cut [] [] rest plain e = absurd cc
cut [] (u ∷ us) rest plain e = absurd cc
cut (c ∷ cs) l rest plain e =
    cond_both (nat_lt c 0x10000) (c ∷ []) ((0xD800 + (c - 0x10000) / 0x400) ∷ (0xDC00 + (c - 0x10000) % 0x400) ∷ [])
    (λ z. encode_utf16 c ≡ z → z ++ flat_map encode_utf16 cs ≡ l ++ 10 ∷ rest → Cut (c ∷ cs) l rest)
    (λ small code units. cut_one c cs l rest code plain units (λ m q f. cut cs m rest q f))
    (λ large code units. cut_two c (0xD800 + (c - 0x10000) / 0x400) (0xDC00 + (c - 0x10000) % 0x400) cs l rest code (omega arith) (omega arith) plain units (λ m q f. cut cs m rest q f))
    refl e

-- ---- Bytes

line_byte : (b : ℕ) (l : List ℕ) → 14 ≤ b → list_all is_line_unit l ≡ true → list_all is_line_unit (b ∷ l) ≡ true
line_byte b l least e = rw (ne_eqb b 10 (λ is. omega arith), ne_eqb b 13 (λ is. omega arith)) e

abbrev AreLine : List ℕ → Type 0
AreLine bytes = list_all is_line_unit bytes ≡ true

abbrev next : ℕ → ℕ
next bits = 128 + bits % 64

abbrev two_bytes : ℕ → List ℕ
two_bytes c = (192 + c / 64) ∷ next c ∷ []

abbrev three_bytes : ℕ → List ℕ
three_bytes c = (224 + c / 4096) ∷ next (c / 64) ∷ next c ∷ []

abbrev four_bytes : ℕ → List ℕ
four_bytes c = (240 + c / 262144) ∷ next (c / 4096) ∷ next (c / 64) ∷ next c ∷ []

two_are : (c : ℕ) → AreLine (two_bytes c)
two_are c = line_byte (192 + c / 64) (next c ∷ []) (omega arith) (line_byte (next c) [] (omega arith) refl)

three_are : (c : ℕ) → AreLine (three_bytes c)
three_are c =
    line_byte (224 + c / 4096) (next (c / 64) ∷ next c ∷ []) (omega arith)
    (line_byte (next (c / 64)) (next c ∷ []) (omega arith) (line_byte (next c) [] (omega arith) refl))

four_are : (c : ℕ) → AreLine (four_bytes c)
four_are c =
    line_byte (240 + c / 262144) (next (c / 4096) ∷ next (c / 64) ∷ next c ∷ []) (omega arith)
    (line_byte (next (c / 4096)) (next (c / 64) ∷ next c ∷ []) (omega arith)
    (line_byte (next (c / 64)) (next c ∷ []) (omega arith) (line_byte (next c) [] (omega arith) refl)))

char_bytes : (c : ℕ) → is_line_unit c ≡ true → list_all is_line_unit (encode c) ≡ true
unfolding encode
char_bytes c e =
    cond_both (nat_lt c 128) (c ∷ []) (cond (nat_lt c 2048) (two_bytes c) (cond (nat_lt c 65536) (three_bytes c) (four_bytes c))) AreLine
    (λ one. and_from (is_line_unit c) true e refl)
    (λ more. cond_both (nat_lt c 2048) (two_bytes c) (cond (nat_lt c 65536) (three_bytes c) (four_bytes c)) AreLine
    (λ two. two_are c)
    (λ many. cond_both (nat_lt c 65536) (three_bytes c) (four_bytes c) AreLine (λ three. three_are c) (λ four. four_are c)))

-- A character whose units end no line has bytes that end no line.
char_of_units : (c : ℕ) (us : List ℕ) → list_all is_line_unit (encode_utf16 c ++ us) ≡ true → (is_line_unit c ≡ true) × (list_all is_line_unit us ≡ true)
char_of_units c us e =
    cond_both (nat_lt c 0x10000) (c ∷ []) ((0xD800 + (c - 0x10000) / 0x400) ∷ (0xDC00 + (c - 0x10000) % 0x400) ∷ [])
    (λ z. list_all is_line_unit (z ++ us) ≡ true → (is_line_unit c ≡ true) × (list_all is_line_unit us ≡ true))
    (λ small f. and_parts (is_line_unit c) (list_all is_line_unit us) f)
    (λ large f.
    let above : 0x10000 ≤ c = ltb-false c 0x10000 large in
    let high = and_parts (is_line_unit (0xD800 + (c - 0x10000) / 0x400)) (is_line_unit (0xDC00 + (c - 0x10000) % 0x400) && list_all is_line_unit us) f in
    (rw (ne_eqb c 10 (λ is. omega arith), ne_eqb c 13 (λ is. omega arith)) refl, (and_parts (is_line_unit (0xDC00 + (c - 0x10000) % 0x400)) (list_all is_line_unit us) high.1).1))
    e

text_bytes : (cs : List ℕ) → list_all is_line_unit (flat_map encode_utf16 cs) ≡ true → list_all is_line_unit (encodes cs) ≡ true
text_bytes [] e = refl
text_bytes (c ∷ cs) e =
    let w = char_of_units c (flat_map encode_utf16 cs) e in
    list_all-append is_line_unit (encode c) (encodes cs) ∙ and_from (list_all is_line_unit (encode c)) (list_all is_line_unit (encodes cs)) (char_bytes c w.0) (text_bytes cs w.1)

-- ---- Lines of bytes

no_feed : (b : ℕ) → is_line_unit b ≡ true → (b == 10) ≡ false
no_feed b e = (or_parts (b == 10) (b == 13) (not-true (b == 10 || b == 13) e)).0

no_return : (b : ℕ) → is_line_unit b ≡ true → (b == 13) ≡ false
no_return b e = (or_parts (b == 10) (b == 13) (not-true (b == 10 || b == 13) e)).1

split_first : (x rest : List ℕ) → list_all is_line_unit x ≡ true → slice_split (λ b. b == 10) (x ++ 10 ∷ rest) ≡ x ∷ slice_split (λ b. b == 10) rest
split_first [] rest e = refl
split_first (b ∷ bs) rest e =
    let w = and_parts (is_line_unit b) (list_all is_line_unit bs) e in
    rw (no_feed b w.0, split_first bs rest w.1) refl

-- A split list has a first part.
some_part : (bs : List ℕ) → (part : List ℕ) × (parts : List (List ℕ)) × (slice_split (λ b. b == 10) bs ≡ part ∷ parts)
some_part [] = ([], [], refl)
some_part (b ∷ bs) =
    let w = some_part bs in
    cond_both (b == 10) ([] ∷ slice_split (λ b. b == 10) bs) (onto_first b (slice_split (λ b. b == 10) bs)) (λ z. (part : List ℕ) × (parts : List (List ℕ)) × (z ≡ part ∷ parts))
    (λ feed. ([], slice_split (λ b. b == 10) bs, refl))
    (λ other. (b ∷ w.0, w.1, rw w.2 refl))

no_return_at : (x : List ℕ) (i : ℕ) → list_all is_line_unit x ≡ true → (get_or x i 0 == 13) ≡ false
no_return_at [] i e = refl
no_return_at (b ∷ bs) zero e = no_return b (and_parts (is_line_unit b) (list_all is_line_unit bs) e).0
no_return_at (b ∷ bs) (suc i) e = no_return_at bs i (and_parts (is_line_unit b) (list_all is_line_unit bs) e).1

nothing_stripped : (x : List ℕ) → list_all is_line_unit x ≡ true → strip_carriage_return x ≡ x
nothing_stripped x e = rw (no_return_at x (length x - 1) e) refl

line_first : (x rest : List ℕ) → list_all is_line_unit x ≡ true → lines (x ++ 10 ∷ rest) ≡ x ∷ lines rest
line_first x rest e =
    let w = some_part rest in
    ap lines_of_parts (split_first x rest e)
    ∙ ap (λ (p : List (List ℕ)). lines_of_parts (x ∷ p)) w.2
    ∙ ap (λ (y : List ℕ). y ∷ lines_of_parts (w.0 ∷ w.1)) (nothing_stripped x e)
    ∙ ap (λ (p : List (List ℕ)). x ∷ lines_of_parts p) (sym w.2)

-- ---- All lines

scalars_parts : (xs ys : List ℕ) → scalars (xs ++ ys) ≡ true → (scalars xs ≡ true) × (scalars ys ≡ true)
scalars_parts [] ys e = (refl, e)
scalars_parts (x ∷ xs) ys e =
    let w = and_parts (scalar x) (scalars (xs ++ ys)) e in
    let v = scalars_parts xs ys w.1 in
    (and_from (scalar x) (scalars xs) w.0 v.0, v.1)

feed_bytes : (ys : List ℕ) → encodes (10 ∷ ys) ≡ 10 ∷ encodes ys
unfolding encode
feed_bytes ys = refl

no_units : (cs : List ℕ) → flat_map encode_utf16 cs ≡ [] → cs ≡ []
no_units [] e = refl
no_units (c ∷ cs) e =
    cond_both (nat_lt c 0x10000) (c ∷ []) ((0xD800 + (c - 0x10000) / 0x400) ∷ (0xDC00 + (c - 0x10000) % 0x400) ∷ [])
    (λ z. z ++ flat_map encode_utf16 cs ≡ [] → c ∷ cs ≡ []) (λ small f. absurd cc) (λ large f. absurd cc) e

lines_of_characters : (ls : List (List ℕ)) (cs : List ℕ) → scalars cs ≡ true → flat_map encode_utf16 cs ≡ text_of_lines ls → AllPlain ls → map units_of (lines (encodes cs)) ≡ ls
lines_of_characters [] cs ok e plain = ap (λ (w : List ℕ). map units_of (lines (encodes w))) (no_units cs e)
lines_of_characters (l ∷ ls) cs ok e plain =
    let units : list_all is_line_unit l ≡ true = (plain.0).units in
    let k = cut cs l (text_of_lines ls) units (e ∙ append_assoc l (10 ∷ []) (text_of_lines ls)) in
    let s = scalars_parts k.front (10 ∷ k.behind) (subst (λ (w : List ℕ). scalars w ≡ true) k.parts ok) in
    let behind = and_parts (scalar 10) (scalars k.behind) s.1 in
    let bytes : encodes cs ≡ encodes k.front ++ 10 ∷ encodes k.behind =
    ap encodes k.parts ∙ encodes-append k.front (10 ∷ k.behind) ∙ ap (λ (w : List ℕ). encodes k.front ++ w) (feed_bytes k.behind) in
    let front : list_all is_line_unit (encodes k.front) ≡ true = text_bytes k.front (subst (λ (w : List ℕ). list_all is_line_unit w ≡ true) (sym k.here) units) in
    let line : units_of (encodes k.front) ≡ l = ap (flat_map encode_utf16) (chars-encodes k.front s.0) ∙ k.here in
    ap (λ (w : List ℕ). map units_of (lines w)) bytes
    ∙ ap (map units_of) (line_first (encodes k.front) (encodes k.behind) front)
    ∙ ap (λ (w : List ℕ). w ∷ map units_of (lines (encodes k.behind))) line
    ∙ ap (λ (w : List (List ℕ)). l ∷ w) (lines_of_characters ls k.behind behind.1 k.later plain.1)

-- A text has the lines that its units have.
pub text_lines : (bytes : List ℕ) (ls : List (List ℕ)) → IsUtf8 bytes → units_of bytes ≡ text_of_lines ls → AllPlain ls → map units_of (lines bytes) ≡ ls
text_lines bytes ls (cs, (ok, is)) units plain =
    let characters : cs ≡ chars bytes = sym (chars-encodes cs ok) ∙ ap chars is in
    subst (λ (w : List ℕ). map units_of (lines w) ≡ ls) is (lines_of_characters ls cs ok (ap (flat_map encode_utf16) characters ∙ units) plain)

-- A text that is made has the lines that its units have, unless memory runs out.
pub lines_of_text : {Z E : Type 0} (r : Result (String Z) E) (units : List ℕ) (ls : List (List ℕ)) → units ≡ text_of_lines ls → AllPlain ls
    → IfOk r (λ text. units_of (string_bytes text) ≡ units) → IfOk r (λ text. map units_of (lines (string_bytes text)) ≡ ls)
lines_of_text (Ok text) units ls are plain is = text_lines (string_bytes text) ls (IsUtf8-string_bytes text) (is ∙ are) plain
lines_of_text (Err e) units ls are plain is = is
