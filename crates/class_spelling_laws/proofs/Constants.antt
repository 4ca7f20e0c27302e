-- Proves that bytes spell the pool of an assembled class (JVMS 4.4).
use Rattle.std.proofs.Common.{◌+◌, ◌≤◌, true, List, [], ◌∷◌, ◌++◌, length, refl, sym, arith, nat_le, ℤ, pos, negsuc}
use Rattle.std.specs.Prelude.{FitsSigned}
use Rattle.std.specs.Int.{w32, w64, cast_unsigned}
use Rattle.std.proofs.lemmas.Bool.{and_parts, leb-true}
use Rattle.std.proofs.lemmas.Int.{to_z-of_z}
use Rattle.std.proofs.Math.Facts.{Fits-of_z}
use Rattle.jvms_file.specs.declared.class_file.Constant.{Constant}
use Rattle.jvms_file.specs.declared.class_file.Constant.TheVariants as constant
use Rattle.jvms_file.specs.Texts.{bytes_of_text}
use Rattle.jvms_file.specs.Spelling.{u2, u4, u8, SpellsConstant, SpellsPool}
use Rattle.pool_entries.specs.Entries.{IsProper, AreProper}
use Rattle.source_form_laws.specs.Formed.{IsSigned}
use Rattle.class_spelling_laws.proofs.Lists.{IsSpelled, all_both, all_map, in_order}
use Rattle.class_spelling_laws.proofs.Pools.{IsWell, IsGood, good_is_sound}

-- ---- Signed numbers

int_fits : (n : ℤ) → IsSigned 31 n → FitsSigned w32 n
int_fits (pos k) is = let most = leb-true k 2147483647 is in record { sfits = omega arith }
int_fits (negsuc k) is =
    let least = leb-true k 2147483647 (and_parts (nat_le k 2147483647) true is).0 in record { sfits = omega arith }

long_fits : (n : ℤ) → IsSigned 63 n → FitsSigned w64 n
long_fits (pos k) is = let most = leb-true k 9223372036854775807 is in record { sfits = omega arith }
long_fits (negsuc k) is =
    let least = leb-true k 9223372036854775807 (and_parts (nat_le k 9223372036854775807) true is).0 in record { sfits = omega arith }

int_spelled : (n : ℤ) → IsSigned 31 n → IsSpelled SpellsConstant (constant.Integer n)
int_spelled n is =
    let fits = int_fits n is in
    let m = cast_unsigned w32 n in
    (3 ∷ u4 m, (m, (Fits-of_z fits).fits, sym (to_z-of_z w32 n fits), refl))

long_spelled : (n : ℤ) → IsSigned 63 n → IsSpelled SpellsConstant (constant.Long n)
long_spelled n is =
    let fits = long_fits n is in
    let m = cast_unsigned w64 n in
    (5 ∷ u8 m, (m, (Fits-of_z fits).fits, sym (to_z-of_z w64 n fits), refl))

-- ---- Entries

-- Bytes spell an entry without fault, if the units of its text have 16 bits.
constant_spelled : (pool : List Constant) (c : Constant) → IsWell pool c × IsProper c → IsSpelled SpellsConstant c
constant_spelled pool (constant.Utf8 text) is =
    let short : length (bytes_of_text text) ≤ 65535 = leb-true (length (bytes_of_text text)) 65535 is.0 in
    (1 ∷ u2 (length (bytes_of_text text)) ++ bytes_of_text text, (is.1, omega arith, refl))
constant_spelled pool (constant.Integer n) is = int_spelled n is.0
constant_spelled pool (constant.Long n) is = long_spelled n is.0
constant_spelled pool (constant.Class n) is = let well = is.0 in (7 ∷ u2 n, (well.0, refl))
constant_spelled pool (constant.String n) is = let well = is.0 in (8 ∷ u2 n, (well.0, refl))
constant_spelled pool (constant.Field c m) is = let well = is.0 in (9 ∷ u2 c ++ u2 m, (well.class_fits, well.member_fits, refl))
constant_spelled pool (constant.Method c m) is = let well = is.0 in (10 ∷ u2 c ++ u2 m, (well.class_fits, well.member_fits, refl))
constant_spelled pool (constant.InterfaceMethod c m) is = let well = is.0 in (11 ∷ u2 c ++ u2 m, (well.class_fits, well.member_fits, refl))
constant_spelled pool (constant.NameAndType n d) is = let well = is.0 in (12 ∷ u2 n ++ u2 d, (well.0, well.1, refl))
constant_spelled pool constant.Unusable is = ([], refl)
constant_spelled pool (constant.Float n) is = absurd is.0
constant_spelled pool (constant.Double n) is = absurd is.0

pub pool_spelled : (pool : List Constant) → IsGood pool → AreProper pool → IsSpelled SpellsPool pool
pool_spelled pool good proper =
    let entries = all_map (λ c. IsWell pool c × IsProper c) (IsSpelled SpellsConstant) (constant_spelled pool) pool (all_both (IsWell pool) IsProper pool good.well proper) in
    let rest = in_order SpellsConstant pool entries in
    let few = good.few in
    (u2 (length pool + 1) ++ rest.0, (omega arith, good.numbered, good_is_sound pool good, (u2 (length pool + 1), rest.0, refl, refl, rest.1)))
