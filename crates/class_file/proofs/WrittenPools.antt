-- The constant pool as it is written (JVMS 4.4). Each entry has one spelling.
use Rattle.std.proofs.Common.{◌≡◌, ℕ, ◌+◌, ◌^◌, ◌<◌, List, ◌∷◌, length, refl, sym, ap, ◌∙◌}
use Rattle.std.specs.Prelude.{ℤ}
use Rattle.std.specs.List.{flat_map}
use mir.Val.{bits}
use Rattle.std.specs.Int.{Width, w32, w64, cast_signed, cast_unsigned}
use Rattle.std.proofs.lemmas.Int.{of_z-to_z}
use Rattle.jvms_file.specs.declared.class_file.Constant.{Constant}
use Rattle.jvms_file.specs.declared.class_file.Constant.TheVariants as constant
use Rattle.jvms_file.specs.Spelling.{u2, u4, u8, SpellsConstant, SpellsPool}
use Rattle.const_pool.specs.Writing.{constant_bytes, pool_bytes}
use Rattle.class_file.proofs.WrittenLists.{InPlace, one_spelling, joined_size, in_order_written}

-- A signed number is written as the number that it was read from.
as_read : (w : Width) (n : ℤ) (m : ℕ) → m < 2 ^ bits w → n ≡ cast_signed w m → m ≡ cast_unsigned w n
as_read w n m fits is = sym (ap (cast_unsigned w) is ∙ of_z-to_z w m fits)

-- An entry has one spelling.
pub constant_spelling : (bytes : List ℕ) (c : Constant) → SpellsConstant bytes c → bytes ≡ constant_bytes c
unfolding constant_bytes
constant_spelling bytes (constant.Utf8 text) s = s.2
constant_spelling bytes (constant.Integer n) s = s.3 ∙ ap (λ (m : ℕ). 3 ∷ u4 m) (as_read w32 n s.0 s.1 s.2)
constant_spelling bytes (constant.Float n) s = s.1
constant_spelling bytes (constant.Long n) s = s.3 ∙ ap (λ (m : ℕ). 5 ∷ u8 m) (as_read w64 n s.0 s.1 s.2)
constant_spelling bytes (constant.Double n) s = s.1
constant_spelling bytes (constant.Class name) s = s.1
constant_spelling bytes (constant.String text) s = s.1
constant_spelling bytes (constant.Field c n) s = s.2
constant_spelling bytes (constant.Method c n) s = s.2
constant_spelling bytes (constant.InterfaceMethod c n) s = s.2
constant_spelling bytes (constant.NameAndType n d) s = s.2
constant_spelling bytes constant.Unusable s = s

-- An entry as it is written.
constant_written : (bytes : List ℕ) (c : Constant) → SpellsConstant bytes c → InPlace (λ w. SpellsConstant w c) bytes (constant_bytes c)
constant_written bytes c s = one_spelling (λ w. SpellsConstant w c) bytes (constant_bytes c) (constant_spelling bytes c s) s

-- A pool as it is written.
pub pool_written : (bytes : List ℕ) (pool : List Constant) → SpellsPool bytes pool → InPlace (λ w. SpellsPool w pool) bytes (pool_bytes pool)
pool_written bytes pool s =
    let two = s.3 in
    let entries = in_order_written SpellsConstant constant_bytes constant_written pool two.1 two.4 in
    record {
      spells = (s.0, s.1, s.2, (u2 (length pool + 1), flat_map constant_bytes pool, refl, refl, entries.spells));
      size = joined_size (u2 (length pool + 1)) (flat_map constant_bytes pool) two.0 two.1 (ap length (sym two.3)) entries.size ∙ ap length (sym two.2);
    }
