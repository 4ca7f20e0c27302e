-- The code units of UTF-16 that are halves of a supplementary character.
use Rattle.std.specs.Prelude.{ℕ, Bool, ◌&&◌, nat_le}

abbrev pub is_high : ℕ → Bool
is_high u = nat_le 0xd800 u && nat_le u 0xdbff

abbrev pub is_low : ℕ → Bool
is_low u = nat_le 0xdc00 u && nat_le u 0xdfff
