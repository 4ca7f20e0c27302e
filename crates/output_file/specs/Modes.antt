-- Defines the mode of a file that takes another's place.
use Rattle.std.specs.Prelude.{ℕ, Bool, bit_and, if◌then◌else◌}

-- Returns the permissions of a mode. The bits that set the user and the group, and the sticky bit, stay only with the
-- same owner.
abbrev pub kept_mode : Bool → ℕ → ℕ
kept_mode has_same_owner mode = bit_and mode (if has_same_owner then 0o7777 else 0o777)
