-- Texts to which something was appended (own).
use Rattle.std.specs.Prelude.{◌≡◌, ℕ, ◌<◌, List, [], ◌∷◌, ◌++◌}

-- A text is empty, or begins with an ASCII character.
abbrev pub BeginsInAscii : List ℕ → Type 0
BeginsInAscii [] = Unit {0}
BeginsInAscii (byte ∷ bytes) = byte < 128

-- The text is still there. It is followed by nothing, or by a text that begins with an ASCII character.
pub record IsAppended (before now : List ℕ) : Type 0 where
  pub put : List ℕ
  pub ascii : BeginsInAscii put
  pub split : now ≡ before ++ put
