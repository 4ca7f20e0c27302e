-- What the decoder promises, unless memory runs out.
use Rattle.std.specs.Prelude.{◌≡◌, ◌≢◌, ℕ, ◌<◌, List, ◌++◌, length, take, drop, Result, Ok, Err}
use Rattle.jvms_file.specs.Texts.{unit_bytes, Codes}
use Rattle.mutf8.specs.declared.fault.Fault.{Fault}
use Rattle.mutf8.specs.declared.fault.Fault.TheVariants.{BadUtf8, Memory}

-- The result is the one that decoding gives, unless memory ran out.
abbrev pub Gives : Result (List ℕ) Fault → Result (List ℕ) ℕ → Type 0
Gives (Ok us) read = read ≡ Ok us
Gives (Err (BadUtf8 at)) read = read ≡ Err at
Gives (Err Memory) read = Unit {0}

-- At this byte no unit begins, and the bytes before it code a text.
pub record IsBadAt (bytes : List ℕ) (at : ℕ) : Type 0 where
  pub within : at < length bytes
  pub before : (us : List ℕ) × Codes (take at bytes) us
  pub no_unit : (u : ℕ) (rest : List ℕ) → u < 0x10000 → drop at bytes ≢ unit_bytes u ++ rest

-- A fault names the byte of a bad unit.
abbrev pub Places : List ℕ → Fault → Type 0
Places bytes (BadUtf8 at) = IsBadAt bytes at
Places bytes Memory = Unit {0}
