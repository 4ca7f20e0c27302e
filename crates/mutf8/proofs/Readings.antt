-- What the result of decoding implies about the spelling.
use Rattle.std.proofs.Common.{ℕ, List, Result, Ok, Err}
use Rattle.std.specs.Prelude.{IfOk, IfErr}
use Rattle.jvms_file.specs.Texts.{Codes, text_of_bytes}
use Rattle.jvms_file.proofs.TextLaws.{decoded_is_encoded, fault_is_first}
use Rattle.mutf8.specs.declared.fault.Fault.{Fault}
use Rattle.mutf8.specs.declared.fault.Fault.TheVariants.{BadUtf8, Memory}
use Rattle.mutf8.specs.Reading.{Gives, Places}

-- A decoded text is spelled by the bytes.
pub found_from : (bytes : List ℕ) (r : Result (List ℕ) Fault) → Gives r (text_of_bytes bytes) → IfOk r (λ us. Codes bytes us)
found_from bytes (Ok us) e = decoded_is_encoded bytes us e
found_from bytes (Err fault) e = tt

-- The place of a fault is a bad one.
placed : (bytes : List ℕ) (fault : Fault) → Gives (Err fault) (text_of_bytes bytes) → Places bytes fault
placed bytes (BadUtf8 at) e = let f = fault_is_first bytes at e in record { within = f.0; before = f.1; no_unit = f.2 }
placed bytes Memory e = tt

-- The place of a returned fault is a bad one.
pub bad_from : (bytes : List ℕ) (r : Result (List ℕ) Fault) → Gives r (text_of_bytes bytes) → IfErr r (λ fault. Places bytes fault)
bad_from bytes (Ok us) e = tt
bad_from bytes (Err fault) e = placed bytes fault e
