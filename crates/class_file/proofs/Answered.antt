-- What a result implies, by the laws between reading and the grammar.
use Rattle.std.proofs.Common.{◌≡◌, ℕ, zero, suc, List, [], ◌∷◌, Result, Ok, Err, IfOk, sym, subst, get_or, Fits, w8, arith}
use Rattle.jvms_file.specs.declared.class_file.ClassFile.{ClassFile}
use Rattle.jvms_file.specs.declared.fault.ClassFault.{ClassFault}
use Rattle.jvms_file.specs.declared.fault.ReadError.{ReadError}
use Rattle.jvms_file.specs.ClassFile.{read}
use Rattle.jvms_file.specs.Reading.{Gives}
use Rattle.jvms_file.specs.Spelling.{Spells}
use Rattle.classfile_laws.proofs.Numbers.{IsBytes}
use Rattle.classfile_laws.proofs.Classes.{spelled_is_read, read_is_spelled}
use Rattle.class_file.specs.Spelled.{HasSpelling}
use Rattle.class_file.specs.Writing.{class_bytes}
use Rattle.class_file.proofs.Written.{written_spells}

-- The numbers of a slice of bytes are bytes.
are_bytes : (bytes : List ℕ) → ((i : ℕ) → Fits w8 (get_or bytes i 0)) → IsBytes bytes
are_bytes [] fit = tt
are_bytes (b ∷ bytes) fit = (omega (arith, fit zero), are_bytes bytes (λ i. fit (suc i)))

-- A class that is read from a slice of bytes is spelled by them.
pub read_found : (bytes : List ℕ) (c : ClassFile) → ((i : ℕ) → Fits w8 (get_or bytes i 0)) → read bytes ≡ Ok c → Spells bytes c
read_found bytes c fit e = read_is_spelled bytes c (are_bytes bytes fit) e

-- A class that the bytes spell is read.
pub read_only : (bytes : List ℕ) (r : Result ClassFile ReadError) → Gives (λ c. c) r (read bytes) → (c : ClassFile) → Spells bytes c → Gives (λ d. d) r (Ok c)
read_only bytes r given c spells = subst (λ (read : Result ClassFile ClassFault). Gives (λ d. d) r read) (spelled_is_read bytes c spells) given

-- The bytes that are written of a class that has a spelling spell it.
pub write_spells : {V E : Type 0} (items : V → List ℕ) (r : Result V E) (c : ClassFile) → HasSpelling c → IfOk r (λ v. items v ≡ class_bytes c) → IfOk r (λ v. Spells (items v) c)
write_spells items (Ok v) c has written = subst (λ (bytes : List ℕ). Spells bytes c) (sym written) (written_spells has.0 c has.1)
write_spells items (Err e) c has written = tt
