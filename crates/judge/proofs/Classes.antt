-- Classes that are read one after another.
use Rattle.std.proofs.Common.{◌≡◌, ℕ, suc, List, [], ◌∷◌, ◌++◌, refl, ap, append-nil}
use Rattle.std.specs.Prelude.{Result, Ok, Err}
use Rattle.std.proofs.lemmas.List.{append_assoc}
use Rattle.jvms_file.specs.declared.class_file.ClassFile.{ClassFile}
use Rattle.jvms_file.specs.Results.{◌>>=◌}
use Rattle.inputs.specs.declared.input.Input.{Input}
use Rattle.inputs.specs.Inputs.{NoClass, class_in}
use Rattle.judge.specs.Programs.{NotRun, no_class, classes_from}

-- Returns the classes that were read followed by the remaining ones.
abbrev pub still : List ClassFile → Result (List ClassFile) NotRun → Result (List ClassFile) NotRun
still seen (Ok classes) = Ok (seen ++ classes)
still seen (Err why) = Err why

still_none : (r : Result (List ClassFile) NotRun) → still [] r ≡ r
still_none (Ok classes) = refl
still_none (Err why) = refl

pub still_all : (files : List Input) → still [] (classes_from 0 files) ≡ classes_from 0 files
still_all files = still_none (classes_from 0 files)

still_with : (seen : List ClassFile) (class : ClassFile) (r : Result (List ClassFile) NotRun) → still (seen ++ class ∷ []) r ≡ still seen (r >>= λ classes. Ok (class ∷ classes))
still_with seen class (Ok classes) = ap Ok (append_assoc seen (class ∷ []) classes)
still_with seen class (Err why) = refl

-- One more class is read.
pub still_more : (seen : List ClassFile) (file : ℕ) (input : Input) (rest : List Input) (class : ClassFile) → class_in input ≡ Ok class → still (seen ++ class ∷ []) (classes_from (suc file) rest) ≡ still seen (classes_from file (input ∷ rest))
still_more seen file input rest class read_so = rw read_so (still_with seen class (classes_from (suc file) rest))

-- The next file is no class.
pub still_fails : (seen : List ClassFile) (file : ℕ) (input : Input) (rest : List Input) (why : NoClass) → class_in input ≡ Err why → still seen (classes_from file (input ∷ rest)) ≡ Err (no_class file why)
still_fails seen file input rest why read_so = rw read_so refl

-- No file is left.
pub still_done : (seen : List ClassFile) (file : ℕ) → still seen (classes_from file []) ≡ Ok seen
still_done seen file = ap Ok (append-nil seen)
