-- Defines the names of fresh files.
use Rattle.std.specs.Prelude.{ℕ, Bool, false, List, ◌++◌, codes}
use Rattle.std.specs.Fmt.{digits}
use Rattle.std.specs.Path.{path_with_file_name}

-- Returns the path of the fresh file of a number: it is in the folder of a path, and its name is `.jvmx-` and the number
-- in hexadecimal digits.
abbrev pub path_beside : List ℕ → ℕ → List ℕ
path_beside path number = path_with_file_name path (codes ".jvmx-" ++ digits 16 false number)
