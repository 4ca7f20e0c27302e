-- The arguments that a descriptor takes, by its text.
use Rattle.std.specs.Prelude.{ℕ, Bool, false, ◌==◌, ◌&&◌, ◌||◌, List, [], ◌∷◌, is_some}
use Rattle.jvms_file.specs.Descriptors.{method_type_of}
use Rattle.jvms_machine.specs.declared.machine.Argument.{Argument}
use Rattle.jvms_machine.specs.declared.machine.Argument.TheVariants as argument

-- Decides whether a letter is that of an argument's type: I, B, C, S or Z of an int, J of a long.
abbrev pub is_letter_of : Argument → ℕ → Bool
is_letter_of (argument.Int n) u = u == 73 || u == 66 || u == 67 || u == 83 || u == 90
is_letter_of (argument.Long n) u = u == 74

-- Decides whether a text begins with such a letter for each argument and then a closing parenthesis.
unfoldable pub has_letters : List ℕ → List Argument → Bool
has_letters [] arguments = false
has_letters (u ∷ us) [] = u == 41
has_letters (u ∷ us) (one ∷ arguments) = is_letter_of one u && has_letters us arguments

abbrev pub takes_all : List ℕ → List Argument → Bool
takes_all [] arguments = false
takes_all (u ∷ us) arguments = is_some (method_type_of (u ∷ us)) && has_letters us arguments
