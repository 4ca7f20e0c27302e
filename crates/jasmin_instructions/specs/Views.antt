-- Maps borrowed parts of a line to the values of the definitions.
use Rattle.std.specs.Prelude.{ℕ, List}
use Rattle.std.specs.Borrow.{Bor}
use Rattle.jasmin.specs.declared.source.LoadedConstant.{LoadedConstant}
use Rattle.jasmin.specs.declared.source.LoadedConstant.TheVariants as loaded
use Rattle.jasmin_instructions.specs.declared.constants.BorrowedConstant.{BorrowedConstant}
use Rattle.jasmin_instructions.specs.declared.constants.BorrowedConstant.TheVariants as lent_operand

-- Returns two texts.
abbrev pub two_texts : Bor (List ℕ) × Bor (List ℕ) → List ℕ × List ℕ
two_texts p = (p.0.now, p.1.now)

-- Returns the constant that is loaded.
abbrev pub loaded_of : BorrowedConstant → LoadedConstant
loaded_of (lent_operand.Integer n) = loaded.Integer n
loaded_of (lent_operand.String t) = loaded.String t.now
loaded_of (lent_operand.Class w) = loaded.Class w.now
