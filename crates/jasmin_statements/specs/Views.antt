-- Maps borrowed parts of a line to the values of the definitions.
use Rattle.jasmin.specs.declared.source.FieldConstant.{FieldConstant}
use Rattle.jasmin.specs.declared.source.FieldConstant.TheVariants as constant
use Rattle.jasmin_statements.specs.declared.field_constant.LentConstant.{LentConstant}
use Rattle.jasmin_statements.specs.declared.field_constant.LentConstant.TheVariants as lent_constant

-- Returns the constant of a field.
abbrev pub constant_of : LentConstant → FieldConstant
constant_of (lent_constant.Integer n) = constant.Integer n
constant_of (lent_constant.Long n) = constant.Long n
constant_of (lent_constant.String t) = constant.String t.now
