-- The tables give each method the decision of the lines.
use Rattle.std.specs.Prelude.{◌≡◌, false, List}
use Rattle.jvms_program.specs.declared.key.MethodKey.{MethodKey}
use Rattle.velodrome.specs.declared.specification.SpecificationLine.{SpecificationLine}
use Rattle.velodrome.specs.Specification.{last_decision}
use Rattle.atom_spec.specs.declared.table.Table.{Table}
use Rattle.atom_spec.specs.Tables.{decision_of}

pub record IsTableOf (table : Table) (lines : List SpecificationLine) : Type 0 where
  pub agrees : (m : MethodKey) → decision_of table m ≡ last_decision false lines m
