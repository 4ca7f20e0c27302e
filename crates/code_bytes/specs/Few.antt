-- Bounds the operands of instructions whose sizes fit code.
use Rattle.std.specs.Prelude.{◌≤◌, List, length}
use Rattle.std.specs.List.{AllByRecursion}
use Rattle.jasmin.specs.declared.source.Operation.{Operation}
use Rattle.jasmin.specs.declared.source.Operation.TheVariants as operation

-- A tableswitch has at most as many labels as code has bytes.
abbrev pub IsFew : Operation → Type 0
IsFew (operation.Table lines) = length lines.labels ≤ 65535
IsFew _ = Unit {0}

abbrev pub AreFew : List Operation → Type 0
AreFew os = AllByRecursion IsFew os
