-- Defines what a fault states about the code whose labels were collected.
use Rattle.std.specs.Prelude.{◌≡◌, true, List}
use Rattle.jasmin.specs.declared.source.CodeItem.{CodeItem}
use Rattle.jasmin.specs.Assembling.{repeats_label}
use Rattle.source_labels.specs.declared.fault.LabelsFault.{LabelsFault}
use Rattle.source_labels.specs.declared.fault.LabelsFault.TheVariants as fault

-- A label is defined twice, or memory ran out.
abbrev pub Explains : LabelsFault → List CodeItem → Type 0
Explains fault.Repeated items = repeats_label items ≡ true
Explains fault.Memory items = Unit {0}
