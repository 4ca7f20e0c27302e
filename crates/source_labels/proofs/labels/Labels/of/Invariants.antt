use Rattle.std.proofs.Common.{◌≡◌, ◌≤◌, false, take}
use Rattle.jasmin.specs.Assembling.{repeats_label}
use Rattle.source_labels.specs.Places.{ArePlacesOf}
use Rattle.source_labels.proofs.labels.Labels.of.Given as goal

abbrev pub invariant-loop-item : goal.invariant-loop-item
invariant-loop-item l = record {
  kept : ArePlacesOf (take l.item-index l.code) l.places l.operations;
  once : repeats_label (take l.item-index l.code) ≡ false;
  few : l.operations ≤ l.item-index;
}
