-- The events so far.
use Rattle.std.proofs.Common.{◌≡◌, map, take}
use Rattle.report.specs.SerialTexts.{events_of}
use Rattle.report.proofs.serial.events_of.Given as goal

abbrev pub invariant-loop-item : goal.invariant-loop-item
invariant-loop-item l = map (λ e. e.now) l.events.items ≡ events_of (take l.item-index l.items)
