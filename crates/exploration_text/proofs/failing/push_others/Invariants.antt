use Rattle.std.proofs.Common.{take, ◌++◌, ◌≡◌}
use Rattle.std.specs.List.{flat_map}
use Rattle.std.specs.String.{string_bytes}
use Rattle.exploration_text.specs.Texts.{next_departure_text}
use Rattle.exploration_text.proofs.failing.push_others.Given as goal

abbrev pub invariant-loop-departure : goal.invariant-loop-departure
invariant-loop-departure l =
    string_bytes l.text ≡ string_bytes l.fn.text ++ flat_map next_departure_text (take l.departure-index l.departures)
