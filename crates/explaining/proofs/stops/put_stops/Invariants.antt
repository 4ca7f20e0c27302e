-- The threads so far, and those that are left.
use Rattle.std.proofs.Common.{◌≡◌, ◌-◌, ◌++◌, flat_map}
use Rattle.std.specs.List.{range_with_len}
use Rattle.std.specs.String.{string_bytes}
use Rattle.explaining.specs.Stops.{stop_line, stop_lines}
use Rattle.explaining.proofs.stops.put_stops.Given as goal

abbrev pub invariant-loop-thread : goal.invariant-loop-thread
invariant-loop-thread l =
    string_bytes l.out
    ++ flat_map (stop_line l.sources.first l.sources.files.now l.machine) (range_with_len l.thread (l.thread-end - l.thread))
    ≡ string_bytes l.initial.out ++ stop_lines l.sources.first l.sources.files.now l.machine
