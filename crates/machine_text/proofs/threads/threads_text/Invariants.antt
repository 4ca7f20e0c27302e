-- The lines of the threads before the number are followed by the rest.
use Rattle.std.proofs.Common.{◌≡◌, ◌++◌, drop, flat_map}
use Rattle.std.specs.List.{enumerate_from}
use Rattle.std.specs.String.{string_bytes}
use Rattle.machine_text.specs.Threads.{thread_line, threads_text}
use Rattle.machine_text.proofs.threads.threads_text.Given as goal

abbrev pub invariant-loop-t : goal.invariant-loop-t
invariant-loop-t l =
    string_bytes l.text
    ++ flat_map (λ numbered. thread_line l.machine numbered.0 numbered.1) (enumerate_from l.t (drop l.t l.machine.state.threads))
    ≡ threads_text l.machine
