-- The last throw so far, or that of the choices that are left.
use Rattle.std.proofs.Common.{◌≡◌, ◌+◌, drop}
use Rattle.std.specs.String.{string_bytes}
use Rattle.explaining.specs.Throws.{last_throw, no_throw}
use Rattle.explaining.proofs.throws.last_throw.Given as goal

abbrev pub invariant-loop-place : goal.invariant-loop-place
invariant-loop-place l =
    last_throw l.sources.first l.sources.files.now l.thread
    (record { exception = l.last.exception; line = string_bytes l.last.line }) (l.place + 1) l.machine (drop l.place l.choices)
    ≡ last_throw l.sources.first l.sources.files.now l.thread no_throw 1 l.fn.machine l.choices
