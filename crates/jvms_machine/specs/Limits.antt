-- The limits of a run.
use Rattle.std.specs.Prelude.{ℕ, Bool, ◌&&◌, nat_le}
use Rattle.jvms_machine.specs.declared.machine.Limits.{Limits}

abbrev pub is_between : ℕ → ℕ → ℕ → Bool
is_between least most n = nat_le least n && nat_le n most

abbrev pub are_limits : Limits → Bool
are_limits l =
    is_between 4 16777216 l.objects && is_between 0 268435456 l.elements && is_between 1 1024 l.threads
    && is_between 1 65536 l.frames
