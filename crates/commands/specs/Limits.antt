-- Defines the default limits of a run.
use Rattle.jvms_machine.specs.declared.machine.Limits.{Limits}

abbrev pub default_limits : Limits
default_limits = record { objects = 1000000; elements = 10000000; threads = 64; frames = 1024 }
