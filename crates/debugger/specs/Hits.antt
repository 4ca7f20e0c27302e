-- Defines hits on a timeline.
use Rattle.std.specs.Prelude.{ℕ, Bool, List, ◌-◌, length}
use Rattle.debugger_commands.specs.declared.breakpoint.Breakpoint.{Breakpoint}
use Rattle.debugger_commands.specs.Sessions.{Session, is_hit, next_hit, hit_before}
use Rattle.debugger.specs.States.{Setting}

-- Returns a session with these choices and breakpoints.
abbrev pub session_with : List ℕ → List Breakpoint → Session
session_with choices breakpoints = record { choices = choices; position = 0; breakpoints = breakpoints; next = 1 }

-- Decides whether a position is a hit. This depends only on the choices and the breakpoints.
abbrev pub hits : Setting → List ℕ → List Breakpoint → ℕ → Bool
hits g choices breakpoints = is_hit g.program g.limits g.start (session_with choices breakpoints)

-- Returns where `continue` moves to from a position.
abbrev pub hit_after : Setting → List ℕ → List Breakpoint → ℕ → ℕ
hit_after g choices breakpoints p = next_hit (hits g choices breakpoints) p (length choices - p)

-- Returns where `rcontinue` moves to from a position.
abbrev pub nearest_before : Setting → List ℕ → List Breakpoint → ℕ → ℕ
nearest_before g choices breakpoints p = hit_before (hits g choices breakpoints) p
