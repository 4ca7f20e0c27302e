-- Commands preserve the invariant of a session.
use Rattle.std.proofs.Common.{◌≡◌, ℕ, suc, ◌+◌, ◌-◌, ◌<◌, Bool, true, false, List, [], ◌∷◌, ◌++◌, length, take, drop, nat_lt, Option, None, Some, Result, Ok, Err, if◌then◌else◌, subst, arith}
use Rattle.std.specs.List.{All}
use Rattle.std.proofs.lemmas.List.{length-append, length-take-le}
use Rattle.std.proofs.lemmas.List.Elements.{All-append, All-cons, All-nil, All-take, All-drop}
use Rattle.std.proofs.Math.Nat.{min-le_right}
use Rattle.jvms_program.specs.declared.program.Class.{Class}
use Rattle.jvms_program.specs.declared.number.MethodNumber.{MethodNumber}
use Rattle.jvms_machine.specs.declared.machine.Limits.{Limits}
use Rattle.jvms_machine.specs.Start.{Start}
use Rattle.debugger_commands.specs.declared.breakpoint.Breakpoint.{Breakpoint}
use Rattle.debugger_commands.specs.declared.command.Command.{Command}
use Rattle.debugger_commands.specs.declared.command.Command.TheVariants as command
use Rattle.debugger_commands.specs.declared.fault.DebugFault.{DebugFault}
use Rattle.debugger_commands.specs.declared.fault.DebugFault.TheVariants as fault
use Rattle.debugger_commands.specs.Sessions.{Session, IsSession, new_session, with_position, with_pick, with_breakpoint_at, without_breakpoint, breakpoint_index, method_of_place, after_continue, after_continue_back, is_hit, shows, after}
use Rattle.debugger_commands.proofs.Hits.{next_hit_within, hit_before_within}

abbrev After : Type 0
After = Result Session DebugFault

same_ok : (x y : Session) → ◌≡◌ {A = After} (Ok x) (Ok y) → x ≡ y
same_ok x y e = cc

no_ok : (e : DebugFault) (y : Session) → ◌≡◌ {A = After} (Err e) (Ok y) → ⊥
no_ok e y h = cc

moved : (x : Session) (p : ℕ) → IsSession x → IsSession (with_position x p)
moved x p is = record { position = min-le_right p (length x.choices); next = is.next; numbers = is.numbers }

pick_one : (x : Session) (t : ℕ) → IsSession x → IsSession (with_pick x t)
pick_one x t is =
    let taken = length-take-le x.position x.choices is.position in
    let all = length-append (take x.position x.choices) (t ∷ []) in
    record { position = omega (arith, taken, all); next = is.next; numbers = is.numbers }

-- Numbers below n are below the number after n.
still_below : (n : ℕ) (bs : List Breakpoint) → All (λ b. b.number < n) bs → All (λ b. b.number < n + 1) bs
still_below n bs below = λ k d inside. let here = below k d inside in omega (arith, here)

one_more : (x : Session) (i : ℕ) (n : MethodNumber) → IsSession x
    → IsSession (record x { breakpoints = x.breakpoints ++ record { number = x.next; method = n; instruction = i } ∷ []; next = x.next + 1 })
one_more x i n is =
    let P : Breakpoint → Type 0 = λ b. b.number < x.next + 1 in
    let new : Breakpoint = record { number = x.next; method = n; instruction = i } in
    record {
      position = is.position;
      next = omega arith;
      numbers = All-append P x.breakpoints (new ∷ []) (still_below x.next x.breakpoints is.numbers) (All-cons P new [] (omega arith) (All-nil P));
    }

session_if : (b : Bool) (z y : Session) (e : DebugFault) → IsSession z → (if b then Ok z else Err e) ≡ Ok y → IsSession y
session_if true z y e is h = subst IsSession (same_ok z y h) is
session_if false z y e is h = absurd (no_ok e y h)

broken : (x y : Session) (i : ℕ) (n : Option MethodNumber) → IsSession x → with_breakpoint_at x i n ≡ Ok y → IsSession y
broken x y i None is h = absurd (no_ok fault.NoPlace y h)
broken x y i (Some n) is h = session_if (nat_lt x.next 4294967296) _ y fault.NoBreakpoint (one_more x i n is) h

gone : (x y : Session) (i : Option ℕ) → IsSession x → without_breakpoint x i ≡ Ok y → IsSession y
gone x y None is h = absurd (no_ok fault.NoBreakpoint y h)
gone x y (Some i) is h =
    let P : Breakpoint → Type 0 = λ b. b.number < x.next in
    let left = All-append P (take i x.breakpoints) (drop (suc i) x.breakpoints) (All-take P i x.breakpoints is.numbers) (All-drop P (suc i) x.breakpoints is.numbers) in
    subst IsSession (same_ok _ y h) (record { position = is.position; next = is.next; numbers = left })

continued_session : (program : List Class) (limits : Limits) (start : Start) (x : Session) → IsSession x → IsSession (after_continue program limits start x)
continued_session program limits start x is =
    let within = next_hit_within (is_hit program limits start x) x.position (length x.choices - x.position) in
    record { position = omega (arith, within.1, is.position); next = is.next; numbers = is.numbers }

gone_back : (program : List Class) (limits : Limits) (start : Start) (x : Session) → IsSession x → IsSession (after_continue_back program limits start x)
gone_back program limits start x is =
    let within = hit_before_within (is_hit program limits start x) x.position in
    record { position = omega (arith, within, is.position); next = is.next; numbers = is.numbers }

shown : {X : Type 0} (x y : Session) (what : Option X) (e : DebugFault) → IsSession x → shows x what e ≡ Ok y → IsSession y
shown x y None e is h = absurd (no_ok e y h)
shown x y (Some what) e is h = subst IsSession (same_ok x y h) is

-- A command leads from a session to a session.
pub stays : (program : List Class) (limits : Limits) (start : Start) (x y : Session) (c : Command) → IsSession x → after program limits start x c ≡ Ok y → IsSession y
stays program limits start x y (command.Step n) is h = subst IsSession (same_ok _ y h) (moved x (x.position + n) is)
stays program limits start x y (command.Back n) is h = subst IsSession (same_ok _ y h) (moved x (x.position - n) is)
stays program limits start x y (command.Goto n) is h = subst IsSession (same_ok _ y h) (moved x n is)
stays program limits start x y command.Continue is h = subst IsSession (same_ok _ y h) (continued_session program limits start x is)
stays program limits start x y command.ReverseContinue is h = subst IsSession (same_ok _ y h) (gone_back program limits start x is)
stays program limits start x y (command.Pick t) is h = subst IsSession (same_ok _ y h) (pick_one x t is)
stays program limits start x y (command.Break place) is h = broken x y place.instruction (method_of_place program place) is h
stays program limits start x y (command.Delete k) is h = gone x y (breakpoint_index k x.breakpoints) is h
stays program limits start x y command.Threads is h = subst IsSession (same_ok x y h) is
stays program limits start x y (command.Frames t) is h = shown x y _ fault.NoThread is h
stays program limits start x y (command.Object r) is h = shown x y _ fault.NoObject is h
stays program limits start x y (command.Class name) is h = shown x y _ fault.NoPlace is h
stays program limits start x y command.Trace is h = subst IsSession (same_ok x y h) is
stays program limits start x y command.Output is h = subst IsSession (same_ok x y h) is

-- A new session satisfies the invariant.
pub opens : (choices : List ℕ) → IsSession (new_session choices)
opens choices = record { position = omega arith; next = omega arith; numbers = All-nil (λ b. b.number < 1) }
