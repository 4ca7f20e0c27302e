-- The parts of a machine's threads.
use Rattle.std.proofs.Common.{◌≡◌, ℕ, zero, suc, ◌<◌, List, [], ◌∷◌, length, Option, Some, None, refl, arith}
use Rattle.std.specs.List.{slice_get}
use Rattle.std.specs.Option.{option_and_then}
use Rattle.jvms_machine.specs.State.{Thread}
use Rattle.machine.specs.Machine.{Machine}
use Rattle.machine.specs.Views.{thread_at}
use Rattle.machine_text.specs.Parts.{frames_of, if_there, line_of_thread}
use Rattle.machine_text.specs.Threads.{thread_line}

-- A frame of a thread is one of its frames.
pub frame_is : (o : Option Thread) (depth : ℕ) →
    option_and_then (λ x. slice_get x.frames depth) o ≡ slice_get (frames_of o) depth
frame_is None depth = refl
frame_is (Some thread) depth = refl

-- A list has an item at each index below its length.
there : {X : Type 0} (xs : List X) (i : ℕ) → i < length xs → (x : X) × (slice_get xs i ≡ Some x)
there [] i h = absurd (omega arith)
there (x ∷ xs) zero h = (x, refl)
there (x ∷ xs) (suc i) h = there xs i (omega arith)

-- The line of a started thread, by its parts.
pub line_is : (m : Machine) (t : ℕ) → t < length m.state.threads →
    line_of_thread m t ≡ if_there (thread_line m t) (thread_at m t)
line_is m t h = let found = there m.state.threads t h in rw found.1 refl
