-- Effects that take no memory beside that for their items, and effects that at most store a value.
use Rattle.std.specs.Prelude.{◌≡◌, ℕ, List, []}
use Rattle.jvms_machine.specs.declared.action.Effect.{Effect}
use Rattle.jvms_machine.specs.declared.action.Effect.TheVariants as effect
use Rattle.jvms_machine.specs.Output.{line_bytes}
use Rattle.jvms_machine.specs.State.{State}

-- An effect creates no object, starts no thread and prints no byte.
abbrev pub AffectsNone : State → Effect (List ℕ) → Type 0
AffectsNone s (effect.Creates what) = ⊥
AffectsNone s (effect.Prints what ends_line) = line_bytes s.heap what ends_line ≡ []
AffectsNone s (effect.Starts r u) = ⊥
AffectsNone s _ = Unit {0}

-- An effect stores a value in a field or an element, or only gives an item.
abbrev pub PutsAtMost : Effect (List ℕ) → Type 0
PutsAtMost (effect.Creates what) = ⊥
PutsAtMost (effect.Prints what ends_line) = ⊥
PutsAtMost (effect.Locks monitor) = ⊥
PutsAtMost (effect.Unlocks monitor) = ⊥
PutsAtMost (effect.Starts r u) = ⊥
PutsAtMost (effect.Notifies r all) = ⊥
PutsAtMost _ = Unit {0}
