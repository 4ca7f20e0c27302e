-- Defines what contracts see of one thread.
use Rattle.std.specs.Prelude.{◌≡◌, ℕ, ◌<◌, Bool, List, [], ◌∷◌, Option, None, map}
use Rattle.std.specs.List.{list_any}
use Rattle.jvms_program.specs.declared.key.MethodKey.{MethodKey}
use Rattle.thread_states.specs.declared.open.OpenMethod.{OpenMethod}

-- The open methods of a thread, innermost first, its transaction, and how many more it may enter before memory is
-- needed.
pub record Open : Type 0 where
  pub methods : List OpenMethod
  pub transaction : Option ℕ
  pub room : ℕ

abbrev pub keys_of : List OpenMethod → List MethodKey
keys_of methods = map (λ o. o.method) methods

abbrev pub any_atomic : List OpenMethod → Bool
any_atomic methods = list_any (λ o. o.is_atomic) methods

-- Each method is marked as inner if one of those around it is atomic.
abbrev pub AreInner : List OpenMethod → Type 0
AreInner [] = Unit {0}
AreInner (o ∷ methods) = (o.is_inner ≡ any_atomic methods) × AreInner methods

-- Nothing is open, and there is memory for a method.
abbrev pub IsRoomy : Open → Type 0
IsRoomy o = (o.methods ≡ []) × (o.transaction ≡ None) × (0 < o.room)
