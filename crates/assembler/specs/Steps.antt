-- Defines the results of steps that add entries to a pool. A step returns what a definition yields, and leaves the
-- definition's pool, unless memory ran out.
use Rattle.std.specs.Prelude.{◌≡◌, List, [], ◌∷◌, Option, Some, None, Result, Ok, Err}
use Rattle.jvms_file.specs.declared.class_file.Constant.{Constant}
use Rattle.pool_entries.specs.declared.fault.EntryFault.{EntryFault}
use Rattle.pool_entries.specs.Entries.{Fails}
use Rattle.assembly.specs.declared.fault.AsmFault.{AsmFault}
use Rattle.assembly.specs.Faults.{Answers}

-- The result of a step that adds entries is that of the definition. `view` maps the result to the definition's value.
abbrev pub Enters : {V A : Type 0} → (V → A) → Result (A × List Constant) EntryFault → Result V EntryFault → List Constant → Type 0
Enters view asked (Ok v) new = asked ≡ Ok (view v, new)
Enters view asked (Err e) new = Fails e asked

-- The result of a step that may find a fault of the source too is that of the definition.
abbrev pub Assembles : {V A : Type 0} → (V → A) → Result (A × List Constant) AsmFault → Result V AsmFault → List Constant → Type 0
Assembles view asked (Ok v) new = asked ≡ Ok (view v, new)
Assembles view asked (Err e) new = Answers (Err e) asked

-- Returns an optional value as a list.
abbrev pub list_of : {A : Type 0} → Option A → List A
list_of None = []
list_of (Some a) = a ∷ []
