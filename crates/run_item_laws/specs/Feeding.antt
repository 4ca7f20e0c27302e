-- Defines which items may be fed to a checker of atomicity.
use Rattle.std.specs.Prelude.{◌≡◌, true, List, ◌∷◌, ◌++◌}
use Rattle.jvms_machine.specs.declared.trace.Item.{Item}
use Rattle.velodrome.specs.Specification.{Specification}
use Rattle.velodrome.specs.Transactions.{is_matched, trace_state_of}

-- Each exit is of its thread's innermost open method (Velodrome, section 3).
abbrev pub AreMatched : Specification → List Item → Type 0
AreMatched lines items = (before after : List Item) (i : Item) → items ≡ before ++ i ∷ after → is_matched (trace_state_of lines before) i ≡ true
