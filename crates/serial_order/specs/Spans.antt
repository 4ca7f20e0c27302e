-- Defines when events are of one transaction, by the open methods of a thread.
use Rattle.std.specs.Prelude.{◌≡◌, ℕ, true, ◌==◌, if◌then◌else◌, List, [], ◌∷◌, ◌++◌, drop, fold}
use Rattle.jvms_program.specs.declared.key.MethodKey.{MethodKey}
use Rattle.jvms_machine.specs.declared.trace.Item.{Item}
use Rattle.jvms_machine.specs.declared.trace.Item.TheVariants as item
use Rattle.velodrome.specs.Specification.{Specification}
use Rattle.velodrome.specs.Transactions.{has_atomic}

-- Returns a thread's open methods after an item, innermost first.
abbrev pub opened_by : ℕ → List MethodKey → Item → List MethodKey
opened_by t methods (item.Enter u m) = if t == u then m ∷ methods else methods
opened_by t methods (item.Exit u m) = if t == u then drop 1 methods else methods
opened_by t methods _ = methods

abbrev pub open_methods : ℕ → List Item → List MethodKey
open_methods t items = fold (opened_by t) [] items

-- Thread t has an atomic method open after `before`, and after each prefix of `between`.
abbrev pub StaysAtomic : Specification → ℕ → List Item → List Item → Type 0
StaysAtomic lines t before between = (some rest : List Item) → between ≡ some ++ rest → has_atomic lines (open_methods t (before ++ some)) ≡ true
