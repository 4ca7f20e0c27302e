use Rattle.std.proofs.Common.{◌≡◌, ℕ, List, sym, subst, ◌∙◌, subst₂}
use Rattle.velodrome.specs.Cycles.{AreAtomic, IsCycle}
use Rattle.velodrome.specs.Rearrangements.{IsRearrangement, IsSerial}
use Rattle.serial_order.specs.Serial.{AreSerialOf}
use Rattle.atom_graph.specs.Checking.{Fed, state_of_fed}
use Rattle.atom_graph.specs.StoredTrace.{fed_of}
use Rattle.atom_graph.proofs.Judged.{none_found, serial_none, serial_some, some_found}
use Rattle.atom_graph.proofs.checker.Checker.serial.Goals as goal

pub returns-then-is_some : goal.returns-then-is_some
returns-then-is_some c =
    let a = c.self.inside.trace in
    let v = c.self.inside.watch in
    let found = some_found a v c.self.invariant (sym c.is_some.ensures ∙ c.if-is_some.true) in
    subst (λ (fed : Fed). ((ts : List ℕ) × IsCycle (state_of_fed fed).events ts) × ((numbers : List ℕ) → IsRearrangement (state_of_fed fed).events numbers → ⊥)) c.self.view_is
    (serial_none a v c.self.invariant found.0 found.1)

pub returns : goal.returns
returns c =
    let a = c.self.inside.trace in
    let v = c.self.inside.watch in
    let order = c.in_ok-order.order.items in
    let numbers = c.in_ok-numbers.numbers in
    let none = none_found a v c.self.invariant (sym c.is_some.ensures ∙ c.if-is_some.false) in
    let are : AreSerialOf a.transactions.items order numbers = subst₂ (λ ts os. AreSerialOf ts os numbers) c.as_slice.ensures.value c.as_slice-2.ensures.value c.in_ok-numbers.ensures in
    let copied : c.in_ok-from_slice.field-0.items ≡ numbers = c.in_ok-from_slice.ensures.items ∙ c.as_slice-3.ensures in
    subst (λ (fed : Fed). AreAtomic (state_of_fed fed).events × IsSerial (state_of_fed fed).events c.in_ok-from_slice.field-0.items) c.self.view_is
    (subst (λ (ns : List ℕ). AreAtomic (state_of_fed (fed_of a)).events × IsSerial (state_of_fed (fed_of a)).events ns) (sym copied) (serial_some a v c.self.invariant order numbers none c.in_ok-order.ensures are))
