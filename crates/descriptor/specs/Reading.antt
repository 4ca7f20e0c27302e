-- What a parser that allocates memory returns, compared with what a text spells.
use Rattle.std.specs.Prelude.{◌≡◌, Option, Some, None, Result, Ok, Err}
use Rattle.descriptor.specs.declared.fault.DescriptorFault.{DescriptorFault}
use Rattle.descriptor.specs.declared.fault.DescriptorFault.TheVariants as faults

-- The result, seen by a view, is what the text spells, or Malformed if it spells nothing. If memory ran out it is
-- neither.
abbrev pub IsReadBy : {X Y : Type 0} → (X → Y) → Result X DescriptorFault → Option Y → Type 0
IsReadBy view (Ok x) spelled = spelled ≡ Some (view x)
IsReadBy view (Err faults.Malformed) spelled = spelled ≡ None
IsReadBy view (Err faults.Memory) spelled = Unit {0}

-- The result is what the text spells.
abbrev pub IsRead : {X : Type 0} → Result X DescriptorFault → Option X → Type 0
IsRead answer spelled = IsReadBy (λ x. x) answer spelled
