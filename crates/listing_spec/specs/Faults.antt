-- Defines the results of calls that may fail.
use Rattle.std.specs.Prelude.{◌≡◌, Result, Ok, Err}
use Rattle.listing_spec.specs.declared.fault.ListFault.{ListFault}
use Rattle.listing_spec.specs.declared.fault.ListFault.TheVariants as fault

-- The fault is that of the definition. If memory ran out, it states nothing about the definition.
abbrev pub Fails : {A : Type 0} → ListFault → Result A ListFault → Type 0
Fails fault.Name wanted = wanted ≡ Err fault.Name
Fails fault.Float wanted = wanted ≡ Err fault.Float
Fails fault.Memory wanted = Unit {0}

-- The result is that of the definition, unless memory ran out.
abbrev pub Lists : {A : Type 0} → Result A ListFault → Result A ListFault → Type 0
Lists (Ok x) wanted = wanted ≡ Ok x
Lists (Err e) wanted = Fails e wanted
