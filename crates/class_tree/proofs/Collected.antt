-- Proves that a loop collects the results of a list's elements.
use Rattle.std.specs.Prelude.{List, ◌++◌, Result, Ok}
use Rattle.jvms_file.specs.Results.{◌>>=◌}
use Rattle.listing_spec.specs.declared.fault.ListFault.{ListFault}

-- Returns the items before, followed by those of the rest.
abbrev pub with_items : {X : Type 0} → List X → Result (List X) ListFault → Result (List X) ListFault
with_items front listed = listed >>= λ xs. Ok (front ++ xs)
