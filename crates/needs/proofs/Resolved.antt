-- The errors of a resolution, by what it finds at a place.
use Rattle.std.proofs.Common.{◌≡◌, sym, ap}
use Rattle.std.specs.Prelude.{Result, Ok, Err}
use Rattle.std.specs.Result.{result_err}
use Rattle.jvms_program.specs.declared.thrown.Thrown.{Thrown}
use Rattle.classes.specs.Places.{Resolves}

-- Both have the same error, or none.
pub same_error : {A N : Type 0} (StandsAt : A → N → Type 0) (what : Result A Thrown) (result : Result N Thrown) → Resolves StandsAt what result → result_err result ≡ result_err what
same_error StandsAt what (Ok place) stood = sym (ap result_err stood.1)
same_error StandsAt what (Err error) throws = sym (ap result_err throws)
