use Rattle.std.proofs.Common.{◌≡◌, ◌<◌, ap, arith}
use Rattle.departures.specs.declared.departure.Departure.{Departure}
use Rattle.schedule.specs.Listable.{one_departure}
use Rattle.schedule.proofs.Departures.{next_is_above, next_rises}
use Rattle.schedule.proofs.written.DepartureWritten.read_after.Goals as goal

pub returns-in_err-departure : goal.returns-in_err-departure
returns-in_err-departure c = rw c.from_residual.ensures (λ before _ _ d written _. c.in_err-departure.ensures d written)

pub returns-in-Some : goal.returns-in-Some
returns-in-Some c = λ before _ is_last d written rising.
    let here = c.in_ok-departure.departure in
    let same : d.position ≡ here.position = ap (λ (x : Departure). x.position) (one_departure c.args.text.now d here written c.in_ok-departure.ensures) in
    let above : c.in-Some.last.position < d.position = next_is_above before c.in-Some.last d (rw c.in-Some.is at is_last) rising in
    omega arith

pub returns-in_default : goal.returns-in_default
returns-in_default c = λ before rising is_last. (c.in_ok-departure.ensures, next_rises before c.in-Some.last c.in_ok-departure.departure rising (rw c.in-Some.is at is_last) (omega arith))
