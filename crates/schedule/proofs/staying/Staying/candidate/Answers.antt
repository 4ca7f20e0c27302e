use Rattle.std.proofs.Common.{arith, drop}
use Rattle.schedule.proofs.Stays.{last_for}
use Rattle.schedule.proofs.staying.Staying.candidate.Goals as goal

pub returns-clause-next : goal.returns-clause-next
returns-clause-next g c =
    let state = c.args.self.now in
    let default = c.default_turns-turns.ensures (omega arith) in
    rw default.0 (last_for c.default_turns-turns.result (g.T.Threads.count c.args.threads.now) state.before state.last (drop state.place state.departures) default.1 (omega arith))
