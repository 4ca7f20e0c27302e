use Rattle.std.proofs.lemmas.List.{append_assoc}
use Rattle.report.proofs.fed_trace.FedTrace.put_event_name.Goals as goal

pub returns : goal.returns
returns c = rw (c.in_ok-put_turn.ensures, c.turn_of.ensures, c.in_ok-put_counted.ensures) (simp append_assoc)
