use Rattle.serial_order.proofs.Verdicts.{atomic_has_no_first, one_first}
use Rattle.serial_order.proofs.laws.a_trace_has_one_verdict.Goals as goal

pub returns-clause-apart : goal.returns-clause-apart
returns-clause-apart c = λ w order first_at transactions pairs atomic cycle. atomic_has_no_first w.events first_at atomic.0 cycle.0

pub returns-clause-first : goal.returns-clause-first
returns-clause-first c = λ w m n some others pairs more here there. one_first w.events m n here.0 there.0
