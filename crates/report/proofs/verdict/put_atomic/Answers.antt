use Rattle.std.proofs.lemmas.List.{append_assoc}
use Rattle.report.proofs.verdict.put_atomic.Goals as goal

pub returns : goal.returns
returns c = rw (c.in_ok-push_str-2.ensures.bytes, c.in_ok-put_counts.ensures, c.in_ok-push_str.ensures.bytes) (simp append_assoc)
