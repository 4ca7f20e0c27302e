use Rattle.std.proofs.lemmas.List.{append_assoc}
use Rattle.report.proofs.verdict.put_counts.Goals as goal

pub returns : goal.returns
returns c = rw (c.in_ok-put_counted-2.ensures, c.in_ok-put_counted.ensures) (simp append_assoc)
