-- The rows so far, and those that remain.
use Rattle.pictures.proofs.RowLaws.{AreRows}
use Rattle.pictures.proofs.rows.rows_of.Given as goal

abbrev pub invariant-loop-place : goal.invariant-loop-place
invariant-loop-place l = AreRows l.rows.items l.event l.place l.items l.rest l.transactions
