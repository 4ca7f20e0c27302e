-- Each blank has a ledger of its own.
use Rattle.machine_tests.proofs.sessions.run_within.Given as goal

abbrev pub ghosts-run_counted-I-Ledger : goal.ghosts-run_counted-I-Ledger
ghosts-run_counted-I-Ledger b = record { name = b.input.name; parts = b.input.parts }

abbrev pub ghosts-run_counted-O-Ledger : goal.ghosts-run_counted-O-Ledger
ghosts-run_counted-O-Ledger b = record { name = b.output.name; parts = b.output.parts }
