-- Each blank has a ledger of its own.
use Rattle.jvmx.proofs.performed.Given as goal

abbrev pub ghosts-counted-I-Ledger : goal.ghosts-counted-I-Ledger
ghosts-counted-I-Ledger g a = record { name = a.input.name; parts = a.input.parts }

abbrev pub ghosts-counted-O-Ledger : goal.ghosts-counted-O-Ledger
ghosts-counted-O-Ledger g a = record { name = a.output.name; parts = a.output.parts }

abbrev pub ghosts-counted-E-Ledger : goal.ghosts-counted-E-Ledger
ghosts-counted-E-Ledger g a = record { name = a.errors.name; parts = a.errors.parts }
