-- Each blank has a ledger of its own.
use Rattle.command_cases.proofs.devices.outcome_of.Given as goal

abbrev pub ghosts-counted-I-Ledger : goal.ghosts-counted-I-Ledger
ghosts-counted-I-Ledger a b = record { name = b.input.name; parts = b.input.parts }

abbrev pub ghosts-counted-O-Ledger : goal.ghosts-counted-O-Ledger
ghosts-counted-O-Ledger a b = record { name = b.output.name; parts = b.output.parts }

abbrev pub ghosts-counted-E-Ledger : goal.ghosts-counted-E-Ledger
ghosts-counted-E-Ledger a b = record { name = b.errors.name; parts = b.errors.parts }
