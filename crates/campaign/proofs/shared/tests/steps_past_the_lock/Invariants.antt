use Rattle.campaign.proofs.shared.tests.steps_past_the_lock.Given as goal

abbrev pub ghosts-run_both-C-Ledger : goal.ghosts-run_both-C-Ledger
ghosts-run_both-C-Ledger g a = record { name = a.blank.name; parts = a.blank.parts }

abbrev pub ghosts-run_both-C-Campaign : goal.ghosts-run_both-C-Campaign
ghosts-run_both-C-Campaign g a = record { program = a.program.now; plan = a.plan.now }
