use Rattle.campaign.proofs.run.run_campaign.Given as goal

abbrev pub ghosts-run_named-C-Ledger : goal.ghosts-run_named-C-Ledger
ghosts-run_named-C-Ledger g a = record { name = a.blank.name; parts = a.blank.parts }

abbrev pub ghosts-run_named-C-Campaign : goal.ghosts-run_named-C-Campaign
ghosts-run_named-C-Campaign g a = record { program = a.program.now; plan = a.plan.now }
