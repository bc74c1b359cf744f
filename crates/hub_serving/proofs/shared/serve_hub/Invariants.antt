use Rattle.hub_serving.proofs.shared.serve_hub.Given as goal

abbrev pub ghosts-serve_with_ledger : goal.ghosts-serve_with_ledger
ghosts-serve_with_ledger g a = record { name = a.setup.blank.name; parts = a.setup.blank.parts }
