use Rattle.session_lanes.proofs.next.serve_next.Given as goal

abbrev pub ghosts-serve_begun : goal.ghosts-serve_begun
ghosts-serve_begun g a = record { began = a.start.pass }
