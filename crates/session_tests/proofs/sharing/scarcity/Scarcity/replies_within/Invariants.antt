use Rattle.session_tests.proofs.sharing.scarcity.Scarcity.replies_within.Given as goal

abbrev pub ghosts-run : goal.ghosts-run
ghosts-run g a = record { name = a.blank.name; parts = a.blank.parts }
