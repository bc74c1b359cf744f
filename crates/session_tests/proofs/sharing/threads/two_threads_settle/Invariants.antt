use Rattle.session_tests.proofs.sharing.threads.two_threads_settle.Given as goal

abbrev pub ghosts-run_two : goal.ghosts-run_two
ghosts-run_two g a = record { name = a.blank.name; parts = a.blank.parts }
