use Rattle.session_serving.proofs.Common.{refl, rules, tests}
use Rattle.session_serving.proofs.EndLemmas.{served-ok, served-err, never-began, ok_is_no_end}
use Rattle.session_serving.proofs.serve.serve_session.Goals as goal

pub returns-in_default-clause-served : goal.returns-in_default-clause-served
returns-in_default-clause-served g c = never-began _ _ _ (λ e. absurd (search (rules, tests, e))) (λ e. absurd (search (rules, tests, e)))

pub returns-then-has_failed-clause-served : goal.returns-then-has_failed-clause-served
returns-then-has_failed-clause-served g c = never-began _ _ _ (λ _. search (rules, tests)) (ok_is_no_end _ refl)

pub returns-in-Ok-serve_reader-clause-served : goal.returns-in-Ok-serve_reader-clause-served
returns-in-Ok-serve_reader-clause-served g c = served-ok _ _ _ _ _ _ _ _ _ _ c.in-Ok.ensures.out.0 c.in-Ok-serve_reader.ensures.written c.in-Ok-serve_reader.ensures.reads

pub returns-clause-served : goal.returns-clause-served
returns-clause-served g c = served-err _ _ _ _ _ _ _ _ _ _ _ c.in-Err.fault c.in-Ok.ensures.out.0 c.in-Err.ensures.reads c.end_with.ensures.serves

pub returns-clause-explains : goal.returns-clause-explains
returns-clause-explains g c = c.end_with.ensures.explains _ _ _ _ c.in-Err.ensures.fails
