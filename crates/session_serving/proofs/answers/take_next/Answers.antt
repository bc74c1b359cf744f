use Rattle.session_serving.proofs.Common.{true, false}
use Rattle.session_serving.proofs.ServeLemmas.{says-then, says_put}
use Rattle.session_serving.proofs.answers.take_next.Goals as goal

pub returns-in_default-clause-says : goal.returns-in_default-clause-says
returns-in_default-clause-says g c = says_put _ _ _ false c.in_default.ensures.writes

pub returns-in_default-next-clause-says : goal.returns-in_default-next-clause-says
returns-in_default-next-clause-says g c = says_put _ _ _ true c.in-Ok.ensures.writes

pub returns-in_default-answer-clause-says : goal.returns-in_default-answer-clause-says
returns-in_default-answer-clause-says g c = says-then _ _ _ _ _ _ false (says_put _ _ _ true c.in-Ok.ensures.writes) c.in_default-answer.ensures.says

pub returns-then-has_failed-clause-says : goal.returns-then-has_failed-clause-says
returns-then-has_failed-clause-says g c = says-then _ _ _ _ _ _ true (says_put _ _ _ true c.in-Ok.ensures.writes) c.in-Ok-answer.ensures.says

pub returns-in_default-put_held-clause-says : goal.returns-in_default-put_held-clause-says
returns-in_default-put_held-clause-says g c = says-then _ _ _ _ _ _ false (says-then _ _ _ _ _ _ true (says_put _ _ _ true c.in-Ok.ensures.writes) c.in-Ok-answer.ensures.says) c.in_default-put_held.ensures.says

pub returns-clause-says : goal.returns-clause-says
returns-clause-says g c = says-then _ _ _ _ _ _ true (says-then _ _ _ _ _ _ true (says_put _ _ _ true c.in-Ok.ensures.writes) c.in-Ok-answer.ensures.says) c.in-Ok-put_held.ensures.says
