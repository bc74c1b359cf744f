use Rattle.session_serving.proofs.Common.{rules, tests}
use Rattle.session_serving.proofs.EventLemmas.{discards_done, discards_front}
use Rattle.session_serving.proofs.ending.drop_front.Goals as goal

pub returns-then-not-has_job_in_front-clause-discards : goal.returns-then-not-has_job_in_front-clause-discards
returns-then-not-has_job_in_front-clause-discards g c = discards_front c.args.session.now c.next_held.new.self c.next_held.ensures.after

pub returns-clause-discards : goal.returns-clause-discards
returns-clause-discards g c = discards_done c.args.session.now c.on_done.new.self c.in-Ok.done _ (search (rules, tests)) c.on_done.ensures.line c.on_done.ensures.after
