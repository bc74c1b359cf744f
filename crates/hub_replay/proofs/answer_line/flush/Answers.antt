use Rattle.hub_replay.proofs.RunLemmas.{Advances-append, Advances-kept, StopsWithin-after, StopsWithin-kept}
use Rattle.hub_replay.proofs.answer_line.flush.Goals as goal

pub returns-in-Ok-clause-answers : goal.returns-in-Ok-clause-answers
returns-in-Ok-clause-answers g c = λ e. Advances-append (c.in_ok-write_pending.ensures.answers e) (Advances-kept _ _ e c.write_pending.new.output c.in-Ok.ensures.bytes)

pub returns-in-Err-clause-answers : goal.returns-in-Err-clause-answers
returns-in-Err-clause-answers g c = λ e. StopsWithin-after (c.in_ok-write_pending.ensures.answers e) (StopsWithin-kept _ _ e c.write_pending.new.output c.in-Err.ensures.bytes)
