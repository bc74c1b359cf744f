use Rattle.session_lines.proofs.Common.{ap, ◌∙◌, lock_step, run_of}
use Rattle.session_lines.proofs.LockStepLemmas.{IsLockStep-events}
use Rattle.session_lines.proofs.law.windows_are_lock_step.Goals as goal

pub returns : goal.returns
returns c = λ id answers events own. let l = IsLockStep-events id answers events own in ap (λ n. lock_step n answers (run_of id events).input) l.named ∙ l.same
