-- What a thread gives back that serves sessions.
use Rattle.std.specs.Prelude.{◌≡◌}
use Rattle.std.specs.List.{All}
use Rattle.inbox.specs.declared.rule.Job.{Job}
use Rattle.session_lanes.specs.declared.ends.SessionStart.{SessionStart}
use Rattle.session_lanes.specs.declared.ends.Served.{Served}

-- by its pass the thread put jobs of its own number alone and took none, and by what it began with it has served, as threads of its
-- kind do
pub record IsServiceOf {S K : Type 0} (has_served : SessionStart S K → Served → Type 0)
    (start : SessionStart S K) (s : Served) : Type 0 where
  pub own_jobs : All (λ (j : Job). j.session ≡ start.session) s.pass.put
  pub put_only : s.pass ≡ record start.pass { put = s.pass.put }
  pub served : has_served start s
