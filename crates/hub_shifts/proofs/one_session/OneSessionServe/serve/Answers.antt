use Rattle.hub_shifts.proofs.one_session.OneSessionServe.serve.Goals as goal

pub returns : goal.returns
returns g c = record {
  own_jobs = c.serve.ensures.own_jobs;
  put_only = c.serve.ensures.put_only;
  served = c.serve.ensures;
}
