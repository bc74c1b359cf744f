use Rattle.session_lanes.proofs.Common.{ap, sym, ◌∙◌, Job}
use Rattle.session_lanes.proofs.PassLemmas.{after_send}
use Rattle.session_lanes.proofs.port.LanePortPort.send.Goals as goal

pub invariant_of-self : goal.invariant_of-self
invariant_of-self g c =
    let known = c.loop.invariant in
    let mine = ap (λ (j : Job). j.session) known.3 ∙ (c.requires.mine ∙ sym known.1) in
    let kept = after_send c.loop.self.session g.B.Begun.began c.loop.self.pass c.put.new.pass c.loop.job c.put.result c.put.ensures.put c.put.ensures.unchanged c.loop.self.puts_only c.loop.self.own_jobs mine in
    record { own = c.loop.self.own; puts_only = kept.0; own_jobs = kept.1 }
