use Rattle.hub_core.proofs.Common.{Bool, cond, ap, state_of, after_new}
use Rattle.hub_core.proofs.SendLemmas.{led_from}
use Rattle.hub_core.proofs.repeats.apply_repeat.Goals as goal

-- a message whose name was sent changes nothing
pub append_entry-requires-clause-quiet : goal.append_entry-requires-clause-quiet
append_entry-requires-clause-quiet c =
    let m = c.args.message in
    let s = state_of c.args.state.now.history.entries in
    ap (λ (sent : Bool). cond sent s (after_new s m c.in_ok-reply.reply)) (led_from _ _ c.args.position (rw c.requires.sent_before at (c.requires.ready.0.firsts m.by m.no)))
