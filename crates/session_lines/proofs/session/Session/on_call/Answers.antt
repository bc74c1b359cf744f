use Rattle.session_lines.proofs.Common.{rules, ◌∙◌, ◌+◌, ◌≤◌, sym, ap, arith, length, State, jobs_out}
use Rattle.session_lines.proofs.SlotLemmas.{jobs_out-job, jobs_out-within}
use Rattle.session_lines.proofs.session.Session.on_call.Goals as goal

pub invariant_of-self-2 : goal.invariant_of-self-2
invariant_of-self-2 c =
    let i = c.self.invariant in
    let xs = c.self.inside.slots.items in
    let room : length xs + 1 ≤ c.reserve-2.new.self.spare = search (arith, rules) in
    let more = ap jobs_out c.push_back_reserved.ensures.items ∙ jobs_out-job c.reserve.new.self.items _ ∙ ap (λ ys. jobs_out ys + 1) c.reserve.ensures.items in
    (ap (λ n. n + 1) i.0 ∙ sym more, omega (arith, i.1), omega (arith, i.0, room, jobs_out-within xs), search (arith, rules), λ e. absurd (let v = ap (λ (s : State). s.has_failed) c.self.view_is in let r = c.requires.sound in cc), λ some. search (arith, rules))
