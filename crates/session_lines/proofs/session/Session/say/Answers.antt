use Rattle.session_lines.proofs.Common.{rules, ◌∙◌, sym, ap, arith, State, jobs_out}
use Rattle.session_lines.proofs.SlotLemmas.{jobs_out-held}
use Rattle.session_lines.proofs.session.Session.say.Goals as goal

pub invariant_of-self : goal.invariant_of-self
invariant_of-self c =
    let i = c.self.invariant in
    (i.0 ∙ sym (ap jobs_out c.push_back_reserved.ensures.items ∙ jobs_out-held c.self.inside.slots.items _), i.1, i.2, search (arith, rules), λ e. absurd (let v = ap (λ (s : State). s.has_failed) c.self.view_is in let r = c.requires.sound in cc), λ some. search (arith, rules))
