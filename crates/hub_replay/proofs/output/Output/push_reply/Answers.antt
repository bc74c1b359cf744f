use Rattle.hub_replay.proofs.Common.{ℕ, List, [], ◌∷◌, ◌++◌, ap, ◌∙◌, append_assoc, reply_text}
use Rattle.hub_replay.proofs.output.Output.push_reply.Goals as goal

pub returns-clause-pending : goal.returns-clause-pending
returns-clause-pending c =
    c.in_ok-push_text.ensures.ok ∙ ap (λ (bytes : List ℕ). bytes ++ 10 ∷ []) c.in_ok-append_reply.ensures.ok ∙
    append_assoc c.args.self.now.pending.items (reply_text c.args.reply.now) (10 ∷ [])
