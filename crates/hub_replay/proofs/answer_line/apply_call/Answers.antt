use Rattle.hub_replay.proofs.Common.{ℕ, ◌<◌, [], ◌∷◌, ◌++◌, ap, ◌∙◌, subst, Reply, Entry, entry_of}
use Rattle.hub_replay.proofs.answer_line.apply_call.Goals as goal

pub returns-in-Ok-clause-ok : goal.returns-in-Ok-clause-ok
unfolding entry_of
returns-in-Ok-clause-ok c =
    let entry : Reply → Entry = λ reply. record { call = c.args.call; reply = reply } in
    let complete = c.in-Ok.ensures.answered in (
      subst (λ (n : ℕ). n < 1000000) complete.0 c.in-Ok.ensures.room,
      c.in-Ok.ensures.grows ∙ ap (λ (reply : Reply). c.args.hub.now ++ entry reply ∷ []) complete.1,
      complete.1,
    )
