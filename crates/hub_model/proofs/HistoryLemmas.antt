-- A legal history, its calls and their run.
use Rattle.hub_model.proofs.Common.{◌≡◌, List, [], ◌∷◌, ◌++◌, refl, ap, ◌∙◌, map, fold, Call, Entry, HubState, new_state, reply_to, after, after_call, IsLegalFrom, step, replies_from, RepliesAreTheRun, KnownByTheCalls, OneMoreEntry}

-- an entry with the answer is a step
entry_step : (s : HubState) (e : Entry) → e.reply ≡ reply_to s e.call → after s e ≡ step s e.call
entry_step s e h = ap (after_call s e.call) h

known_from : (s : HubState) (history : List Entry) → IsLegalFrom s history → fold after s history ≡ fold step s (map (λ e. e.call) history)
known_from s [] legal = refl
known_from s (e ∷ history) legal =
    known_from (after s e) history legal.1 ∙ ap (λ t. fold step t (map (λ d. d.call) history)) (entry_step s e legal.0)

pub known_by_the_calls : KnownByTheCalls
known_by_the_calls history legal = known_from new_state history legal

run_from : (s : HubState) (history : List Entry) → IsLegalFrom s history → map (λ e. e.reply) history ≡ replies_from s (map (λ e. e.call) history)
run_from s [] legal = refl
run_from s (e ∷ history) legal = rw (legal.0, run_from (after s e) history legal.1, entry_step s e legal.0)

pub replies_are_the_run : RepliesAreTheRun
replies_are_the_run history legal = run_from new_state history legal

legal_more : (s : HubState) (history : List Entry) (call : Call) → IsLegalFrom s history → IsLegalFrom s (history ++ record { call = call; reply = reply_to (fold after s history) call } ∷ [])
legal_more s [] call legal = (refl, tt)
legal_more s (e ∷ history) call legal = (legal.0, legal_more (after s e) history call legal.1)

pub one_more_entry : OneMoreEntry
one_more_entry history call legal = legal_more new_state history call legal
