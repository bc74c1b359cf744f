-- The lines of a history with one entry more.
use Rattle.std.proofs.Common.{◌≡◌, ℕ, suc, List, [], ◌∷◌, ◌++◌, length, refl, sym, ap, subst, ◌∙◌, append_assoc}
use Rattle.std.specs.Prelude.{fold, All}
use Rattle.std.proofs.lemmas.List.{map-append}
use Rattle.std.proofs.lemmas.List.Elements.{All-nil, All-cons, All-append}
use Rattle.taf_messages.specs.declared.call.Call.{Call}
use Rattle.hub_model.specs.declared.entry.Entry.{Entry}
use Rattle.reply_writer.specs.Laws.{IsCall}
use Rattle.journal_lines.specs.Sums.{first_sum}
use Rattle.journal_lines.specs.CallLines.{call_sum, line_text, lines_after, lines_of_calls, last_sum}
use Rattle.journaled_hub.specs.HistoryLines.{calls_of, lines_of_history}

pub calls_push : (history : List Entry) (e : Entry) → calls_of (history ++ e ∷ []) ≡ calls_of history ++ e.call ∷ []
calls_push history e = map-append (λ (x : Entry). x.call) history (e ∷ [])

lines-push : (before : ℕ) (calls : List Call) (call : Call) →
    lines_after before (calls ++ call ∷ []) ≡ lines_after before calls ++ line_text (call_sum (fold call_sum before calls) call) call ∷ []
lines-push before [] call = refl
lines-push before (x ∷ calls) call = ap (λ (l : List (List ℕ)). line_text (call_sum before x) x ∷ l) (lines-push (call_sum before x) calls call)

sum-push : (before : ℕ) (calls : List Call) (call : Call) → fold call_sum before (calls ++ call ∷ []) ≡ call_sum (fold call_sum before calls) call
sum-push before [] call = refl
sum-push before (x ∷ calls) call = sum-push (call_sum before x) calls call

-- the line of a further entry
pub history_lines-push : (history : List Entry) (e : Entry) → lines_of_history (history ++ e ∷ []) ≡ lines_of_history history ++ line_text (call_sum (last_sum (calls_of history)) e.call) e.call ∷ []
history_lines-push history e = ap lines_of_calls (calls_push history e) ∙ lines-push first_sum (calls_of history) e.call

-- and its sum
pub history_sum-push : (history : List Entry) (e : Entry) → last_sum (calls_of (history ++ e ∷ [])) ≡ call_sum (last_sum (calls_of history)) e.call
history_sum-push history e = ap last_sum (calls_push history e) ∙ sum-push first_sum (calls_of history) e.call

module _ (history next : List Entry) (e : Entry) (sum own : ℕ) (line : List ℕ) (grows : next ≡ history ++ e ∷ []) (last : sum ≡ last_sum (calls_of history)) (own_is : own ≡ call_sum sum e.call) where
  pub sum_of_next : own ≡ last_sum (calls_of next)
  sum_of_next = own_is ∙ ap (λ s. call_sum s e.call) last ∙ sym (ap (λ h. last_sum (calls_of h)) grows ∙ history_sum-push history e)

  pub lines_of_next : line ≡ line_text own e.call → lines_of_history next ≡ lines_of_history history ++ line ∷ []
  lines_of_next is =
      ap lines_of_history grows ∙ history_lines-push history e
      ∙ ap (λ l. lines_of_history history ++ l ∷ []) (sym (is ∙ ap (λ s. line_text s e.call) (own_is ∙ ap (λ s. call_sum s e.call) last)))

  -- the lines on the disk and those that were noted, with one more
  pub noted_next : (durable pending noted : List (List ℕ)) → line ≡ line_text own e.call → durable ++ pending ≡ lines_of_history history → noted ≡ pending ++ line ∷ [] → durable ++ noted ≡ lines_of_history next
  noted_next durable pending noted is same note =
      ap (λ l. durable ++ l) note ∙ sym (append_assoc durable pending (line ∷ [])) ∙ ap (λ l. l ++ line ∷ []) same ∙ sym (lines_of_next is)

-- calls that keep their limits, with one more
pub limits_more : (history next : List Entry) (e : Entry) → next ≡ history ++ e ∷ [] → All IsCall (calls_of history) → IsCall e.call → All IsCall (calls_of next)
limits_more history next e grows all one =
    subst (All IsCall) (sym (ap calls_of grows ∙ calls_push history e)) (All-append IsCall (calls_of history) (e.call ∷ []) all (All-cons IsCall e.call [] one (All-nil IsCall)))

-- a line for each call, and for each entry
length-lines : (before : ℕ) (history : List Entry) → length (lines_after before (calls_of history)) ≡ length history
length-lines before [] = refl
length-lines before (e ∷ history) = ap suc (length-lines (call_sum before e.call) history)

pub length-lines_of_history : (history : List Entry) → length (lines_of_history history) ≡ length history
length-lines_of_history history = length-lines first_sum history
