use Rattle.std.proofs.Common.{◌≡◌, suc, ◌+◌, ◌++◌, [], ◌∷◌, List, Option, arith, ap, ◌∙◌, sym, length, length-append, append_assoc, append-nil}
use Rattle.std.specs.Prelude.{option_to_list}
use Rattle.std.proofs.lemmas.List.{length-map, nil_from_length}
use Rattle.taf_messages.specs.declared.call.Call.{Call}
use Rattle.hub_model.specs.declared.entry.Entry.{Entry}
use Rattle.journaled_hub.specs.HistoryLines.{calls_of}
use Rattle.journaled_hub.proofs.LineLemmas.{calls_push}
use Rattle.journaled_hub.proofs.recovery.apply_calls.Goals as goal

count : (history : List Entry) → length (calls_of history) ≡ length history
count history = length-map history (λ (e : Entry). e.call)

-- so many calls in all
total : (now old : List Entry) (left calls rest : List Call) (call : Call) → calls_of now ++ left ≡ calls_of old ++ calls → left ≡ call ∷ rest → length now + (length rest + 1) ≡ length old + length calls
total now old left calls rest call same first =
    let a = length-append (calls_of now) left in
    let b = length-append (calls_of old) calls in
    let e : length (calls_of now ++ left) ≡ length (calls_of old ++ calls) = ap length same in
    let f : length left ≡ suc (length rest) = ap length first in
    omega (arith, a, b, e, f, count now, count old)

next : (now more : List Entry) (e : Entry) (left rest : List Call) → more ≡ now ++ e ∷ [] → left ≡ e.call ∷ rest → calls_of more ++ rest ≡ calls_of now ++ left
next now more e left rest grows first =
    ap (λ (h : List Entry). calls_of h ++ rest) grows
    ∙ ap (λ (l : List Call). l ++ rest) (calls_push now e)
    ∙ append_assoc (calls_of now) (e.call ∷ []) rest
    ∙ ap (λ (l : List Call). calls_of now ++ l) (sym first)

pub returns-in-Err-Full-clause-fault : goal.returns-in-Err-Full-clause-fault
returns-in-Err-Full-clause-fault c =
    let rest : List Call = c.pop_front.new.self.items in
    let first : c.loop-call.calls.items ≡ c.in-Some.call ∷ rest = c.pop_front.ensures.items ∙ ap (λ (o : Option Call). option_to_list o ++ rest) c.in-Some.is in
    let all = total c.loop-call.hub c.args.hub.now c.loop-call.calls.items c.args.calls.now.items rest c.in-Some.call c.loop-call.invariant first in
    let full : length c.loop-call.hub ≡ 1000000 = (rw c.in-Err-Full.field-0-is at c.in-Err-Full.ensures.fault).1 in
    omega (arith, all, full)

pub loop-call-preserved : goal.loop-call-preserved
loop-call-preserved c =
    let rest : List Call = c.pop_front.new.self.items in
    let first : c.loop-call.calls.items ≡ c.in-Some.call ∷ rest = c.pop_front.ensures.items ∙ ap (λ (o : Option Call). option_to_list o ++ rest) c.in-Some.is in
    let entry : Entry = record { call = c.in-Some.call; reply = c.in-Ok.field-0.1 } in
    next c.loop-call.hub c.apply.new.self entry c.loop-call.calls.items rest c.in-Ok.ensures.grows first ∙ c.loop-call.invariant

pub returns-clause-calls : goal.returns-clause-calls
returns-clause-calls c =
    let none : c.loop-call.calls.items ≡ [] = nil_from_length c.loop-call.calls.items (omega (arith, c.in_default.ensures.cases.0, c.loop-call.calls.ok.0)) in
    sym (append-nil (calls_of c.loop-call.hub)) ∙ ap (λ (l : List Call). calls_of c.loop-call.hub ++ l) (sym none) ∙ c.loop-call.invariant
