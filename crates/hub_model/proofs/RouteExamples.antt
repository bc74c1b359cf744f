-- Worked reroutes, computed.
use Rattle.hub_model.proofs.Common.{◌≡◌, ℕ, List, [], ◌∷◌, ◌++◌, length, Some, None, codes, refl, Call, Ask, Accepted, refused, eta, estimate, reply_to, state_after, Leg, Body}
use Rattle.taf_messages.specs.declared.reply.Why.TheVariants as why
use Rattle.taf_messages.specs.declared.item.ItemBody.TheVariants as item
use Rattle.taf_messages.specs.declared.message.Body.TheVariants as body
use Rattle.hub_model.proofs.ExampleWords.{w1, r100, r101, r102, r103, border, send, leg, departed}
use Rattle.hub_model.proofs.Examples.{answered}

-- a leg of 180 minutes to a new end
abbrev to : List ℕ → List ℕ → Body
to ru origin = body.Reroute w1 (leg ru origin (codes "CH00004") 180 ∷ [])

abbrev rerouted : List Call
rerouted = departed ++ send r100 3 (to r103 border) ∷ []

rerouted_reply : reply_to (state_after departed) (send r100 3 (to r103 border)) ≡ Accepted 3
rerouted_reply = refl

rerouted_estimate : estimate ((state_after rerouted).journey w1) 0 ≡ Some 660
rerouted_estimate = refl

rerouted_eta : eta ((state_after rerouted).journey w1) ≡ Some 840
rerouted_eta = refl

told_current : (state_after rerouted).outbox r101 ≡ (state_after departed).outbox r101 ++ item.Notice (record { by = r100; no = 3; body = to r103 border }) ∷ []
told_current = refl

told_current_number : length ((state_after rerouted).outbox r101) ≡ 3
told_current_number = refl

told_old : (state_after rerouted).outbox r102 ≡ (state_after departed).outbox r102 ++ item.Notice (record { by = r100; no = 3; body = to r103 border }) ∷ []
told_old = refl

told_old_number : length ((state_after rerouted).outbox r102) ≡ 4
told_old_number = refl

told_new : (state_after rerouted).outbox r103 ≡ item.Notice (record { by = r100; no = 3; body = to r103 border }) ∷ item.Eti w1 0 660 ∷ []
told_new = refl

told_lead : (state_after rerouted).outbox r100 ≡ (state_after departed).outbox r100
told_lead = refl

old_railway : reply_to (state_after rerouted) (Ask r102 w1) ≡ refused None why.NotYours (Some w1) None
old_railway = refl

same_railway : reply_to (state_after rerouted) (send r100 4 (to r101 border)) ≡ refused (Some 4) why.WrongNext (Some w1) None
same_railway = refl

elsewhere : reply_to (state_after rerouted) (send r100 5 (to r103 (codes "AT00009"))) ≡ refused (Some 5) why.WrongPlace (Some w1) None
elsewhere = refl

not_the_lead : reply_to (state_after rerouted) (send r101 2 (to r103 border)) ≡ refused (Some 2) why.NotYours (Some w1) None
not_the_lead = refl

abbrev seven : List Leg
seven =
    leg (codes "R103") (codes "IT00003") (codes "IT00004") 60 ∷
    leg (codes "R104") (codes "IT00004") (codes "IT00005") 60 ∷
    leg (codes "R105") (codes "IT00005") (codes "IT00006") 60 ∷
    leg (codes "R106") (codes "IT00006") (codes "IT00007") 60 ∷
    leg (codes "R107") (codes "IT00007") (codes "IT00008") 60 ∷
    leg (codes "R108") (codes "IT00008") (codes "IT00009") 60 ∷
    leg (codes "R109") (codes "IT00009") (codes "IT00010") 60 ∷ []

too_many : reply_to (state_after answered) (send r100 4 (body.Reroute w1 seven)) ≡ refused (Some 4) why.TooManyLegs (Some w1) None
too_many = refl

unknown : reply_to (state_after []) (send r100 4 (body.Reroute w1 seven)) ≡ refused (Some 4) why.UnknownWagon (Some w1) None
unknown = refl
