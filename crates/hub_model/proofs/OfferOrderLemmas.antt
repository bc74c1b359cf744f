-- What holds of offers and wagons at every moment.
use Rattle.hub_model.proofs.Common.{List, ◌∙◌, sym, stage_in_offer, responsible-on_its_way, Entry, HubState, new_state, IsLegal, state_of, IsInOrder, AlwaysInOrder}
use Rattle.hub_model.proofs.NamedWagonLemmas.{some_pair}
use Rattle.hub_model.proofs.SoundnessLemmas.{IsSound, sound_accepted, sound_nothing}
use Rattle.hub_model.proofs.JourneyLengthLemmas.{IsTrackState, kept_from, each_any}

kept_sound : IsTrackState (λ m. Unit {0}) IsSound
kept_sound = record {
  accepts = λ s m d f so. sound_accepted s so m f;
  notes = λ s m reply so. record { offered = so.offered; delivered = so.delivered };
  acks = λ s by n so. record { offered = so.offered; delivered = so.delivered };
}

sound : (history : List Entry) → IsLegal history → IsSound (state_of history)
sound history legal = kept_from (λ m. Unit {0}) IsSound kept_sound new_state history legal (each_any history) sound_nothing

in_order : (s : HubState) → IsSound s → IsInOrder s
in_order s so = record {
  one_offer = λ w n k by also one other.
      some_pair by also n k (sym (so.offered by n w one.0 one.1) ∙ so.offered also k w other.0 other.1);
  offered = λ w n by one. stage_in_offer (s.journey w) (by, n) (so.offered by n w one.0 one.1);
  responsible = λ w. responsible-on_its_way (s.journey w);
}

pub always_in_order : AlwaysInOrder
always_in_order history legal = in_order (state_of history) (sound history legal)
