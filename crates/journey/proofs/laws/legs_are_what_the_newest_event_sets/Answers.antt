use Rattle.journey.proofs.NewestLegLemmas.{placed_by_count, legs_are_the_newest, as_many_legs, reroute_undoes_times}
use Rattle.journey.proofs.laws.legs_are_what_the_newest_event_sets.Goals as goal

pub returns : goal.returns
returns c = record { on_their_legs = placed_by_count; legs = legs_are_the_newest; as_many = as_many_legs; a_reroute = reroute_undoes_times }
