use Rattle.hub_answers.proofs.ShownLemmas.{all_of_trip}
use Rattle.hub_answers.proofs.law.shown_is_for_the_trip.Goals as goal

pub returns : goal.returns
returns c = λ s by wagons. all_of_trip s by c.railways_see_what_concerns_them.ensures.records c.shown_is_asked.ensures wagons
