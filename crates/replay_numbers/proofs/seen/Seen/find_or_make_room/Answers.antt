use Rattle.replay_numbers.proofs.Common.{◌∙◌, ap, position_of}
use Rattle.replay_numbers.proofs.seen.Seen.find_or_make_room.Goals as goal

pub returns-clause-positions : goal.returns-clause-positions
returns-clause-positions c = (λ i by n. c.find_or_make_room.ensures.positions by n i) ∙ ap position_of c.self.view_is
