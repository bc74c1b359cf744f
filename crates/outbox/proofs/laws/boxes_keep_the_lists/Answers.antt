use Rattle.outbox.proofs.NumberLemmas.{first_items-kept}
use Rattle.outbox.proofs.laws.boxes_keep_the_lists.Goals as goal

pub returns-clause-fetch : goal.returns-clause-fetch
returns-clause-fetch c = first_items-kept
