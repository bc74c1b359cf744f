use Rattle.board_connections.proofs.WaitingLemmas.{put_in}
use Rattle.board_connections.proofs.places.put.Goals as goal

pub returns : goal.returns
returns c = put_in _ _ _ c.args.client c.put_at.ensures
