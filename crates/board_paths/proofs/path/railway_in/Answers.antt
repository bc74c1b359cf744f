use Rattle.board_paths.proofs.PathLemmas.{IsUtf8-railway}
use Rattle.board_paths.proofs.path.railway_in.Goals as goal

pub returns-in-Err-clause-none : goal.returns-in-Err-clause-none
returns-in-Err-clause-none c = λ valid. c.in-Err.ensures.cases.0 (IsUtf8-railway c.args.letters.now valid)
