use Rattle.board_paths.proofs.Common.{codes, Some, Decides-eqb, strip_prefix_is, strip_suffix_is}
use Rattle.board_paths.proofs.PathLemmas.{between_found}
use Rattle.board_paths.proofs.path.between_slashes.Goals as goal

pub returns-clause-found : goal.returns-clause-found
returns-clause-found c =
    let start = strip_prefix_is Decides-eqb c.args.front.now (codes "/") (Some c.in_ok-strip_prefix.field-0) c.in_ok-strip_prefix.ensures.cases in
    let end = strip_suffix_is Decides-eqb c.in_ok-strip_prefix.field-0.now (codes "/") c.strip_suffix.result c.strip_suffix.ensures.cases in
    between_found c.strip_suffix.result c.args.front.now c.in_ok-strip_prefix.field-0.now start end
