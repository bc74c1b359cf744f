use Rattle.board_paths.proofs.PathLemmas.{paths_name_one_resource, what_is_below_is_the_railways}
use Rattle.board_paths.proofs.laws.paths_name_one_resource.Goals as goal

pub returns-clause-one : goal.returns-clause-one
returns-clause-one c = paths_name_one_resource

pub returns-clause-railways : goal.returns-clause-railways
returns-clause-railways c = what_is_below_is_the_railways
