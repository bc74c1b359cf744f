use Rattle.board_paths.proofs.Common.{◌≢◌, codes, sym, ◌∙◌, rules}
use Rattle.board_paths.proofs.PathLemmas.{if_none, none_below, short_is_no_wagon, wagon_name_same, split_joins}
use Rattle.board_paths.proofs.path.resource_below.Goals as goal

pub returns-in_err-front-clause-none : goal.returns-in_err-front-clause-none
returns-in_err-front-clause-none c =
    let short = c.in_err-front.ensures.cases in
    if_none _ _ (none_below c.args.railway c.args.name.now (search rules) (search rules) (search rules) (search rules)
    (λ w v. short_is_no_wagon w (codes ".json") c.args.name.now short)
    (λ w v. short_is_no_wagon w (codes "/legs.json") c.args.name.now short))

pub returns-in_err-wagon-clause-none : goal.returns-in_err-wagon-clause-none
returns-in_err-wagon-clause-none c =
    let split = c.in_ok-front.ensures.cases in
    let joined = split_joins c.args.name.now c.in_ok-front.front.now c.in_ok-front.ending.now 19 split in
    let none = c.in_err-wagon.ensures.none in
    if_none _ _ (none_below c.args.railway c.args.name.now (search rules) (search rules) (search rules) (search rules)
    (λ w v e. none w v (wagon_name_same w (codes ".json") c.in_ok-front.front.now c.in_ok-front.ending.now split.3 (e ∙ joined)).0)
    (λ w v e. none w v (wagon_name_same w (codes "/legs.json") c.in_ok-front.front.now c.in_ok-front.ending.now split.3 (e ∙ joined)).0))

pub returns-else-eq-4-clause-none : goal.returns-else-eq-4-clause-none
returns-else-eq-4-clause-none c =
    let split = c.in_ok-front.ensures.cases in
    let joined = split_joins c.args.name.now c.in_ok-front.front.now c.in_ok-front.ending.now 19 split in
    let no_record : c.in_ok-front.ending.now ≢ codes ".json" = search rules in
    let no_legs : c.in_ok-front.ending.now ≢ codes "/legs.json" = search rules in
    none_below c.args.railway c.args.name.now (search rules) (search rules) (search rules) (search rules)
    (λ w v e. no_record (sym (wagon_name_same w (codes ".json") c.in_ok-front.front.now c.in_ok-front.ending.now split.3 (e ∙ joined)).1))
    (λ w v e. no_legs (sym (wagon_name_same w (codes "/legs.json") c.in_ok-front.front.now c.in_ok-front.ending.now split.3 (e ∙ joined)).1))
