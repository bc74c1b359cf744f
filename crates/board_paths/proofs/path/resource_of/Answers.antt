use Rattle.board_paths.proofs.Common.{◌≡◌, ◌≢◌, ◌++◌, ℕ, List, ap, sym, ◌∙◌, subst, IfSome, IfNone, rules, Resource, path_of, IsValid}
use Rattle.board_paths.proofs.PathLemmas.{if_none, none_of, slashes_same, split_joins}
use Rattle.board_paths.proofs.path.resource_of.Goals as goal

pub returns-in_err-railway-clause-none : goal.returns-in_err-railway-clause-none
returns-in_err-railway-clause-none c =
    let split = c.in_ok-front.ensures.cases in
    let joined = split_joins c.args.path.now c.in_ok-front.front.now c.in_ok-front.name.now 6 split in
    let none = c.in_err-railway.ensures.none in
    if_none _ _ (none_of c.args.path.now (search rules) (search rules) (search rules)
    (λ code name v e. none code v (slashes_same code name c.in_ok-front.front.now c.in_ok-front.name.now v split.3 (e ∙ joined)).0))

pub returns-clause-found : goal.returns-clause-found
returns-clause-found c =
    let split = c.in_ok-front.ensures.cases in
    let joined = split_joins c.args.path.now c.in_ok-front.front.now c.in_ok-front.name.now 6 split in
    let whole = ap (λ (l : List ℕ). l ++ c.in_ok-front.name.now) c.in_ok-railway.ensures.found ∙ sym joined in
    subst (λ (path : List ℕ). IfSome c.resource_below.result (λ r. IsValid r × (path_of r ≡ path))) whole c.resource_below.ensures.found

pub returns-clause-none : goal.returns-clause-none
returns-clause-none c =
    let split = c.in_ok-front.ensures.cases in
    let joined = split_joins c.args.path.now c.in_ok-front.front.now c.in_ok-front.name.now 6 split in
    let whole = ap (λ (l : List ℕ). l ++ c.in_ok-front.name.now) c.in_ok-railway.ensures.found ∙ sym joined in
    subst (λ (path : List ℕ). IfNone c.resource_below.result ((r : Resource) → IsValid r → path_of r ≢ path)) whole c.resource_below.ensures.none
