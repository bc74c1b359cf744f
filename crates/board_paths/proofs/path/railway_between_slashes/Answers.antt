use Rattle.board_paths.proofs.Common.{◌≡◌, ◌≢◌, ◌++◌, List, ℕ, true, codes, is_railway}
use Rattle.board_paths.proofs.PathLemmas.{if_none, slashes_found, slashes_none}
use Rattle.board_paths.proofs.path.railway_between_slashes.Goals as goal

pub returns-in_err-letters-clause-none : goal.returns-in_err-letters-clause-none
returns-in_err-letters-clause-none c =
    let none : (code : List ℕ) → is_railway code ≡ true → codes "/" ++ code ++ codes "/" ≢ c.args.front.now =
    λ code v. c.in_err-letters.ensures.none code in
    if_none _ _ none

pub returns-clause-found : goal.returns-clause-found
returns-clause-found c = slashes_found _ c.in_ok-letters.letters.now _ c.in_ok-letters.ensures.found c.railway_in.ensures.found

pub returns-clause-none : goal.returns-clause-none
returns-clause-none c = slashes_none _ c.in_ok-letters.letters.now _ c.in_ok-letters.ensures.found c.railway_in.ensures.none
