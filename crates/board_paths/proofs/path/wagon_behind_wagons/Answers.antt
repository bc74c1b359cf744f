use Rattle.board_paths.proofs.Common.{codes, Some, subst, ◌∙◌, IsUtf8, Decides-eqb, strip_prefix_is, ◌≡◌, ◌++◌}
use Rattle.board_paths.proofs.PathLemmas.{IsUtf8-number, behind_found, behind_none, behind_same}
use Rattle.board_paths.proofs.path.wagon_behind_wagons.Goals as goal

pub returns-in-Ok-clause-found : goal.returns-in-Ok-clause-found
returns-in-Ok-clause-found c =
    let start : c.args.front.now ≡ codes "wagons/" ++ c.in_ok-digits.digits.now =
    strip_prefix_is Decides-eqb c.args.front.now (codes "wagons/") (Some c.in_ok-digits.digits) c.in_ok-digits.ensures.cases in
    let text : c.in-Ok.text.now ≡ c.in_ok-digits.digits.now = c.in-Ok.ensures.cases.0 in
    behind_found _ (codes "wagons/") c.in-Ok.text.now _ (rw text start) c.wagon_in.ensures.found

pub returns-in-Ok-clause-none : goal.returns-in-Ok-clause-none
returns-in-Ok-clause-none c =
    let start : c.args.front.now ≡ codes "wagons/" ++ c.in_ok-digits.digits.now =
    strip_prefix_is Decides-eqb c.args.front.now (codes "wagons/") (Some c.in_ok-digits.digits) c.in_ok-digits.ensures.cases in
    let text : c.in-Ok.text.now ≡ c.in_ok-digits.digits.now = c.in-Ok.ensures.cases.0 in
    behind_none _ (codes "wagons/") c.in-Ok.text.now _ (rw text start) c.wagon_in.ensures.none

pub returns-in-Err-clause-none : goal.returns-in-Err-clause-none
returns-in-Err-clause-none c =
    let start : c.args.front.now ≡ codes "wagons/" ++ c.in_ok-digits.digits.now =
    strip_prefix_is Decides-eqb c.args.front.now (codes "wagons/") (Some c.in_ok-digits.digits) c.in_ok-digits.ensures.cases in
    λ w vehicle e. c.in-Err.ensures.cases.0 (subst IsUtf8 (behind_same (codes "wagons/") _ _ (e ∙ start)) (IsUtf8-number w vehicle))
