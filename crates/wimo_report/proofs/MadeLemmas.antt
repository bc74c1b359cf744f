-- What several threads make, where none is refused memory.
use Rattle.std.proofs.Common.{List, [], ◌∷◌, Result, Ok, Err, map, IfOk, MatchResult}
use Rattle.std.specs.List.{AllZip}

pub if_ok : {T E : Type 0} (r : Result T E) (P Q : T → Type 0) (F : E → Type 0) → MatchResult r P F → ((v : T) → P v → Q v) → IfOk r Q
if_ok (Ok v) P Q F h turn = turn v h
if_ok (Err e) P Q F h turn = tt

-- what was made apart is as it was promised of each
pub made : {X S : Type 0} (E : Type 0) (P : X → S → Type 0) (rows : List X) (ys : List S) → AllZip (λ x (r : Result S E). IfOk r (P x)) rows (map Ok ys) → AllZip P rows ys
made E P [] [] h = tt
made E P [] (y ∷ ys) h = absurd h
made E P (x ∷ rows) [] h = absurd h
made E P (x ∷ rows) (y ∷ ys) h = (h.0, made E P rows ys h.1)
