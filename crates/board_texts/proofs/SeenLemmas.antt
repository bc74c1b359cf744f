-- One look more.
use Rattle.std.proofs.Common.{ℕ, ◌+◌, List, ◌++◌, refl, add-one}
use Rattle.board_texts.specs.Lines.{AreSeen}

pub one_more : {X : Type 0} (look : ℕ → List X → Type 0) (k : ℕ) (seen part : List X) → AreSeen look k seen → look k part → AreSeen look (k + 1) (seen ++ part)
one_more look k seen part before it = rw (add-one k) (seen, before, part, it, refl)
