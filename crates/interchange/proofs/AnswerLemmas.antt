-- Tests over the two lists of an answer.
use Rattle.std.proofs.Common.{◌≡◌, ℕ, ◌+◌, Bool, ◌&&◌, cond, List, ◌++◌, count_by}
use Rattle.std.specs.List.{list_all}
use Rattle.std.proofs.lemmas.List.Folds.{list_all-append}
use Rattle.std.proofs.lemmas.List.Sums.{sum_by-append}

-- a wagon is named in both lists as often as in each of them together
pub count_in_both : (p : ℕ → Bool) (xs ys : List ℕ) → count_by p (xs ++ ys) ≡ count_by p xs + count_by p ys
count_in_both p = sum_by-append (λ x. cond (p x) 1 0)

-- all of both lists pass where those of each do
pub all_in_both : (p : ℕ → Bool) (xs ys : List ℕ) → list_all p (xs ++ ys) ≡ (list_all p xs && list_all p ys)
all_in_both = list_all-append
