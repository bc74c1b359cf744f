-- Reading the items of an array one after the other, as a loop does.
use Rattle.call_reader.proofs.Common.{◌≡◌, ◌<◌, List, [], ◌∷◌, ◌++◌, Option, Some, None, refl, sym, ap, ◌∙◌, append_assoc, append-nil, arith, Data, Items, no_items, item, items_len, DecodeError, Bad, Memory, ◌>>=◌, Misses, each}

-- what was read before, and what is still read
abbrev pub with_front : {X : Type 0} → List X → Option (List X) → Option (List X)
with_front front read = read >>= λ rest. Some (front ++ rest)

pub starts : {X : Type 0} (read : Option (List X)) → with_front [] read ≡ read
starts None = refl
starts (Some rest) = refl

regroup : {X : Type 0} (front : List X) (x : X) (read : Option (List X)) → with_front front (read >>= λ rest. Some (x ∷ rest)) ≡ with_front (front ++ x ∷ []) read
regroup front x None = refl
regroup front x (Some rest) = ap Some (sym (append_assoc front (x ∷ []) rest))

pub goes_on : {X : Type 0} (good : Data → Option X) (left rest : Items) (front : List X) (d : Data) (x : X) (total : Option (List X)) → left ≡ item d rest → good d ≡ Some x
    → with_front front (each good left) ≡ total → with_front (front ++ x ∷ []) (each good rest) ≡ total
unfolding each
goes_on good left rest front d x total is h so_far =
    let one : with_front front (each good left) ≡ with_front (front ++ x ∷ []) (each good rest) = rw (is, h) (regroup front x (each good rest)) in
    sym one ∙ so_far

pub ends : {X : Type 0} (e : DecodeError) (good : Data → Option X) (left rest : Items) (front : List X) (d : Data) (total : Option (List X)) → left ≡ item d rest
    → Misses e (good d) → with_front front (each good left) ≡ total → Misses e total
unfolding each
ends Memory good left rest front d total is h so_far = tt
ends Bad good left rest front d total is h so_far =
    let one : with_front front (each good left) ≡ None = rw (is, h) refl in
    sym so_far ∙ one

pub is_done : {X : Type 0} (good : Data → Option X) (left : Items) (front : List X) (total : Option (List X)) → left ≡ no_items
    → with_front front (each good left) ≡ total → total ≡ Some front
unfolding each
is_done good left front total is so_far =
    let one : with_front front (each good left) ≡ Some front = rw is (ap Some (append-nil front)) in
    sym so_far ∙ one

-- fewer items are left
pub fewer : (left rest : Items) (d : Data) → left ≡ item d rest → items_len rest < items_len left
fewer left rest d is = omega (arith, ap items_len is)
