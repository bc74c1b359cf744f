-- Bytes that were read or written in turn.
use Rattle.hub_replay.proofs.Common.{◌≡◌, ℕ, ◌-◌, ◌≤◌, List, [], ◌++◌, take, drop, length, Option, Some, None, refl, ap, ◌∙◌, sym, arith, append_assoc, append-nil, length-drop, take-append-drop, take_all, Appends, Consumes, Keeps}

pub Appends-none : (c : Option (List ℕ)) → Appends c c []
Appends-none None = tt
Appends-none (Some xs) = sym (append-nil xs)

pub Appends-kept : (c d : Option (List ℕ)) → Keeps c d → Appends c d []
Appends-kept None d h = tt
Appends-kept (Some xs) None h = h
Appends-kept (Some xs) (Some ys) h = h ∙ sym (append-nil xs)

pub Appends-append : (c d e : Option (List ℕ)) (xs ys : List ℕ) → Appends c d xs → Appends d e ys → Appends c e (xs ++ ys)
Appends-append None d e xs ys h k = tt
Appends-append (Some c) None e xs ys h k = absurd h
Appends-append (Some c) (Some d) None xs ys h k = absurd k
Appends-append (Some c) (Some d) (Some e) xs ys h k = k ∙ ap (λ l. l ++ ys) h ∙ append_assoc c xs ys

pub Consumes-none : (c : Option (List ℕ)) → Consumes c c []
Consumes-none None = tt
Consumes-none (Some xs) = refl

pub Consumes-append : (c d e : Option (List ℕ)) (xs ys : List ℕ) → Consumes c d xs → Consumes d e ys → Consumes c e (xs ++ ys)
Consumes-append None d e xs ys h k = tt
Consumes-append (Some c) None e xs ys h k = absurd h
Consumes-append (Some c) (Some d) None xs ys h k = absurd k
Consumes-append (Some c) (Some d) (Some e) xs ys h k = h ∙ ap (λ l. xs ++ l) k ∙ sym (append_assoc xs ys e)

-- what is left once some of it was taken
pub pushed : (bytes front rest : List ℕ) (n : ℕ) → n ≤ length rest → bytes ≡ front ++ rest → bytes ≡ (front ++ take n rest) ++ take (length rest - n) (drop n rest)
pushed bytes front rest n le e =
    let all : length (drop n rest) ≤ length rest - n = omega (arith, length-drop n rest) in
    e ∙ ap (λ l. front ++ l) (sym (take-append-drop n rest)) ∙ sym (append_assoc front (take n rest) (drop n rest)) ∙ ap (λ l. (front ++ take n rest) ++ l) (sym (take_all (length rest - n) (drop n rest) all))
