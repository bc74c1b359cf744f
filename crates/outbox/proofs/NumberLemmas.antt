-- Numbered items.
use Rattle.outbox.proofs.Common.{◌≡◌, ℕ, ◌+◌, ◌≤◌, List, [], ◌∷◌, ◌++◌, length, take, drop, zero, suc, refl, sym, ap, ◌∙◌, arith, append-nil, append_assoc, take_all, take-append-le, Item, ItemBody, OutboxState, items_from_number, first_items, Keeps, items_to_fetch}

-- the first items are those of the first bodies
take-numbered_items : (n k : ℕ) (bodies : List ItemBody) → take k (items_from_number n bodies) ≡ items_from_number n (take k bodies)
take-numbered_items n zero [] = refl
take-numbered_items n (suc k) [] = refl
take-numbered_items n zero (b ∷ bodies) = refl
take-numbered_items n (suc k) (b ∷ bodies) = ap (λ (items : List _). record { number = n + 1; body = b } ∷ items) (take-numbered_items (n + 1) k bodies)

-- items that others may follow, when they are as many as are wanted
pub first_numbered : (items : List Item) (n m k : ℕ) (bodies rest : List ItemBody) → items ++ items_from_number m rest ≡ items_from_number n bodies → length items ≡ k → items ≡ items_from_number n (take k bodies)
first_numbered items n m k bodies rest whole count =
    let few : length items ≤ k = omega arith in
    let many : k ≤ length items = omega arith in
    sym (take-append-le k items (items_from_number m rest) many ∙ take_all k items few) ∙ ap (take k) whole ∙ take-numbered_items n k bodies

-- items that none follow, when no fewer are wanted
pub all_numbered : (items : List Item) (n m k : ℕ) (bodies rest : List ItemBody) → items ++ items_from_number m rest ≡ items_from_number n bodies → length rest ≡ 0 → length items ≤ k → items ≡ items_from_number n (take k bodies)
all_numbered items n m k bodies [] whole none count = sym (take_all k items count) ∙ ap (take k) (sym (append-nil items) ∙ whole) ∙ take-numbered_items n k bodies
all_numbered items n m k bodies (b ∷ rest) whole none count = absurd (let no : ⊥ = omega (arith, none) in no)

-- items with the next one put behind them
pub numbered_more : (items more : List Item) (n m : ℕ) (b : ItemBody) (bodies rest : List ItemBody) (all : List Item) → items ++ items_from_number n bodies ≡ all → bodies ≡ b ∷ rest → m ≡ n + 1 → more ≡ items ++ record { number = m; body = b } ∷ [] →
    more ++ items_from_number m rest ≡ all
numbered_more items more n m b bodies rest all whole is next put =
    let item : ℕ → Item = λ k. record { number = k; body = b } in
    ap (λ (l : List Item). l ++ items_from_number m rest) put ∙ append_assoc items (item m ∷ []) (items_from_number m rest) ∙ ap (λ k. items ++ item k ∷ items_from_number k rest) next ∙ ap (λ l. items ++ items_from_number n l) (sym is) ∙ whole

-- the items after a number are numbered on from there
drop-numbered_items : (n k : ℕ) (bodies : List ItemBody) → drop k (items_from_number n bodies) ≡ items_from_number (n + k) (drop k bodies)
drop-numbered_items n zero [] = refl
drop-numbered_items n (suc k) [] = refl
drop-numbered_items n zero (b ∷ bodies) = let e : n ≡ n + 0 = omega arith in λ i. items_from_number (e i) (b ∷ bodies)
drop-numbered_items n (suc k) (b ∷ bodies) = let e : n + 1 + k ≡ n + suc k = omega arith in drop-numbered_items (n + 1) k bodies ∙ (λ i. items_from_number (e i) (drop k bodies))

-- a fetch of what is kept
pub first_items-kept : (kept : OutboxState) (bodies : List ItemBody) (n limit : ℕ) → Keeps kept bodies n → first_items kept limit ≡ items_to_fetch bodies n limit
first_items-kept kept bodies n limit keeps =
    let e : n ≡ 0 + n = omega arith in
    (λ i. items_from_number (keeps.number i) (take limit (keeps.rest i)))
    ∙ sym (take-numbered_items n limit (drop n bodies))
    ∙ (λ i. take limit (items_from_number (e i) (drop n bodies)))
    ∙ ap (take limit) (sym (drop-numbered_items 0 n bodies))
