use Rattle.hub_core.proofs.Common.{bytes_eq, map, drain_items, ◌≡◌, ℕ, ◌<◌, Bool, true, false, cond, length, List, [], ◌∷◌, ◌++◌, ap, ◌∙◌, sym, subst, ◌≤◌, ◌+◌, arith, append_assoc, append-nil, ◌^◌, suc, length-append, map-append, All-weaker, All-from_recursion, recursion_from_All, filter-append, Railway, ItemBody, OutboxState, outbox_state_of, last_of, with_items, items_to, AddressedItem, AreReady, IsReady}
use Rattle.hub_core.proofs.delivery.deliver.Goals as goal

-- a box that is ready still is once one item is put, into this box or another
still_ready : (b : Bool) (old new : OutboxState) (body : ItemBody) (k m n room room' : ℕ) →
    new ≡ cond b (with_items old (body ∷ [])) old → room' + cond b 1 0 ≡ room → k < m → (last_of old < k) × (suc n ≤ room) → (last_of new < m) × (n ≤ room')
still_ready true old new body k m n room room' kept left more h = (omega (arith, ap last_of kept, length-append old.bodies (body ∷ []), h.0, more), omega (arith, left, h.1))
still_ready false old new body k m n room room' kept left more h = (omega (arith, ap last_of kept, h.0, more), omega (arith, left, h.1))

kept_with_one : (b : Bool) (first : OutboxState) (bodies : List ItemBody) (i : AddressedItem) →
    cond b (with_items (with_items first bodies) (i.body ∷ [])) (with_items first bodies) ≡ with_items first (bodies ++ map (λ (x : AddressedItem). x.body) (cond b (i ∷ []) []))
kept_with_one true first bodies i = ap (with_items (record first { bodies = [] })) (append_assoc first.bodies bodies (i.body ∷ []))
kept_with_one false first bodies i = ap (with_items first) (sym (append-nil bodies))

-- what is kept once one item more is put
with_one_more : (r : Railway) (first : OutboxState) (items : List AddressedItem) (i : AddressedItem) →
    cond (bytes_eq i.to r) (with_items (with_items first (items_to r items)) (i.body ∷ [])) (with_items first (items_to r items)) ≡ with_items first (items_to r (items ++ i ∷ []))
with_one_more r first items i =
    rw (filter-append (λ (x : AddressedItem). bytes_eq x.to r) items (i ∷ []), map-append) (kept_with_one (bytes_eq i.to r) first (items_to r items) i)

-- all items are in the boxes
pub returns : goal.returns
returns c = λ r.
    let put = c.loop-item.yielded in
    let all : put ≡ c.args.items.now.items = sym (append-nil put) ∙ ap (λ (more : List AddressedItem). put ++ more) (sym c.in-None.ensures.steps.0) ∙ c.loop-item.invariant.2 in
    c.loop-item.invariant.0 r ∙ ap (λ (is : List AddressedItem). with_items (outbox_state_of c.args.outboxes.now r) (items_to r is)) all

pub loop-item-preserved : goal.loop-item-preserved
loop-item-preserved c =
    let i = c.in-Some.item in
    let before = c.loop-item.yielded in
    let others = drain_items c.next.new.self in
    let rest : drain_items c.loop-item.item-iterator ≡ i ∷ others = c.in-Some.ensures.steps.0 in
    let put = c.put-number.ensures in
    let k : ℕ = 2 ^ 62 + length before in
    let m : ℕ = 2 ^ 62 + length (before ++ i ∷ []) in
    let P : AddressedItem → Type 0 = IsReady c.loop-item.outboxes k (length (i ∷ others)) in
    let Q : AddressedItem → Type 0 = IsReady c.put-number.new.self m (length others) in
    let ready : AreReady c.loop-item.outboxes k (length (i ∷ others)) (i ∷ others) = subst (λ (qs : List AddressedItem). AreReady c.loop-item.outboxes k (length qs) qs) rest c.loop-item.invariant.1 in (
      (λ r. put.kept r ∙ ap (λ (kept : OutboxState). cond (bytes_eq i.to r) (with_items kept (i.body ∷ [])) kept) (c.loop-item.invariant.0 r) ∙ with_one_more r (outbox_state_of c.args.outboxes.now r) before i),
      recursion_from_All Q others (All-weaker P Q (λ j h. still_ready (bytes_eq i.to j.to) _ _ i.body k m (length others) _ _ (put.kept j.to) (put.room j.to) (omega (arith, length-append before (i ∷ []))) h) others (All-from_recursion P others ready.1)),
      append_assoc before (i ∷ []) others ∙ ap (λ (more : List AddressedItem). before ++ more) (sym rest) ∙ c.loop-item.invariant.2,
    )
