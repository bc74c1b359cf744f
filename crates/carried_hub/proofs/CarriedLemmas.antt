-- What follows for the hub that goes on.
use Rattle.carried_hub.proofs.Common.{◌≡◌, Bool, true, false, cond, List, [], ◌∷◌, ◌++◌, All, All-weaker, All-append, All-filter, All-head, All-tail, All-cons, All-nil, filter-append, take, take_more, slice_get, slice_get_within, get_or_from_slice_get, append_assoc, ℕ, ◌+◌, Some, Result, Ok, Err, OnOk, refl, ap, ◌∙◌, sym, subst, filter, append-nil, Call, Send, Ask, AskUnit, Deviation, Fetch, Ack, state_after, IsSend, view, Names, Divide, IsOnOneSide, stays, messages_of, OthersCanBeLeftBehind, OthersDoNotMatter, IsAcknowledgement, AddAcknowledgements, HaveSameItems, GoesOnWith}

-- no acknowledgement is a message
ack_on_one_side : (names : Names) (call : Call) → IsAcknowledgement call → IsSend (IsOnOneSide names) call
ack_on_one_side names (Ack by n) is = tt
ack_on_one_side names (Send m) is = absurd is
ack_on_one_side names (Ask by w) is = tt
ack_on_one_side names (AskUnit by u) is = tt
ack_on_one_side names (Deviation by c) is = tt
ack_on_one_side names (Fetch by limit) is = tt

ack_leaves : (names : Names) (call : Call) → IsAcknowledgement call → stays names call ≡ false
ack_leaves names (Ack by n) is = refl
ack_leaves names (Send m) is = absurd is
ack_leaves names (Ask by w) is = refl
ack_leaves names (AskUnit by u) is = refl
ack_leaves names (Deviation by c) is = refl
ack_leaves names (Fetch by limit) is = refl

no_messages : (names : Names) (calls : List Call) → All IsAcknowledgement calls → messages_of names calls ≡ []
no_messages names [] all = refl
no_messages names (call ∷ calls) all =
    ap (λ b. cond b (call ∷ messages_of names calls) (messages_of names calls)) (ack_leaves names call (All-head IsAcknowledgement call calls all)) ∙ no_messages names calls (All-tail IsAcknowledgement call calls all)

-- what stays of what stays
filter_choice : {X : Type 0} (p : X → Bool) (x : X) (xs : List X) (b : Bool) → p x ≡ b → filter p xs ≡ xs → filter p (cond b (x ∷ xs) xs) ≡ cond b (x ∷ xs) xs
filter_choice p x xs true e same = ap (λ b. cond b (x ∷ filter p xs) (filter p xs)) e ∙ ap (λ ys. x ∷ ys) same
filter_choice p x xs false e same = same

filter_again : {X : Type 0} (p : X → Bool) (xs : List X) → filter p (filter p xs) ≡ filter p xs
filter_again p [] = refl
filter_again p (x ∷ xs) = filter_choice p x (filter p xs) (p x) refl (filter_again p xs)

-- no acknowledgement, and more of them
pub none_added : (calls : List Call) → AddAcknowledgements calls calls
none_added calls = record { added = []; acknowledgements = All-nil IsAcknowledgement; behind = sym (append-nil calls) }

pub one_added : (before after : List Call) (call : Call) → IsAcknowledgement call → after ≡ before ++ call ∷ [] → AddAcknowledgements before after
one_added before after call is behind = record { added = call ∷ []; acknowledgements = All-cons IsAcknowledgement call [] is (All-nil IsAcknowledgement); behind = behind }

pub more_added : (first second third : List Call) → AddAcknowledgements first second → AddAcknowledgements second third → AddAcknowledgements first third
more_added first second third a b = record {
  added = a.added ++ b.added;
  acknowledgements = All-append IsAcknowledgement a.added b.added a.acknowledgements b.acknowledgements;
  behind = b.behind ∙ ap (λ l. l ++ b.added) a.behind ∙ append_assoc first a.added b.added;
}

-- the messages that stay of one call more
pub messages_up_to : (names : Names) (calls : List Call) (i : ℕ) (call : Call) → slice_get calls i ≡ Some call → messages_of names (take (i + 1) calls) ≡ messages_of names (take i calls) ++ messages_of names (call ∷ [])
messages_up_to names calls i call here =
    ap (messages_of names) (take_more calls i call (slice_get_within calls i call here) ∙ ap (λ c. take i calls ++ c ∷ []) (get_or_from_slice_get calls i call call here)) ∙
    filter-append (stays names) (take i calls) (call ∷ [])

module _ (names : Names) (calls next : List Call) (divided : Divide names calls) (given : AddAcknowledgements (messages_of names calls) next) where
  divided_next : Divide names next
  divided_next =
      let P = IsSend (IsOnOneSide names) in
      subst (All P) (sym given.behind)
      (All-append P (messages_of names calls) given.added (All-filter (stays names) P calls divided) (All-weaker _ P (ack_on_one_side names) given.added given.acknowledgements))

  messages_next : messages_of names next ≡ messages_of names calls
  messages_next =
      ap (messages_of names) given.behind ∙ filter-append (stays names) (messages_of names calls) given.added ∙
      ap (λ l. messages_of names (messages_of names calls) ++ l) (no_messages names given.added given.acknowledgements) ∙
      append-nil (messages_of names (messages_of names calls)) ∙ filter_again (stays names) calls

  pub goes_on_with : OthersCanBeLeftBehind → OthersDoNotMatter → HaveSameItems (state_after calls) (state_after next) → GoesOnWith names calls next
  goes_on_with left others items =
      let before = left names calls divided in
      let after = left names next divided_next in
      let alike = others names calls next divided divided_next (sym messages_next) in
      record {
        given = given;
        same = alike.0;
        replies = alike.1;
        wagons = sym after.fleet ∙ ap (λ l. (state_after l).fleet) messages_next ∙ before.fleet;
        records = sym after.records ∙ ap (λ l. view (state_after l)) messages_next ∙ before.records;
        items = items;
        later = λ more more_divided.
            let P = IsSend (IsOnOneSide names) in
            others names (calls ++ more) (next ++ more) (All-append P calls more divided more_divided) (All-append P next more divided_next more_divided)
            (filter-append (stays names) calls more ∙ ap (λ l. l ++ messages_of names more) (sym messages_next) ∙ sym (filter-append (stays names) next more));
      }

pub on_ok : {T E P : Type 0} (r : Result T E) → P → OnOk r P
on_ok (Ok x) p = p
on_ok (Err e) p = tt
