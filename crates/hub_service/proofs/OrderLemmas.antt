-- The jobs of a handler's sessions in its lane, and the entries of its sessions in the history.
use Rattle.hub_service.proofs.Common.{◌≡◌, ℕ, suc, zero, List, [], ◌∷◌, ◌++◌, map, get_or, drop, refl, sym, ap, ◌∙◌, subst, arith, All, All-nil, All-cons, All-weaker, map-append, flat_map, Told, TallyState, EachAt, each_of_map, Of, each_in_order, tells_own, tells_history, first_all, rest_all, StandsIn, ServedSession, IsSessionOf, told_of, own_of_sessions, Entry, Interleaves, entries_of, entry_of, IsTold, told_in_order, WorkerState, HandlerState, IsOfHandler, TellsAsSession, entries_told, entries_of_handler, entries_of_sessions, SessionsInOrder, HandlersInOrder}
use mathlib.Core.List.{map-map}
use Rattle.hub_service.proofs.RegroupLemmas.{joined, regroup}

-- ---- jobs

own_of_handler : (number : ℕ) (h : HandlerState) → IsOfHandler number h → Of number h.put
own_of_handler number h is = subst (λ l. Of number l) (sym is.put_is) (own_of_sessions number h.sessions is.each)

pub handlers_in_order : HandlersInOrder
handlers_in_order handlers workers s service some i h low w =
    let lanes = service.by_handlers in
    each_in_order (λ (y : HandlerState). y.put) (λ (u : WorkerState). u.taken) workers service.served service.worked s.left.items lanes.kept some
    (λ k y inside. own_of_handler k (get_or service.served k y) (lanes.of_handlers k y inside)) i h low w ∙ (lanes.of_handlers i h low).put_is

-- ---- entries

entries_one_by_one : (sessions : List ServedSession) → map entry_of (told_of sessions) ≡ flat_map entries_told sessions
entries_one_by_one [] = refl
entries_one_by_one (s ∷ sessions) = map-append entry_of s.told (told_of sessions) ∙ ap (λ l. map entry_of s.told ++ l) (entries_one_by_one sessions)

map_each : {X Y : Type 0} (f g : X → Y) (xs : List X) → EachAt (λ k x. f x ≡ g x) xs → map f xs ≡ map g xs
map_each f g [] each = refl
map_each f g (x ∷ xs) each =
    ap (λ y. y ∷ map f xs) (each zero x (omega arith)) ∙ ap (λ l. g x ∷ l) (map_each f g xs (λ k d low. each (suc k) d (omega (arith, low))))

flat_of_map : {X Y : Type 0} {A : Type 0} (f : Y → List A) (g : X → Y) (xs : List X) → flat_map f (map g xs) ≡ flat_map (λ x. f (g x)) xs
flat_of_map f g [] = refl
flat_of_map f g (x ∷ xs) = ap (λ l. f (g x) ++ l) (flat_of_map f g xs)

entries_are : (tallies : List TallyState) (served : List HandlerState) → tallies ≡ map (λ (h : HandlerState). h.tally) served → EachAt IsOfHandler served → entries_of tallies ≡ map entries_of_handler served
entries_are tallies served is each =
    ap entries_of is ∙ (map-map (λ (p : TallyState). map entry_of p.entries) (λ (h : HandlerState). h.tally) served
    ∙ map_each (λ (h : HandlerState). map entry_of h.tally.entries) entries_of_handler served (λ k d low. let known = each k d low in ap (λ l. map entry_of l) known.told_is ∙ entries_one_by_one (get_or served k d).sessions))

-- the sessions of each handler
abbrev groups_of : List HandlerState → List (List (List Entry))
groups_of served = map (λ (h : HandlerState). map entries_told h.sessions) served

groups_joined : (served : List HandlerState) → map joined (groups_of served) ≡ map entries_of_handler served
groups_joined served =
    map-map joined (λ (h : HandlerState). map entries_told h.sessions) served
    ∙ map_each (λ (h : HandlerState). joined (map entries_told h.sessions)) entries_of_handler served (λ k d low. flat_of_map (λ (l : List Entry). l) entries_told (get_or served k d).sessions)

all_joined : (served : List HandlerState) → joined (groups_of served) ≡ entries_of_sessions served
all_joined served = flat_of_map (λ (l : List (List Entry)). l) (λ (h : HandlerState). map entries_told h.sessions) served

-- what holds of all that sessions were told holds of what each was told
each_told : (P : Told → Type 0) (sessions : List ServedSession) → All P (told_of sessions) → All (λ (u : ServedSession). All P u.told) sessions
each_told P [] all = All-nil (λ (u : ServedSession). All P u.told)
each_told P (u ∷ sessions) all =
    All-cons (λ (v : ServedSession). All P v.told) u sessions (first_all P u.told (told_of sessions) all) (each_told P sessions (rest_all P u.told (told_of sessions) all))

-- all that the sessions of a handler were told stands in the history
stands_at : (history : List Entry) (tallies : List TallyState) (served : List HandlerState) → tallies ≡ map (λ (h : HandlerState). h.tally) served → EachAt IsOfHandler served
    → All (λ (p : TallyState). All (StandsIn history) p.entries) tallies
    → EachAt (λ k (h : HandlerState). All (λ (u : ServedSession). All (StandsIn history) u.told) h.sessions) served
stands_at history tallies served is each stands k d low =
    let here = each_of_map (λ (h : HandlerState). h.tally) (λ (p : TallyState). All (StandsIn history) p.entries) tallies served is stands k d low in
    each_told (StandsIn history) (get_or served k d).sessions (subst (All (StandsIn history)) (each k d low).told_is here)

pub sessions_in_order : SessionsInOrder
sessions_in_order handlers workers s service =
    let served = service.served in
    let lanes = service.by_handlers in
    let since = drop s.earlier s.hub in
    let same = entries_are s.tallies.items served lanes.tallies_are lanes.of_handlers in
    let by_handlers : IsTold s.hub s.earlier s.tallies.items → Interleaves (map entries_of_handler served) since = λ told. subst (λ l. Interleaves l since) same (told_in_order s.hub s.earlier s.tallies.items told) in (
      λ k d low.
          All-weaker (IsSessionOf k) (TellsAsSession k) (λ (u : ServedSession) is. tells_own k u.began u.end u.told u.put is.ended)
          (get_or served k d).sessions (lanes.of_handlers k d low).each,
      λ told.
          record {
            sessions = λ k d low.
                let each = (lanes.of_handlers k d low).each in
                let stands = stands_at s.hub s.tallies.items served lanes.tallies_are lanes.of_handlers told.stands k d low in
                let sessions = (get_or served k d).sessions in
                λ j e within. let u = get_or sessions j e in tells_history s.hub k u.began u.end u.told u.put (each j e within).ended (stands j e within);
            by_sessions = subst (λ l. Interleaves l since) (all_joined served)
                (regroup since (groups_of served) (subst (λ l. Interleaves l since) (sym (groups_joined served)) (by_handlers told)));
            by_handlers = by_handlers told;
          },
    )
