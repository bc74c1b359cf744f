-- What a handler left.
use Rattle.hub_service.proofs.Common.{◌≡◌, ℕ, suc, zero, ◌+◌, ◌<◌, List, [], ◌∷◌, length, map, get_or, refl, sym, ap, ◌∙◌, subst, arith, length-map, SessionStart, Served, puts, JournaledHub, AreKept, taken_lists, ServedHub, IsServedHub, ServedJournaledHub, IsServedJournaledHub, Service, IsServedHandler, HandlerState, IsOfHandler, put_lists, service_of, IsService, IsJournaledService}

-- what handlers left, the first of which has this number
pub record Left (n : ℕ) (served : List Served) : Type 0 where
  pub states : List HandlerState
  pub long : length states ≡ length served
  pub is : (i : ℕ) (d : HandlerState) → i < length states → IsOfHandler (n + i) (get_or states i d)
  pub tallies : map (λ (r : Served). r.tally) served ≡ map (λ (h : HandlerState). h.tally) states
  pub puts : map (λ (r : Served). r.pass.put) served ≡ put_lists states

with_first : (n : ℕ) (h : HandlerState) (states : List HandlerState) → IsOfHandler n h → ((i : ℕ) (e : HandlerState) → i < length states → IsOfHandler (n + 1 + i) (get_or states i e))
    → (i : ℕ) (e : HandlerState) → i < length (h ∷ states) → IsOfHandler (n + i) (get_or (h ∷ states) i e)
with_first n h states first rest zero e low = subst (λ m. IsOfHandler m h) (let z : n ≡ n + 0 = omega arith in z) first
with_first n h states first rest (suc i) e low = subst (λ m. IsOfHandler m (get_or states i e)) (let z : n + 1 + i ≡ n + suc i = omega arith in z) (rest i e (omega (arith, low)))

-- what one left, by what it is known to have served
state_of : {A K : Type 0} (number : ℕ) (start : SessionStart A K) (s : Served) → start.session ≡ number → start.pass.put ≡ [] → IsServedHandler start s
    → (h : HandlerState) × IsOfHandler number h × (h.tally ≡ s.tally) × (h.put ≡ s.pass.put)
state_of number start s numbered none is = (
  record { sessions = is.sessions; tally = s.tally; put = s.pass.put },
  subst (λ m. IsOfHandler m (record { sessions = is.sessions; tally = s.tally; put = s.pass.put })) numbered
      (record { each = is.each; told_is = is.told_is; put_is = puts start.session start.pass s.pass s.tally.entries none is }),
  refl,
  refl,
)

pub states_of : {A K : Type 0} (n : ℕ) (starts : List (SessionStart A K)) (served : List Served) → length served ≡ length starts
    → ((i : ℕ) (s : SessionStart A K) → i < length starts → (get_or starts i s).session ≡ n + i)
    → ((i : ℕ) (s : SessionStart A K) → i < length starts → (get_or starts i s).pass.put ≡ [])
    → ((i : ℕ) (s : SessionStart A K) (r : Served) → i < length starts → IsServedHandler (get_or starts i s) (get_or served i r))
    → Left n served
states_of n [] [] same numbered none each = record { states = []; long = refl; is = λ i d low. absurd (omega (arith, low)); tallies = refl; puts = refl }
states_of n [] (r ∷ served) same numbered none each = absurd (omega (arith, same))
states_of n (s ∷ starts) [] same numbered none each = absurd (omega (arith, same))
states_of n (s ∷ starts) (r ∷ served) same numbered none each =
    let zero_at : n + zero ≡ n = omega arith in
    let first = state_of n s r (numbered zero s (omega arith) ∙ zero_at) (none zero s (omega arith)) (each zero s r (omega arith)) in
    let more = states_of (n + 1) starts served (omega (arith, same))
    (λ i t low. numbered (suc i) t (omega (arith, low)) ∙ (let z : n + suc i ≡ n + 1 + i = omega arith in z))
    (λ i t low. none (suc i) t (omega (arith, low))) (λ i t q low. each (suc i) t q (omega (arith, low))) in
    record {
      states = first.0 ∷ more.states;
      long = ap suc more.long;
      is = with_first n first.0 more.states first.1 more.is;
      tallies = ap (λ t. t ∷ map (λ (q : Served). q.tally) served) (sym first.2) ∙ ap (λ l. first.0.tally ∷ l) more.tallies;
      puts = ap (λ t. t ∷ map (λ (q : Served). q.pass.put) served) (sym first.3) ∙ ap (λ l. first.0.put ∷ l) more.puts;
    }

-- a service, by the threads that served around its hub
is_service : {A K : Type 0} (handlers : List (A × K)) (workers : ℕ) (s : ServedHub)
    → IsServedHub (λ (start : SessionStart A K) r. IsServedHandler start r) handlers workers s → IsService (length handlers) workers (service_of s)
is_service {A} {K} handlers workers s h =
    let starts = h.given.starts in
    let same : length h.served ≡ length starts = h.given.each.0 in
    let left = states_of 0 starts h.served same
    (λ i t low. (h.given.begin i t low).0 ∙ (let z : i ≡ 0 + i = omega arith in z))
    (λ i t low. (h.given.begin i t low).1)
    (λ i t r low. (h.given.each.1 i t r low).served) in
    let ends_of : SessionStart A K → A × K = λ t. (t.reader, t.writer) in
    let many : length starts ≡ length handlers = sym (length-map starts ends_of) ∙ ap (λ (l : List (A × K)). length l) h.given.ends_are in
    record {
      served = left.states;
      worked = h.hub.worked;
      run = h.hub.run;
      sum_is = h.hub.sum_is;
      by_handlers = record {
        handler_count = left.long ∙ (same ∙ many);
        tallies_are = h.hub.tallies_are ∙ left.tallies;
        of_handlers = λ i d low. subst (λ m. IsOfHandler m (get_or left.states i d)) (let z : 0 + i ≡ i = omega arith in z) (left.is i d low);
        kept = subst (λ p. AreKept workers p (taken_lists h.hub.worked) s.left.items) left.puts h.hub.kept;
      };
      makes_calls = h.hub.makes_calls;
      calls = h.hub.calls;
      faults = h.hub.faults;
    }

pub is_service_of : {A K : Type 0} (handlers : List (A × K)) (count workers : ℕ) (s : ServedHub) (t : Service) → count ≡ length handlers → t ≡ service_of s
    → IsServedHub (λ (start : SessionStart A K) r. IsServedHandler start r) handlers workers s → IsService count workers t
is_service_of handlers count workers s t many is h =
    subst (λ n. IsService n workers t) (sym many) (subst (IsService (length handlers) workers) (sym is) (is_service handlers workers s h))

-- and a service with a journal
pub is_journaled_of : {F A K : Type 0} (handlers : List (A × K)) (count : ℕ) (began : JournaledHub F) (s : ServedJournaledHub F) (t : Service) → count ≡ length handlers → t ≡ service_of s.served
    → IsServedJournaledHub (λ (start : SessionStart A K) r. IsServedHandler start r) handlers began s
    → IsJournaledService count began (record { service = t; journal = s.journal })
unfolding is_service
is_journaled_of handlers count began s t many is h =
    subst (λ n. IsJournaledService n began (record { service = t; journal = s.journal })) (sym many)
    (subst (λ u. IsJournaledService (length handlers) began (record { service = u; journal = s.journal })) (sym is)
    (record { service = is_service handlers 1 s.served h.served; earlier = h.earlier; journal = h.journal }))
