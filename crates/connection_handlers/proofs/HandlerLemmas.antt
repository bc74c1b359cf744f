-- A handler that served sessions, and serves one more.
use Rattle.connection_handlers.proofs.Common.{◌≡◌, ℕ, Option, List, [], ◌∷◌, ◌++◌, sym, ap, ◌∙◌, subst, append_assoc, append-nil, All, flat_map, flat_map-append, All-nil, All-push, All-append, All-head, All-tail, PassState, Job, Told, streams_of, IsServedNext, Served, SessionStart, ServedSession, IsSessionOf, put_of, IsHandler}

-- at its beginning it has served none
pub no_session : (number : ℕ) (began now : PassState) (told : List Told) → told ≡ [] → now ≡ began → IsHandler number began told now
no_session number began now told none same = record {
  sessions = [];
  each = All-nil (IsSessionOf number);
  told_is = none;
  pass_is = same ∙ (λ i. record began { put = sym (append-nil began.put) i });
}

last_of : {A : Type 0} (f : ServedSession → List A) (sessions : List ServedSession) (s : ServedSession) → flat_map f (sessions ++ s ∷ []) ≡ flat_map f sessions ++ f s
last_of f sessions s = flat_map-append f sessions (s ∷ []) ∙ ap (λ l. flat_map f sessions ++ l) (append-nil (f s))

-- a session more
pub one_session : {S K : Type 0} (remaining : S → Option (List ℕ)) (written : K → Option (List ℕ)) (began : PassState) (start : SessionStart S K) (told : List Told) (s : Served)
    → IsHandler start.session began told start.pass → IsServedNext remaining written start told s → IsHandler start.session began s.tally.entries s.pass
one_session remaining written began start told s h n =
    let one : ServedSession = record { began = streams_of (remaining start.reader) (written start.writer); end = s.end; told = n.more; put = n.put } in
    record {
      sessions = h.sessions ++ one ∷ [];
      each = All-push (IsSessionOf start.session) h.sessions one h.each (record { ended = n.ended; own_jobs = n.own_jobs });
      told_is = n.told_is ∙ (ap (λ l. l ++ n.more) h.told_is ∙ sym (last_of (λ (u : ServedSession). u.told) h.sessions one));
      pass_is = n.pass_is ∙ (ap (λ (p : PassState). record p { put = p.put ++ n.put }) h.pass_is
          ∙ (λ i. record began { put = (append_assoc began.put (put_of h.sessions) n.put ∙ ap (λ l. began.put ++ l) (sym (last_of (λ (u : ServedSession). u.put) h.sessions one))) i }));
    }

-- what its sessions put is of its number
pub own_of_sessions : (number : ℕ) (sessions : List ServedSession) → All (IsSessionOf number) sessions → All (λ (j : Job). j.session ≡ number) (put_of sessions)
own_of_sessions number [] each = All-nil (λ (j : Job). j.session ≡ number)
own_of_sessions number (s ∷ sessions) each =
    All-append (λ (j : Job). j.session ≡ number) s.put (put_of sessions) (All-head (IsSessionOf number) s sessions each).own_jobs
    (own_of_sessions number sessions (All-tail (IsSessionOf number) s sessions each))

-- so is what its pass put, if that had put nothing before
pub puts : (number : ℕ) (began now : PassState) (told : List Told) → began.put ≡ [] → (h : IsHandler number began told now) → now.put ≡ put_of h.sessions
puts number began now told none h = ap (λ (p : PassState). p.put) h.pass_is ∙ ap (λ l. l ++ put_of h.sessions) none

pub puts_own_jobs : (number : ℕ) (began now : PassState) (told : List Told) → began.put ≡ [] → IsHandler number began told now → All (λ (j : Job). j.session ≡ number) now.put
puts_own_jobs number began now told none h =
    subst (λ l. All (λ (j : Job). j.session ≡ number) l) (sym (puts number began now told none h)) (own_of_sessions number h.sessions h.each)

pub puts_alone : (number : ℕ) (began now : PassState) (told : List Told) → IsHandler number began told now → now ≡ record began { put = now.put }
puts_alone number began now told h = h.pass_is ∙ (λ i. record began { put = sym (ap (λ (p : PassState). p.put) h.pass_is) i })
