-- What a session puts by a pass, behind what was put before.
use Rattle.session_lanes.proofs.Common.{All, ◌≡◌, ℕ, List, [], ◌∷◌, ◌++◌, length, drop, sym, ap, ◌∙◌, subst, arith, append_assoc, append-nil, Result, Ok, Err, OnOk, OnErr, drop-length, drop-append-le, length-append, All-nil, All-push, Job, PassState, after_put, put_since, PutsOnly, PutsMore}

-- at its beginning it has put nothing
none_since : (began now : PassState) → now ≡ began → put_since began now ≡ []
none_since began now same = ap (λ (p : PassState). drop (length began.put) p.put) same ∙ drop-length began.put

pub puts_nothing : (began now : PassState) → now ≡ began → PutsOnly began now
puts_nothing began now same = same ∙ (λ i. record began { put = (sym (append-nil began.put) ∙ ap (λ l. began.put ++ l) (sym (none_since began now same))) i })

pub own_nothing : (session : ℕ) (began now : PassState) → now ≡ began → All (λ (j : Job). j.session ≡ session) (put_since began now)
own_nothing session began now same = subst (λ l. All (λ (j : Job). j.session ≡ session) l) (sym (none_since began now same)) (All-nil (λ (j : Job). j.session ≡ session))

-- a job more
one_since : (began before now : PassState) (job : Job) → PutsOnly began before → now ≡ after_put before job → put_since began now ≡ put_since began before ++ job ∷ []
one_since began before now job only is =
    let put : before.put ≡ began.put ++ put_since began before = ap (λ (p : PassState). p.put) only in
    let long = ap (λ (l : List Job). length l) put in
    let sum = length-append began.put (put_since began before) in
    ap (λ (p : PassState). drop (length began.put) p.put) is ∙ drop-append-le (length began.put) before.put (job ∷ []) (omega (arith, long, sum))

pub puts_one : (began before now : PassState) (job : Job) → PutsOnly began before → now ≡ after_put before job → PutsOnly began now
puts_one began before now job only is =
    is ∙ (ap (λ (p : PassState). after_put p job) only
    ∙ (λ i. record began { put = (append_assoc began.put (put_since began before) (job ∷ []) ∙ ap (λ l. began.put ++ l) (sym (one_since began before now job only is))) i }))

pub own_one : (session : ℕ) (began before now : PassState) (job : Job) → PutsOnly began before → All (λ (j : Job). j.session ≡ session) (put_since began before) → job.session ≡ session → now ≡ after_put before job → All (λ (j : Job). j.session ≡ session) (put_since began now)
own_one session began before now job only own mine is =
    subst (λ l. All (λ (j : Job). j.session ≡ session) l) (sym (one_since began before now job only is)) (All-push (λ (j : Job). j.session ≡ session) (put_since began before) job own mine)

pub puts_more : (session : ℕ) (began now : PassState) → PutsOnly began now → All (λ (j : Job). j.session ≡ session) (put_since began now) → PutsMore session began now
puts_more session began now only own = record { put = put_since began now; own_jobs = own; pass_is = only }

-- after a put, whether or not the job was taken
pub after_send : (session : ℕ) (began before now : PassState) (job : Job) (result : Result (Unit {0}) Job)
    → OnOk result (now ≡ after_put before job) → OnErr result (now ≡ before)
    → PutsOnly began before → All (λ (j : Job). j.session ≡ session) (put_since began before) → job.session ≡ session
    → PutsOnly began now × All (λ (j : Job). j.session ≡ session) (put_since began now)
after_send session began before now job (Ok done) took same only own mine = (puts_one began before now job only took, own_one session began before now job only own mine took)
after_send session began before now job (Err back) took same only own mine =
    subst (λ p. PutsOnly began p × All (λ (j : Job). j.session ≡ session) (put_since began p)) (sym same) (only, own)
