-- How what a session does between a writer and a port is put together.
use Rattle.session_serving.proofs.Common.{◌≡◌, ℕ, Bool, true, false, List, [], ◌∷◌, ◌++◌, take, drop, Some, None, refl, ap, sym, ◌∙◌, append_assoc, append-nil, subst, arith, false≢true, Job, State, text, cut_after, CutsNext, Advances, Discards, Output, output_of, Writes, Says, Sends, Exchange, exchange_of, Serves, ServesFirst}
use Rattle.session_serving.proofs.CutLemmas.{cut-left, chunk-cut, chunk-last}
use Rattle.session_serving.proofs.EventLemmas.{advances-none, advances-then}
use Rattle.session_serving.proofs.WriteLemmas.{writes_none, writes-then, writes-part}

text-append : (xs ys : List (List ℕ)) → text (xs ++ ys) ≡ text xs ++ text ys
text-append [] ys = refl
text-append (x ∷ xs) ys = ap (λ t. (x ++ 10 ∷ []) ++ t) (text-append xs ys) ∙ sym (append_assoc (x ++ 10 ∷ []) (text xs) (text ys))

-- ---- jobs

pub sends_none : (a : List Job) (all : Bool) → Sends a a all []
sends_none a all = record { lost = []; parts = refl; few = omega arith; none = λ _. refl }

sends-then : (a b c : List Job) (all : Bool) (j1 j2 : List Job) → Sends a b true j1 → Sends b c all j2 → Sends a c all (j1 ++ j2)
sends-then a b c all j1 j2 f g =
    let first : b ≡ a ++ j1 = sym (append-nil b) ∙ ap (λ l. b ++ l) (sym (f.none refl)) ∙ f.parts in
    record {
      lost = g.lost;
      parts = g.parts ∙ ap (λ l. l ++ j2) first ∙ append_assoc a j1 j2;
      few = g.few;
      none = g.none;
    }

-- ---- what is said with nothing read

pub says_none : (s : State) (a : Output) (full : Bool) → Says s a s a full
says_none s a full = record { said = []; advances = advances-none s; writes = writes_none a full; id = refl; count = refl }

-- nothing is said, and something written
pub says_put : (s : State) (a b : Output) (full : Bool) → Writes a b full [] → Says s a s b full
says_put s a b full w = record { said = []; advances = advances-none s; writes = w; id = refl; count = refl }

pub says-line : (s n : State) (a b : Output) (line : List ℕ) (full : Bool) → Advances s [] [] (line ∷ []) n → n.id ≡ s.id → n.job_count ≡ s.job_count → Writes a b full (line ++ 10 ∷ []) → Says s a n b full
says-line s n a b line full g id count w = record { said = line ∷ []; advances = g; writes = subst (λ t. Writes a b full t) (sym (append-nil (line ++ 10 ∷ []))) w; id = id; count = count }

pub says-then : (s m n : State) (a b c : Output) (full : Bool) → Says s a m b true → Says m b n c full → Says s a n c full
says-then s m n a b c full f g = record {
  said = f.said ++ g.said;
  advances = advances-then s m n [] [] [] [] f.said g.said f.advances g.advances;
  writes = subst (λ t. Writes a c full t) (sym (text-append f.said g.said)) (writes-then a b c full (text f.said) (text g.said) f.writes g.writes);
  id = g.id ∙ f.id;
  count = g.count ∙ f.count;
}

-- ---- what is served

pub serves_none : (a : Exchange) (full all : Bool) → Serves a [] a full all
serves_none a full all = record { said = []; jobs = []; advances = advances-none a.state; writes = writes_none (output_of a.written a.pending) full; sends = sends_none a.sent all }

pub serves-then : (a b c : Exchange) (r1 r2 : List (List ℕ)) (full all : Bool) → Serves a r1 b true true → Serves b r2 c full all → Serves a (r1 ++ r2) c full all
serves-then a b c r1 r2 full all f g = record {
  said = f.said ++ g.said;
  jobs = f.jobs ++ g.jobs;
  advances = advances-then a.state b.state c.state r1 r2 f.jobs g.jobs f.said g.said f.advances g.advances;
  writes = subst (λ t. Writes (output_of a.written a.pending) (output_of c.written c.pending) full t) (sym (text-append f.said g.said))
      (writes-then (output_of a.written a.pending) (output_of b.written b.pending) (output_of c.written c.pending) full (text f.said) (text g.said) f.writes g.writes);
  sends = sends-then a.sent b.sent c.sent all f.jobs g.jobs f.sends g.sends;
}

-- what is said without a line read
pub serves-says : (s n : State) (a b : Output) (sent new : List Job) (full all : Bool) → new ≡ sent → Says s a n b full → Serves (exchange_of s a.written a.pending sent) [] (exchange_of n b.written b.pending new) full all
serves-says s n a b sent new full all e f = record {
  said = f.said;
  jobs = [];
  advances = f.advances;
  writes = f.writes;
  sends = subst (λ l. Sends sent l all []) (sym e) (sends_none sent all);
}

-- nothing more is read
pub serves-on : (a b c : Exchange) (reads : List (List ℕ)) (full all : Bool) → Serves a reads b true true → Serves b [] c full all → Serves a reads c full all
serves-on a b c reads full all f g = subst (λ l. Serves a l c full all) (append-nil reads) (serves-then a b c reads [] full all f g)

-- the session goes on, and nothing more is written or sent
pub serves-discards : (a b : Exchange) (n : State) (sent : List Job) (reads : List (List ℕ)) (full all : Bool) → sent ≡ b.sent → Serves a reads b full all → Discards b.state n → Serves a reads (exchange_of n b.written b.pending sent) false all
serves-discards a b n sent reads full all e f g =
    let writes = writes-part (output_of a.written a.pending) (output_of b.written b.pending) full (text f.said) (text g.0) f.writes in
    record {
      said = f.said ++ g.0;
      jobs = f.jobs;
      advances = subst (λ l. Advances a.state l f.jobs (f.said ++ g.0) n) (append-nil reads) (subst (λ l. Advances a.state (reads ++ []) l (f.said ++ g.0) n) (append-nil f.jobs) (advances-then a.state b.state n reads [] f.jobs [] f.said g.0 f.advances g.1));
      writes = subst (λ t. Writes (output_of a.written a.pending) (output_of b.written b.pending) false t) (sym (text-append f.said g.0)) writes;
      sends = subst (λ l. Sends a.sent l all f.jobs) (sym e) f.sends;
    }

-- ---- the first of some lines

pub first-then : (a b c : Exchange) (first then : List (List ℕ)) (full all on : Bool) → Serves a first b true true → ServesFirst b then c full all on → ServesFirst a (first ++ then) c full all on
first-then a b c first then full all on f g = record {
  reads = first ++ g.reads;
  more = g.more;
  parts = append_assoc first g.reads g.more ∙ ap (λ l. first ++ l) g.parts;
  serves = serves-then a b c first g.reads full all f g.serves;
  each = g.each;
}

-- no line more is given
pub first-part : (a c : Exchange) (lines more : List (List ℕ)) (full all : Bool) → ServesFirst a lines c full all false → ServesFirst a (lines ++ more) c full all false
first-part a c lines more full all f = record {
  reads = f.reads;
  more = f.more ++ more;
  parts = sym (append_assoc f.reads f.more more) ∙ ap (λ l. l ++ more) f.parts;
  serves = f.serves;
  each = λ e. absurd (false≢true e);
}

-- all lines were given
pub first-whole : (a c : Exchange) (lines : List (List ℕ)) (full all : Bool) → ServesFirst a lines c full all true → Serves a lines c full all
first-whole a c lines full all f = subst (λ l. Serves a l c full all) (sym (append-nil f.reads) ∙ ap (λ l. f.reads ++ l) (sym (f.each refl)) ∙ f.parts) f.serves

pub first-all : (a c : Exchange) (lines : List (List ℕ)) (full all on : Bool) → Serves a lines c full all → ServesFirst a lines c full all on
first-all a c lines full all on f = record { reads = lines; more = []; parts = append-nil lines; serves = f; each = λ _. refl }

pub first-none : (a c : Exchange) (lines : List (List ℕ)) (full all : Bool) → Serves a [] c full all → ServesFirst a lines c full all false
first-none a c lines full all f = record { reads = []; more = lines; parts = refl; serves = f; each = λ e. absurd (false≢true e) }

pub first-same : (a c : Exchange) (lines others : List (List ℕ)) (full all on : Bool) → lines ≡ others → ServesFirst a lines c full all on → ServesFirst a others c full all on
first-same a c lines others full all on e f = subst (λ l. ServesFirst a l c full all on) e f

-- a line is given, once there is room for it
pub first-line : (a b c : Exchange) (read line : List ℕ) (full all on : Bool) → read ≡ line → Serves a [] b true true → Serves b (read ∷ []) c full all → ServesFirst a (line ∷ []) c full all on
first-line a b c read line full all on e f g = first-same a c (read ∷ []) (line ∷ []) full all on (ap (λ l. l ∷ []) e) (first-all a c (read ∷ []) full all on (serves-then a b c [] (read ∷ []) full all f g))

-- ---- chunks, a line at a time

pub chunk-on : (a b c : Exchange) (rest chunk now kept : List ℕ) (from end : ℕ) (on : Bool) → now ≡ (cut_after rest (take from chunk)).rest → CutsNext now chunk from (Some end) kept → on ≡ true → Serves a (cut_after rest (take from chunk)).whole b true true → ServesFirst b (kept ∷ []) c true true on → Serves a (cut_after rest (take end chunk)).whole c true true
chunk-on a b c rest chunk now kept from end on e cuts going f g =
    let first = (cut_after rest (take from chunk)).whole in
    let h : ServesFirst b (kept ∷ []) c true true true = subst (λ o. ServesFirst b (kept ∷ []) c true true o) going g in
    subst (λ l. Serves a l c true true) (sym (ap (λ d. d.whole) (chunk-cut rest chunk now kept from end e cuts)))
    (first-whole a c (first ++ kept ∷ []) true true (first-then a b c first (kept ∷ []) true true true f h))

pub chunk-stop : (a b c : Exchange) (rest chunk now kept : List ℕ) (from end : ℕ) (full all on : Bool) → now ≡ (cut_after rest (take from chunk)).rest → CutsNext now chunk from (Some end) kept → on ≡ false → Serves a (cut_after rest (take from chunk)).whole b true true → ServesFirst b (kept ∷ []) c full all on → ServesFirst a (cut_after rest chunk).whole c full all false
chunk-stop a b c rest chunk now kept from end full all on e cuts over f g =
    let first = (cut_after rest (take from chunk)).whole in
    let h : ServesFirst b (kept ∷ []) c full all false = subst (λ o. ServesFirst b (kept ∷ []) c full all o) over g in
    let k = first-then a b c first (kept ∷ []) full all false f h in
    let last : first ++ kept ∷ [] ≡ (cut_after rest (take end chunk)).whole = sym (ap (λ d. d.whole) (chunk-cut rest chunk now kept from end e cuts)) in
    let left = cut-left rest chunk end in
    let more : List (List ℕ) = (cut_after (cut_after rest (take end chunk)).rest (drop end chunk)).whole in
    first-same a c ((first ++ kept ∷ []) ++ more) (cut_after rest chunk).whole full all false (ap (λ l. l ++ more) last ∙ sym (ap (λ d. d.whole) left))
    (first-part a c (first ++ kept ∷ []) more full all k)

pub chunk-end : (a b c : Exchange) (rest chunk now kept : List ℕ) (from : ℕ) (full all on : Bool) → now ≡ (cut_after rest (take from chunk)).rest → CutsNext now chunk from None kept → Serves a (cut_after rest (take from chunk)).whole b true true → Serves b [] c full all → ServesFirst a (cut_after rest chunk).whole c full all on
chunk-end a b c rest chunk now kept from full all on e cuts f g =
    let first = (cut_after rest (take from chunk)).whole in
    let whole : (cut_after rest chunk).whole ≡ first = ap (λ d. d.whole) (chunk-last rest chunk now kept from e cuts) ∙ append-nil first in
    first-all a c (cut_after rest chunk).whole full all on (subst (λ l. Serves a l c full all) (sym whole) (serves-on a b c first full all f g))
