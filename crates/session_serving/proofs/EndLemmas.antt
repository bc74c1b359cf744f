-- How serving goes on from read to read, and how it ends.
use Rattle.session_serving.proofs.Common.{◌≡◌, ◌≤◌, ◌+◌, ℕ, Bool, true, false, List, [], ◌++◌, length, Option, Result, Ok, Err, is_ok, refl, ap, sym, ◌∙◌, append-nil, length-append, subst, arith, Consumes-nil, Consumes-trans, Consumes-kept, Appends-nil, Consumes, Keeps, IsAtEnd, false≢true, Job, State, SessionFault, Read, Write, NoEnd, Port, Memory, Cut, text, cut_after, whole_lines, output_of, Writes, Blames, FirstFails, writes_all, sends_all, Exchange, exchange_of, Serves, ServesFirst, StillServes, ReadsLines, Traffic, traffic_of, IsServed}
use Rattle.session_serving.proofs.CutLemmas.{cut-append}
use Rattle.session_serving.proofs.EventLemmas.{advances-none}
use Rattle.session_serving.proofs.WriteLemmas.{writes-then}
use Rattle.session_serving.proofs.ServeLemmas.{serves_none, sends_none, first-then, first-whole}

-- ---- faults

same_fault : (r : Result (Unit {0}) SessionFault) (f g : SessionFault) → r ≡ Err f → r ≡ Err g → f ≡ g
same_fault r f g d e = cc

pub ok_is_no_end : (r : Result (Unit {0}) SessionFault) → r ≡ Ok tt → r ≡ Err NoEnd → ⊥
ok_is_no_end r d e = cc

read_is_no_end : Read ≡ NoEnd → ⊥
read_is_no_end e = cc

not_no_end : (f : SessionFault) (w w2 p p2 : ℕ) → Blames {T = Bool} (Err f) w w2 p p2 → f ≡ NoEnd → ⊥
not_no_end Read w w2 p p2 b e = b
not_no_end Write w w2 p p2 b e = cc
not_no_end NoEnd w w2 p p2 b e = b
not_no_end Port w w2 p p2 b e = cc
not_no_end Memory w w2 p p2 b e = b

not_memory : (f : SessionFault) (w w2 p p2 : ℕ) → Blames {T = Bool} (Err f) w w2 p p2 → f ≡ Memory → ⊥
not_memory Read w w2 p p2 b e = b
not_memory Write w w2 p p2 b e = cc
not_memory NoEnd w w2 p p2 b e = b
not_memory Port w w2 p p2 b e = cc
not_memory Memory w w2 p p2 b e = b

-- a fault of the writer or of the port is neither
pub err_is_no_end : (f : SessionFault) (w w2 p p2 : ℕ) (r : Result (Unit {0}) SessionFault) → Blames {T = Bool} (Err f) w w2 p p2 → r ≡ Err f → r ≡ Err NoEnd → ⊥
err_is_no_end f w w2 p p2 r b d e = not_no_end f w w2 p p2 b (same_fault r f NoEnd d e)

pub err_is_memory : (f : SessionFault) (w w2 p p2 : ℕ) (r : Result (Unit {0}) SessionFault) → Blames {T = Bool} (Err f) w w2 p p2 → r ≡ Err f → r ≡ Err Memory → ⊥
err_is_memory f w w2 p p2 r b d e = not_memory f w w2 p p2 b (same_fault r f Memory d e)

pub first_fails : (f : SessionFault) (r r2 w w1 w2 p p1 p2 : ℕ) → r2 ≡ r → w1 ≡ w → p1 ≡ p → Blames {T = Bool} (Err f) w1 w2 p1 p2 → FirstFails (Err f) r r2 w w2 p p2
first_fails Read r r2 w w1 w2 p p1 p2 e f g b = absurd b
first_fails Write r r2 w w1 w2 p p1 p2 e f g b = (e, b.0 ∙ ap (λ n. n + 1) f, b.1 ∙ g)
first_fails NoEnd r r2 w w1 w2 p p1 p2 e f g b = absurd b
first_fails Port r r2 w w1 w2 p p1 p2 e f g b = (e, b.0 ∙ f, b.1 ∙ ap (λ n. n + 1) g)
first_fails Memory r r2 w w1 w2 p p1 p2 e f g b = absurd b

-- ---- a part that was written, or not

writes-weak : (a b : Option (List ℕ)) (p q t : List ℕ) (full : Bool) → Writes (output_of a p) (output_of b q) full t → Writes (output_of a p) (output_of b q) false t
writes-weak a b p q t full f = record { front = f.front; left = f.left; moved = f.moved; parts = f.parts; all = λ e. absurd (false≢true e) }

pub serves-weak : (a b : Exchange) (reads : List (List ℕ)) (full all : Bool) → Serves a reads b full all → Serves a reads b false all
serves-weak a b reads full all f = record { said = f.said; jobs = f.jobs; advances = f.advances; writes = writes-weak a.written b.written a.pending b.pending (text f.said) full f.writes; sends = f.sends }

-- what is pending is written
pub serves-written : (a b : Exchange) (w : Option (List ℕ)) (p : List ℕ) (reads : List (List ℕ)) (full all : Bool) → Serves a reads b true all → Writes (output_of b.written b.pending) (output_of w p) full [] → Serves a reads (exchange_of b.state w p b.sent) full all
serves-written a b w p reads full all f g = record {
  said = f.said;
  jobs = f.jobs;
  advances = f.advances;
  writes = subst (λ t. Writes (output_of a.written a.pending) (output_of w p) full t) (append-nil (text f.said)) (writes-then (output_of a.written a.pending) (output_of b.written b.pending) (output_of w p) full (text f.said) [] f.writes g);
  sends = f.sends;
}

-- and that is what is still done after a fault of the port
pub still-written : (a : Exchange) (w : Option (List ℕ)) (p : List ℕ) (fault : SessionFault) (full : Bool) → fault ≡ Port → Writes (output_of a.written a.pending) (output_of w p) full [] → StillServes fault a (exchange_of a.state w p a.sent)
still-written a w p fault full e g = λ begun reads s.
    let h : Serves begun reads a true (sends_all {T = Unit {0}} (Err fault)) = subst (λ f. Serves begun reads a (writes_all {T = Unit {0}} (Err f)) (sends_all {T = Unit {0}} (Err fault))) e s in
    serves-weak begun _ reads full _ (serves-written begun a w p reads full _ h g)

pub first-written : (a b : Exchange) (w : Option (List ℕ)) (p : List ℕ) (lines : List (List ℕ)) (full all on : Bool) → ServesFirst a lines b true all on → Writes (output_of b.written b.pending) (output_of w p) full [] → ServesFirst a lines (exchange_of b.state w p b.sent) full all on
first-written a b w p lines full all on f g = record { reads = f.reads; more = f.more; parts = f.parts; serves = serves-written a b w p f.reads full all f.serves g; each = f.each }

pub first-stops : (a b : Exchange) (w : Option (List ℕ)) (p : List ℕ) (lines : List (List ℕ)) (full all on : Bool) → ServesFirst a lines b true all on → Writes (output_of b.written b.pending) (output_of w p) full [] → ServesFirst a lines (exchange_of b.state w p b.sent) full all false
first-stops a b w p lines full all on f g = record { reads = f.reads; more = f.more; parts = f.parts; serves = serves-written a b w p f.reads full all f.serves g; each = λ e. absurd (false≢true e) }

-- ---- from read to read

pub record Progress (old new : Exchange) (before after : Option (List ℕ)) (line : List ℕ) (total : ℕ) : Type 0 where
  pub bytes : List ℕ
  pub consumed : Consumes before after bytes
  pub serves : Serves old (whole_lines bytes) new true true
  pub rest : line ≡ (cut_after [] bytes).rest
  pub size : length bytes ≡ total

pub progress-start : (a : Exchange) (r : Option (List ℕ)) (line : List ℕ) → line ≡ [] → Progress a a r r line 0
progress-start a r line e = record { bytes = []; consumed = Consumes-nil r; serves = serves_none a true true; rest = e; size = refl }

pub progress-on : (a b c : Exchange) (r t u : Option (List ℕ)) (line chunk new : List ℕ) (total count : ℕ) (on : Bool) → length chunk ≡ count → on ≡ true → Progress a b r t line total → Consumes t u chunk → ServesFirst b (cut_after line chunk).whole c true true on → new ≡ (cut_after line chunk).rest → Progress a c r u new (total + count)
progress-on a b c r t u line chunk new total count on len going p more f e =
    let cut = cut-append [] p.bytes chunk in
    let then : List (List ℕ) = (cut_after (cut_after [] p.bytes).rest chunk).whole in
    let h : ServesFirst b then c true true true = subst (λ o. ServesFirst b then c true true o) going (subst (λ l. ServesFirst b (cut_after l chunk).whole c true true on) p.rest f) in
    record {
      bytes = p.bytes ++ chunk;
      consumed = Consumes-trans r t u p.bytes chunk p.consumed more;
      serves = subst (λ l. Serves a l c true true) (sym (ap (λ (d : Cut). d.whole) cut)) (first-whole a c (whole_lines p.bytes ++ then) true true (first-then a b c (whole_lines p.bytes) then true true true p.serves h));
      rest = e ∙ ap (λ l. (cut_after l chunk).rest) p.rest ∙ sym (ap (λ (d : Cut). d.rest) cut);
      size = length-append p.bytes chunk ∙ omega (arith, p.size, len);
    }

-- the session is over, or a fault came
pub progress-stop : (a b c : Exchange) (r t u : Option (List ℕ)) (line chunk : List ℕ) (total : ℕ) (result : Result (Unit {0}) SessionFault) (on : Bool) → on ≡ false → (is_ok result ≡ true → c.state.has_failed ≡ true) → (result ≡ Err NoEnd → ⊥) → total + length chunk ≤ 1099511627776 → Progress a b r t line total → Consumes t u chunk → ServesFirst b (cut_after line chunk).whole c (writes_all result) (sends_all result) on → ReadsLines a r u c result
progress-stop a b c r t u line chunk total result on over lost other most p more f =
    let cut = cut-append [] p.bytes chunk in
    let full = writes_all result in
    let all = sends_all result in
    let then : List (List ℕ) = (cut_after (cut_after [] p.bytes).rest chunk).whole in
    let h : ServesFirst b then c full all false = subst (λ o. ServesFirst b then c full all o) over (subst (λ l. ServesFirst b (cut_after l chunk).whole c full all on) p.rest f) in
    let k = first-then a b c (whole_lines p.bytes) then full all false p.serves h in
    record {
      bytes = p.bytes ++ chunk;
      reads = k.reads;
      more = k.more;
      consumed = Consumes-trans r t u p.bytes chunk p.consumed more;
      given = k.parts ∙ sym (ap (λ (d : Cut). d.whole) cut);
      serves = k.serves;
      all = λ e sound. absurd (false≢true (sym sound ∙ lost e));
      few = omega (arith, length-append p.bytes chunk, p.size, most);
      no_end = λ e. absurd (other e);
    }

-- the reader came to its end
pub progress-end : (a b : Exchange) (r t u : Option (List ℕ)) (line chunk : List ℕ) (total : ℕ) → chunk ≡ [] → IsAtEnd u → total ≤ 1099511627776 → Progress a b r t line total → Consumes t u chunk → ReadsLines a r u b (Ok tt)
progress-end a b r t u line chunk total none ends most p more = record {
  bytes = p.bytes;
  reads = whole_lines p.bytes;
  more = [];
  consumed = subst (λ l. Consumes r u l) (ap (λ l. p.bytes ++ l) none ∙ append-nil p.bytes) (Consumes-trans r t u p.bytes chunk p.consumed more);
  given = append-nil (whole_lines p.bytes);
  serves = p.serves;
  all = λ _ _. (refl, ends);
  few = omega (arith, p.size, most);
  no_end = λ e. absurd (ok_is_no_end _ refl e);
}

-- the reader failed
pub progress-fails : (a b : Exchange) (r t u : Option (List ℕ)) (line : List ℕ) (total : ℕ) → total ≤ 1099511627776 → Progress a b r t line total → Keeps t u → ReadsLines a r u b (Err Read)
progress-fails a b r t u line total most p kept = record {
  bytes = p.bytes;
  reads = whole_lines p.bytes;
  more = [];
  consumed = Consumes-kept r t u p.bytes p.consumed kept;
  given = append-nil (whole_lines p.bytes);
  serves = p.serves;
  all = λ e. absurd (false≢true e);
  few = omega (arith, p.size, most);
  no_end = λ e. absurd (read_is_no_end (same_fault _ Read NoEnd refl e));
}

-- no end came
pub progress-never : (a b : Exchange) (r t : Option (List ℕ)) (line : List ℕ) (total : ℕ) → total ≡ 1099511627776 → Progress a b r t line total → ReadsLines a r t b (Err NoEnd)
progress-never a b r t line total most p = record {
  bytes = p.bytes;
  reads = whole_lines p.bytes;
  more = [];
  consumed = p.consumed;
  given = append-nil (whole_lines p.bytes);
  serves = p.serves;
  all = λ e. absurd (false≢true e);
  few = omega (arith, p.size, most);
  no_end = λ _. p.size ∙ most;
}

-- ---- the whole

pub served-ok : (s n : State) (r r2 w w2 : Option (List ℕ)) (p p2 : List ℕ) (j j2 : List Job) → p ≡ [] → p2 ≡ [] → ReadsLines (exchange_of s w p j) r r2 (exchange_of n w2 p2 j2) (Ok tt) → IsServed s n (traffic_of r w j) (traffic_of r2 w2 j2) (Ok tt)
served-ok s n r r2 w w2 p p2 j j2 e e2 f =
    let g = f.serves in record {
      bytes = f.bytes;
      reads = f.reads;
      more = f.more;
      said = g.said;
      jobs = g.jobs;
      front = g.writes.front;
      left = g.writes.left;
      consumed = f.consumed;
      given = f.given;
      advances = g.advances;
      written = g.writes.moved;
      parts = g.writes.parts ∙ ap (λ l. l ++ text g.said) e;
      sends = g.sends;
      whole = λ _. sym (g.writes.all refl) ∙ e2;
      all = f.all;
      few = f.few;
      no_end = f.no_end;
    }

pub served-err : (s : State) (mid : Exchange) (n : State) (r r2 w w3 : Option (List ℕ)) (p p3 : List ℕ) (j j3 : List Job) (fault : SessionFault) → p ≡ [] → ReadsLines (exchange_of s w p j) r r2 mid (Err fault) → StillServes fault mid (exchange_of n w3 p3 j3) → IsServed s n (traffic_of r w j) (traffic_of r2 w3 j3) (Err fault)
served-err s mid n r r2 w w3 p p3 j j3 fault e f then =
    let g = then (exchange_of s w p j) f.reads f.serves in record {
      bytes = f.bytes;
      reads = f.reads;
      more = f.more;
      said = g.said;
      jobs = g.jobs;
      front = g.writes.front;
      left = g.writes.left;
      consumed = f.consumed;
      given = f.given;
      advances = g.advances;
      written = g.writes.moved;
      parts = g.writes.parts ∙ ap (λ l. l ++ text g.said) e;
      sends = g.sends;
      whole = λ x. absurd (false≢true x);
      all = λ x. absurd (false≢true x);
      few = f.few;
      no_end = f.no_end;
    }

-- nothing was done
pub never-began : (s : State) (t : Traffic) (result : Result (Unit {0}) SessionFault) → (is_ok result ≡ true → s.has_failed ≡ true) → (result ≡ Err NoEnd → ⊥) → IsServed s s t t result
never-began s t result lost other = record {
  bytes = [];
  reads = [];
  more = [];
  said = [];
  jobs = [];
  front = [];
  left = [];
  consumed = Consumes-nil t.remaining;
  given = refl;
  advances = advances-none s;
  written = Appends-nil t.written;
  parts = refl;
  sends = sends_none t.sent (sends_all result);
  whole = λ _. refl;
  all = λ x sound. absurd (false≢true (sym sound ∙ lost x));
  few = omega arith;
  no_end = λ e. absurd (other e);
}
