-- How a run goes on, and where it may stop.
use Rattle.hub_replay.proofs.Common.{◌≡◌, ℕ, ◌+◌, ◌<◌, ◌≤◌, ◌^◌, nat_lt, true, false, cond, List, [], ◌∷◌, ◌++◌, length, Option, Result, Ok, Err, OnOk, OnErr, refl, ap, ◌∙◌, sym, subst, append_assoc, append-nil, length-append, arith, codes, lt-ltb, false≢true, fold-append, IfErr, IsErr, Appends, Keeps, Call, Entry, Counts, Output, ParsedLine, Blank, TooLong, Fault, Called, RunFault, Read, Write, NoEnd, Memory, reply_text, parsed_lines, Outcome, outcome, after, with_fault_line, with_reply_line, entry_of, one_fault_more, one_call_more, IsStopped, start_of, Answers, IsUnderway, Advances, StopsWithin, IsLateFault, ExplainsFault, Blames, RunState, AnswersLines}
use Rattle.hub_replay.proofs.StreamLemmas.{Appends-none, Appends-kept, Appends-append}

pub outcome-append : (o : Outcome) (xs ys : List ParsedLine) → outcome o (xs ++ ys) ≡ outcome (outcome o xs) ys
outcome-append o xs ys = fold-append after o xs ys

-- what is written only grows
pub grows_after : (o : Outcome) (h : ParsedLine) → (more : List ℕ) × ((after o h).output ≡ o.output ++ more)
unfolding with_fault_line with_reply_line
grows_after o Blank = ([], sym (append-nil o.output))
grows_after o TooLong = (_, refl)
grows_after o (Fault f) = (_, refl)
grows_after o (Called call) =
    elim (nat_lt (length o.entries) 1000000) as (λ t. (more : List ℕ) × ((cond t (with_reply_line o call) (with_fault_line o (codes "{\"fault\":\"hub_full\"}"))).output ≡ o.output ++ more))
    [ true ↦ (_, refl) | false ↦ (_, refl) ]

pub grows : (o : Outcome) (hs : List ParsedLine) → (more : List ℕ) × ((outcome o hs).output ≡ o.output ++ more)
grows o [] = ([], sym (append-nil o.output))
grows o (h ∷ hs) =
    let one = grows_after o h in
    let rest = grows (after o h) hs in
    (one.0 ++ rest.0, rest.1 ∙ ap (λ l. l ++ rest.0) one.1 ∙ append_assoc o.output one.0 rest.0)

-- a stop stays one when more lines follow
pub IsStopped-more : (start : Outcome) (hs more : List ParsedLine) (written : List ℕ) (entries : List Entry) → IsStopped start hs written entries → IsStopped start (hs ++ more) written entries
IsStopped-more start hs more written entries s = record {
  complete = s.complete;
  last = s.last;
  rest = s.rest ++ more;
  split = ap (λ l. l ++ more) s.split ∙ append_assoc s.complete (s.last ++ s.rest) more ∙ ap (λ l. s.complete ++ l) (append_assoc s.last s.rest more);
  cut = s.cut;
  begins = s.begins;
  lacks = s.lacks;
  within = s.within;
  entered = s.entered;
  one = s.one;
}

-- Where a run is underway it may stop, with any front of what is pending written.
pub IsStopped-underway : (start : Outcome) (hs : List ParsedLine) (written : List ℕ) (entries : List Entry) (front back : List ℕ) (counts : Counts) → IsUnderway start hs written entries (front ++ back) counts → IsStopped start hs (written ++ front) entries
IsStopped-underway start hs written entries front back counts u = record {
  complete = u.complete;
  last = u.rest;
  rest = [];
  split = u.split ∙ ap (λ l. u.complete ++ l) (sym (append-nil u.rest));
  cut = front;
  begins = ap (λ l. l ++ front) (sym u.flushed);
  lacks = back;
  within = append_assoc written front back ∙ sym (ap (λ (o : Outcome). o.output) u.sum) ∙ ap (λ l. (outcome start l).output) u.split;
  entered = sym (ap (λ (o : Outcome). o.entries) u.sum) ∙ ap (λ l. (outcome start l).entries) u.split;
  one = rw (u.answered) (omega arith);
}

-- a line that only adds to what is pending, and brings no entry
pub IsUnderway-said : (start : Outcome) (hs : List ParsedLine) (h : ParsedLine) (written : List ℕ) (entries : List Entry) (pending pending' : List ℕ) (counts counts' : Counts) → IsUnderway start hs written entries pending counts → after (record { entries = entries; output = written ++ pending; counts = counts }) h ≡ record { entries = entries; output = written ++ pending'; counts = counts' } → IsUnderway start (hs ++ h ∷ []) written entries pending' counts'
IsUnderway-said start hs h written entries pending pending' counts counts' u e = record {
  sum = outcome-append start hs (h ∷ []) ∙ ap (λ o. after o h) u.sum ∙ e;
  complete = u.complete;
  rest = u.rest ++ h ∷ [];
  split = ap (λ l. l ++ h ∷ []) u.split ∙ append_assoc u.complete u.rest (h ∷ []);
  flushed = u.flushed;
  answered = u.answered;
}

-- one after the other
pub Advances-none : (c : Option (List ℕ)) (e : List Entry) (d : Output) → Advances c c e d e d []
Advances-none c e d = record { advances = λ start before written u. ([], Appends-none c, rw (append-nil before, append-nil written) u) }

-- nothing is written, and the writer keeps what it has
pub Advances-kept : (c₀ c₁ : Option (List ℕ)) (e : List Entry) (d : Output) → Keeps c₀ c₁ → Advances c₀ c₁ e d e d []
Advances-kept c₀ c₁ e d k = record { advances = λ start before written u. ([], Appends-kept c₀ c₁ k, rw (append-nil before, append-nil written) u) }

pub Advances-append : {c₀ c₁ c₂ : Option (List ℕ)} {e₀ e₁ e₂ : List Entry} {d₀ d₁ d₂ : Output} {xs ys : List ParsedLine} → Advances c₀ c₁ e₀ d₀ e₁ d₁ xs → Advances c₁ c₂ e₁ d₁ e₂ d₂ ys → Advances c₀ c₂ e₀ d₀ e₂ d₂ (xs ++ ys)
Advances-append {c₀} {c₁} {c₂} {e₀} {e₁} {e₂} {d₀} {d₁} {d₂} {xs} {ys} a b = record {
  advances = λ start before written u.
      let p = a.advances start before written u in
      let q = b.advances start (before ++ xs) (written ++ p.0) p.2 in
      (p.0 ++ q.0, Appends-append c₀ c₁ c₂ p.0 q.0 p.1 q.1, rw (← append_assoc before xs ys, ← append_assoc written p.0 q.0) q.2);
}

pub StopsWithin-after : {c₀ c₁ c₂ : Option (List ℕ)} {e₀ e₁ e₂ : List Entry} {d₀ d₁ : Output} {xs ys : List ParsedLine} → Advances c₀ c₁ e₀ d₀ e₁ d₁ xs → StopsWithin c₁ c₂ e₁ d₁ e₂ ys → StopsWithin c₀ c₂ e₀ d₀ e₂ (xs ++ ys)
StopsWithin-after {c₀} {c₁} {c₂} {e₀} {e₁} {e₂} {d₀} {d₁} {xs} {ys} a b = record {
  stops = λ start before written u.
      let p = a.advances start before written u in
      let q = b.stops start (before ++ xs) (written ++ p.0) p.2 in
      (p.0 ++ q.0, Appends-append c₀ c₁ c₂ p.0 q.0 p.1 q.1, rw (← append_assoc before xs ys, ← append_assoc written p.0 q.0) q.2);
}

pub StopsWithin-more : {c₀ c₁ : Option (List ℕ)} {e₀ e₁ : List Entry} {d₀ : Output} {xs : List ParsedLine} (ys : List ParsedLine) → StopsWithin c₀ c₁ e₀ d₀ e₁ xs → StopsWithin c₀ c₁ e₀ d₀ e₁ (xs ++ ys)
StopsWithin-more {c₀} {c₁} {e₀} {e₁} {d₀} {xs} ys a = record {
  stops = λ start before written u.
      let p = a.stops start before written u in
      (p.0, p.1, rw (← append_assoc before xs ys) (IsStopped-more start (before ++ xs) ys (written ++ p.0) e₁ p.2));
}

-- a call whose reply's line is written too
pub IsUnderway-with_reply_line : (start : Outcome) (hs : List ParsedLine) (call : Call) (written : List ℕ) (entries entries' : List Entry) (pending pending' : List ℕ) (counts counts' : Counts) → IsUnderway start hs written entries pending counts → length entries < 1000000 → entries' ≡ entries ++ entry_of entries call ∷ [] → pending' ≡ pending ++ (reply_text (entry_of entries call).reply ++ 10 ∷ []) → counts' ≡ one_call_more counts → outcome start (hs ++ Called call ∷ []) ≡ record { entries = entries'; output = written ++ pending'; counts = counts' }
unfolding with_reply_line
IsUnderway-with_reply_line start hs call written entries entries' pending pending' counts counts' u buffer e p k =
    let fits : nat_lt (length entries) 1000000 ≡ true = lt-ltb (length entries) 1000000 buffer in
    outcome-append start hs (Called call ∷ []) ∙ ap (λ o. after o (Called call)) u.sum ∙ rw (fits, e, p, k) (ap (λ l. record { entries = entries ++ entry_of entries call ∷ []; output = l; counts = one_call_more counts }) (append_assoc written pending (reply_text (entry_of entries call).reply ++ 10 ∷ [])))

-- a state in which all is written
pub IsUnderway-complete : (start : Outcome) (hs : List ParsedLine) (written : List ℕ) (entries : List Entry) (counts : Counts) → outcome start hs ≡ record { entries = entries; output = written; counts = counts } → IsUnderway start hs written entries [] counts
IsUnderway-complete start hs written entries counts e = record {
  sum = e ∙ ap (λ l. record { entries = entries; output = l; counts = counts }) (sym (append-nil written));
  complete = hs;
  rest = [];
  split = sym (append-nil hs);
  flushed = ap (λ (o : Outcome). o.output) e;
  answered = ap (λ (o : Outcome). o.entries) e;
}

-- a call that is in the history, and of whose reply and what was pending any front is written
pub IsStopped-with_reply_line : (start : Outcome) (hs : List ParsedLine) (call : Call) (written : List ℕ) (entries entries' : List Entry) (pending front back : List ℕ) (counts counts' : Counts) → IsUnderway start hs written entries pending counts → outcome start (hs ++ Called call ∷ []) ≡ record { entries = entries'; output = written ++ (front ++ back); counts = counts' } → length entries' ≤ length entries + 1 → IsStopped start (hs ++ Called call ∷ []) (written ++ front) entries'
IsStopped-with_reply_line start hs call written entries entries' pending front back counts counts' u e few =
    let split : hs ++ Called call ∷ [] ≡ u.complete ++ (u.rest ++ Called call ∷ []) = ap (λ l. l ++ Called call ∷ []) u.split ∙ append_assoc u.complete u.rest (Called call ∷ []) in
    record {
      complete = u.complete;
      last = u.rest ++ Called call ∷ [];
      rest = [];
      split = split ∙ ap (λ l. u.complete ++ l) (sym (append-nil (u.rest ++ Called call ∷ [])));
      cut = front;
      begins = ap (λ l. l ++ front) (sym u.flushed);
      lacks = back;
      within = append_assoc written front back ∙ sym (ap (λ (o : Outcome). o.output) e) ∙ ap (λ l. (outcome start l).output) split;
      entered = sym (ap (λ (o : Outcome). o.entries) e) ∙ ap (λ l. (outcome start l).entries) split;
      one = rw (u.answered) few;
    }

said_as : (entries : List Entry) (written pending pending' text : List ℕ) (counts counts' : Counts) → pending' ≡ pending ++ (text ++ 10 ∷ []) → counts' ≡ one_fault_more counts → with_fault_line (record { entries = entries; output = written ++ pending; counts = counts }) text ≡ record { entries = entries; output = written ++ pending'; counts = counts' }
unfolding with_fault_line
said_as entries written pending pending' text counts counts' p k =
    rw (p, k) (ap (λ l. record { entries = entries; output = l; counts = one_fault_more counts }) (append_assoc written pending (text ++ 10 ∷ [])))

-- a line that is answered by a fault
pub Advances-said : (c : Option (List ℕ)) (e : List Entry) (d₀ d₁ : Output) (h : ParsedLine) (text : List ℕ) → ((o : Outcome) → o.entries ≡ e → after o h ≡ with_fault_line o text) → d₁.pending.items ≡ d₀.pending.items ++ (text ++ 10 ∷ []) → d₁.counts ≡ one_fault_more d₀.counts → Advances c c e d₀ e d₁ (h ∷ [])
Advances-said c e d₀ d₁ h text same p k = record {
  advances = λ start before written u.
      let o : Outcome = record { entries = e; output = written ++ d₀.pending.items; counts = d₀.counts } in
      ([], Appends-none c, rw (append-nil written) (IsUnderway-said start before h written e d₀.pending.items d₁.pending.items d₀.counts d₁.counts u (same o refl ∙ said_as e written d₀.pending.items d₁.pending.items text d₀.counts d₁.counts p k)));
}

pub full_fault : (call : Call) (o : Outcome) (e : List Entry) → length e ≡ 1000000 → o.entries ≡ e → after o (Called call) ≡ with_fault_line o (codes "{\"fault\":\"hub_full\"}")
full_fault call o e full q = let t : nat_lt (length o.entries) 1000000 ≡ false = ap (λ n. nat_lt n 1000000) (ap length q ∙ full) in rw t refl

pub Advances-blank : (c : Option (List ℕ)) (e : List Entry) (d : Output) → Advances c c e d e d (Blank ∷ [])
Advances-blank c e d = record {
  advances = λ start before written u. ([], Appends-none c, rw (append-nil written) (IsUnderway-said start before Blank written e d.pending.items d.pending.items d.counts d.counts u refl));
}

-- nothing is done, and the run stops
pub StopsWithin-here : (c : Option (List ℕ)) (e : List Entry) (d : Output) (hs : List ParsedLine) → StopsWithin c c e d e hs
StopsWithin-here c e d hs = record {
  stops = λ start before written u. ([], Appends-none c, IsStopped-more start before hs (written ++ []) e (IsStopped-underway start before written e [] d.pending.items d.counts u));
}

pub StopsWithin-kept : (c₀ c₁ : Option (List ℕ)) (e : List Entry) (d : Output) → Keeps c₀ c₁ → StopsWithin c₀ c₁ e d e []
StopsWithin-kept c₀ c₁ e d k = record {
  stops = λ start before written u. ([], Appends-kept c₀ c₁ k, IsStopped-more start before [] (written ++ []) e (IsStopped-underway start before written e [] d.pending.items d.counts u));
}

-- a front of what is pending is written, and the run stops
pub StopsWithin-flush : (c₀ c₁ : Option (List ℕ)) (e : List Entry) (d : Output) (bytes front rest : List ℕ) → bytes ≡ d.pending.items → bytes ≡ front ++ rest → Appends c₀ c₁ front → StopsWithin c₀ c₁ e d e []
StopsWithin-flush c₀ c₁ e d bytes front rest same cut app = record {
  stops = λ start before written u. (front, app, rw (append-nil before) (IsStopped-underway start before written e front rest d.counts (rw (sym cut ∙ same) u)));
}

-- a call whose reply is said and written with what was pending
pub Advances-with_reply_line : (c₀ c₁ : Option (List ℕ)) (e e' : List Entry) (d₀ d₁ : Output) (call : Call) (bytes : List ℕ) → length e < 1000000 → e' ≡ e ++ entry_of e call ∷ [] → bytes ≡ d₀.pending.items ++ (reply_text (entry_of e call).reply ++ 10 ∷ []) → d₁.counts ≡ one_call_more d₀.counts → d₁.pending.items ≡ [] → Appends c₀ c₁ bytes → Advances c₀ c₁ e d₀ e' d₁ (Called call ∷ [])
Advances-with_reply_line c₀ c₁ e e' d₀ d₁ call bytes buffer grown p k pending app = record {
  advances = λ start before written u.
      (bytes, app, rw pending (IsUnderway-complete start (before ++ Called call ∷ []) (written ++ bytes) e' d₁.counts (IsUnderway-with_reply_line start before call written e e' d₀.pending.items bytes d₀.counts d₁.counts u buffer grown p k)));
}

-- the same, where only a front of that is written
pub StopsWithin-with_reply_line : (c₀ c₁ : Option (List ℕ)) (e e' : List Entry) (d₀ : Output) (call : Call) (front back : List ℕ) → length e < 1000000 → e' ≡ e ++ entry_of e call ∷ [] → front ++ back ≡ d₀.pending.items ++ (reply_text (entry_of e call).reply ++ 10 ∷ []) → Appends c₀ c₁ front → StopsWithin c₀ c₁ e d₀ e' (Called call ∷ [])
StopsWithin-with_reply_line c₀ c₁ e e' d₀ call front back buffer grown p app = record {
  stops = λ start before written u.
      let one : length e' ≤ length e + 1 = omega (arith, ap length grown ∙ length-append e (entry_of e call ∷ [])) in
      (front, app, IsStopped-with_reply_line start before call written e e' d₀.pending.items front back d₀.counts (one_call_more d₀.counts) u (IsUnderway-with_reply_line start before call written e e' d₀.pending.items (front ++ back) d₀.counts _ u buffer grown p refl) one);
}

pub on_ok : {A E : Type 0} (r : Result A E) {P Q R : Type 0} → OnOk r P → OnOk r Q → (P → Q → R) → OnOk r R
on_ok (Ok x) p q f = f p q
on_ok (Err e) p q f = tt

-- memory that is refused ends a run with no failure of the writer
pub blames_memory : {A : Type 0} (r : Result A RunFault) (failures : ℕ) → IfErr r (λ f. f ≡ Memory) → Blames r failures failures
blames_memory (Ok x) failures h = refl
blames_memory (Err f) failures h = subst (λ (f : RunFault). IsLateFault f failures failures) (sym h) refl

-- lines that are answered, or among which the run stops
pub answers-lines : {A : Type 0} (r : Result A RunFault) (old new : RunState) (lines : List ParsedLine) → OnOk r (Advances old.written new.written old.entries old.output new.entries new.output lines) → OnErr r (StopsWithin old.written new.written old.entries old.output new.entries lines) → AnswersLines r old new lines
answers-lines (Ok x) old new lines advances stops = advances
answers-lines (Err f) old new lines advances stops = stops

-- with a fault the run stops among them
pub stops-lines : {A : Type 0} (r : Result A RunFault) (old new : RunState) (lines : List ParsedLine) → IsErr r → StopsWithin old.written new.written old.entries old.output new.entries lines → AnswersLines r old new lines
stops-lines (Ok x) old new lines e stops = absurd (false≢true e)
stops-lines (Err f) old new lines e stops = stops

pub on_err : {A E : Type 0} (r : Result A E) {R : Type 0} → R → OnErr r R
on_err (Ok x) h = tt
on_err (Err e) h = h

pub StopsWithin-err : {A E : Type 0} (r : Result A E) {c₀ c₁ : Option (List ℕ)} {e₀ e₁ : List Entry} {d₀ : Output} {xs ys : List ParsedLine} → ys ≡ xs → StopsWithin c₀ c₁ e₀ d₀ e₁ xs → OnErr r (StopsWithin c₀ c₁ e₀ d₀ e₁ ys)
StopsWithin-err r e s = on_err r (rw e s)

-- a whole run begins at nothing
begun : (e : List Entry) (d : Output) → d.pending.items ≡ [] → d.counts ≡ record { lines = 0; calls = 0; faults = 0 } → IsUnderway (start_of e) [] [] e d.pending.items d.counts
begun e d pending counts = rw (pending, counts) (record { sum = refl; complete = []; rest = []; split = refl; flushed = refl; answered = refl })

pub stopped : {c₀ c₁ : Option (List ℕ)} {e₀ e₁ : List Entry} {d₀ : Output} (xs : List ParsedLine) → d₀.pending.items ≡ [] → d₀.counts ≡ record { lines = 0; calls = 0; faults = 0 } → StopsWithin c₀ c₁ e₀ d₀ e₁ xs → (written : List ℕ) × Appends c₀ c₁ written × IsStopped (start_of e₀) xs written e₁
stopped {c₀} {c₁} {e₀} {e₁} {d₀} xs pending counts s = s.stops (start_of e₀) [] [] (begun e₀ d₀ pending counts)

pub ended : {c₀ c₁ : Option (List ℕ)} {e₀ e₁ : List Entry} {d₀ d₁ : Output} (read : List ℕ) (xs : List ParsedLine) (counted : Counts) → d₀.pending.items ≡ [] → d₀.counts ≡ record { lines = 0; calls = 0; faults = 0 } → d₁.pending.items ≡ [] → counted ≡ d₁.counts → parsed_lines read ≡ xs → Advances c₀ c₁ e₀ d₀ e₁ d₁ xs → (written : List ℕ) × Appends c₀ c₁ written × Answers e₀ read e₁ written counted
ended {c₀} {c₁} {e₀} {e₁} {d₀} {d₁} read xs counted pending counts none same e g =
    let p = g.advances (start_of e₀) [] [] (begun e₀ d₀ pending counts) in
    (p.0, p.1, ap (outcome (start_of e₀)) e ∙ p.2.sum ∙ ap (λ l. record { entries = e₁; output = p.0 ++ l; counts = d₁.counts }) none ∙ ap (λ l. record { entries = e₁; output = l; counts = d₁.counts }) (append-nil p.0) ∙ ap (λ k. record { entries = e₁; output = p.0; counts = k }) (sym same))

pub late : (f : RunFault) (r₀ r₁ w₀ w w₁ n : ℕ) → IsLateFault f w w₁ → r₁ ≡ r₀ → w ≡ w₀ → n ≤ 2 ^ 40 → ExplainsFault f r₀ r₁ w₀ w₁ n
late Read r₀ r₁ w₀ w w₁ n h read same le = absurd h
late Write r₀ r₁ w₀ w w₁ n h read same le = (read, omega (arith, h, same), le)
late NoEnd r₀ r₁ w₀ w w₁ n h read same le = absurd h
late Memory r₀ r₁ w₀ w w₁ n h read same le = (read, h ∙ same, le)

pub StopsWithin-as : {c₀ c₁ : Option (List ℕ)} {e₀ e₁ : List Entry} {d₀ : Output} {xs ys : List ParsedLine} → ys ≡ xs → StopsWithin c₀ c₁ e₀ d₀ e₁ xs → StopsWithin c₀ c₁ e₀ d₀ e₁ ys
StopsWithin-as e s = rw e s
