-- What lines lead to, one part after another.
use Rattle.std.proofs.Common.{◌≡◌, ℕ, nat_lt, true, false, cond, List, [], ◌∷◌, ◌++◌, length, refl, sym, ap, ◌∙◌, subst, append_assoc, append-nil, codes}
use Rattle.taf_messages.specs.declared.call.Call.{Call}
use Rattle.hub_model.specs.declared.entry.Entry.{Entry}
use Rattle.call_lines.specs.Lines.{fault_text, reply_text}
use Rattle.call_lines.specs.declared.parsed.ParsedLine.{ParsedLine}
use Rattle.call_lines.specs.declared.parsed.ParsedLine.TheVariants.{Blank, TooLong, Fault, Called}
use Rattle.hub_replay.specs.declared.counts.Counts.{Counts}
use Rattle.hub_replay.specs.Lines.{parsed_lines}
use Rattle.hub_replay.specs.Outcomes.{Outcome, outcome, after, start_of, with_fault_line, with_reply_line, entry_of, Answers, IsStopped}
use Rattle.hub_replay.proofs.RunLemmas.{outcome-append}
use Rattle.journaled_hub.specs.Answering.{LeadsTo, IsStoppedOnDisk}

-- the same entries, and so much written before
record Follows (w : List ℕ) (o p : Outcome) : Type 0 where
  entries : p.entries ≡ o.entries
  output : p.output ≡ w ++ o.output

follows_fault : (w : List ℕ) (o p : Outcome) (text : List ℕ) → Follows w o p → Follows w (with_fault_line o text) (with_fault_line p text)
unfolding with_fault_line
follows_fault w o p text f = record {
  entries = f.entries;
  output = ap (λ l. l ++ (text ++ 10 ∷ [])) f.output ∙ append_assoc w o.output (text ++ 10 ∷ []);
}

follows_reply : (w : List ℕ) (o p : Outcome) (call : Call) → Follows w o p → Follows w (with_reply_line o call) (with_reply_line p call)
unfolding with_reply_line
follows_reply w o p call f = record {
  entries = ap (λ l. l ++ entry_of l call ∷ []) f.entries;
  output = ap (λ l. l ++ (reply_text (entry_of p.entries call).reply ++ 10 ∷ [])) f.output
      ∙ append_assoc w o.output (reply_text (entry_of p.entries call).reply ++ 10 ∷ [])
      ∙ ap (λ e. w ++ (o.output ++ (reply_text (entry_of e call).reply ++ 10 ∷ []))) f.entries;
}

follows_after : (w : List ℕ) (o p : Outcome) (h : ParsedLine) → Follows w o p → Follows w (after o h) (after p h)
follows_after w o p Blank f = f
follows_after w o p TooLong f = follows_fault w o p (codes "{\"fault\":\"line_too_long\"}") f
follows_after w o p (Fault fault) f = follows_fault w o p (fault_text fault) f
follows_after w o p (Called call) f =
    let full = codes "{\"fault\":\"hub_full\"}" in
    subst (λ b. Follows w (after o (Called call)) (cond b (with_reply_line p call) (with_fault_line p full))) (ap (λ (l : List Entry). nat_lt (length l) 1000000) (sym f.entries))
    (elim (nat_lt (length o.entries) 1000000) as (λ b. Follows w (cond b (with_reply_line o call) (with_fault_line o full)) (cond b (with_reply_line p call) (with_fault_line p full)))
    [ true ↦ follows_reply w o p call f | false ↦ follows_fault w o p full f ])

follows : (w : List ℕ) (o p : Outcome) (hs : List ParsedLine) → Follows w o p → Follows w (outcome o hs) (outcome p hs)
follows w o p [] f = f
follows w o p (h ∷ hs) f = follows w (after o h) (after p h) hs (follows_after w o p h f)

-- no line: nothing is written
pub leads_nowhere : (old : List Entry) → LeadsTo old [] old []
leads_nowhere old = record { entries = refl; output = refl }

-- lines, and then more lines
pub leads_on : (old mid new : List Entry) (lines more : List ParsedLine) (written next : List ℕ)
    → LeadsTo old lines mid written → LeadsTo mid more new next → LeadsTo old (lines ++ more) new (written ++ next)
leads_on old mid new lines more written next a b =
    let joined = outcome-append (start_of old) lines more in
    let f = follows written (start_of mid) (outcome (start_of old) lines) more (record { entries = a.entries; output = a.output ∙ sym (append-nil written) }) in
    record {
      entries = ap (λ (o : Outcome). o.entries) joined ∙ f.entries ∙ b.entries;
      output = ap (λ (o : Outcome). o.output) joined ∙ f.output ∙ ap (λ l. written ++ l) b.output;
    }

-- what answers lead to
pub answers_lead : (old : List Entry) (read : List ℕ) (new : List Entry) (written : List ℕ) (counts : Counts) → Answers old read new written counts → LeadsTo old (parsed_lines read) new written
answers_lead old read new written counts e = record {
  entries = ap (λ (o : Outcome). o.entries) e;
  output = ap (λ (o : Outcome). o.output) e;
}

-- a history goes on
grows_after : (o : Outcome) (h : ParsedLine) → (more : List Entry) × ((after o h).entries ≡ o.entries ++ more)
unfolding with_fault_line with_reply_line
grows_after o Blank = ([], sym (append-nil o.entries))
grows_after o TooLong = ([], sym (append-nil o.entries))
grows_after o (Fault f) = ([], sym (append-nil o.entries))
grows_after o (Called call) =
    elim (nat_lt (length o.entries) 1000000) as (λ t. (more : List Entry) × ((cond t (with_reply_line o call) (with_fault_line o (codes "{\"fault\":\"hub_full\"}"))).entries ≡ o.entries ++ more))
    [ true ↦ (_, refl) | false ↦ ([], sym (append-nil o.entries)) ]

grows : (o : Outcome) (hs : List ParsedLine) → (more : List Entry) × ((outcome o hs).entries ≡ o.entries ++ more)
grows o [] = ([], sym (append-nil o.entries))
grows o (h ∷ hs) =
    let one = grows_after o h in
    let rest = grows (after o h) hs in
    (one.0 ++ rest.0, rest.1 ∙ ap (λ l. l ++ rest.0) one.1 ∙ append_assoc o.entries one.0 rest.0)

pub history_goes_on : (old : List Entry) (lines : List ParsedLine) (new : List Entry) (written : List ℕ) → LeadsTo old lines new written → (more : List Entry) × (new ≡ old ++ more)
history_goes_on old lines new written l =
    let g = grows (start_of old) lines in
    (g.0, sym l.entries ∙ g.1)

-- so it does where the answers stop
pub stopped_goes_on : (old : List Entry) (lines : List ParsedLine) (written : List ℕ) (new : List Entry) → IsStopped (start_of old) lines written new → (more : List Entry) × (new ≡ old ++ more)
stopped_goes_on old lines written new s =
    let g = grows (start_of old) (s.complete ++ s.last) in
    (g.0, s.entered ∙ g.1)

-- a stop at the first of the lines
pub stopped_at_once : (old : List Entry) (lines : List ParsedLine) → IsStoppedOnDisk old lines [] old
stopped_at_once old lines = record { complete = []; rest = lines; split = refl; lacks = []; leads = leads_nowhere old }

-- a stop where all is on the disk, and a front was written
pub stopped_in_writing : (old : List Entry) (lines : List ParsedLine) (new : List Entry) (front rest : List ℕ) → LeadsTo old lines new (front ++ rest) → IsStoppedOnDisk old lines front new
stopped_in_writing old lines new front rest l = record { complete = lines; rest = []; split = sym (append-nil lines); lacks = rest; leads = l }

-- lines that were answered, and then a stop
pub stopped_on : (old mid durable : List Entry) (lines more : List ParsedLine) (written next : List ℕ)
    → LeadsTo old lines mid written → IsStoppedOnDisk mid more next durable → IsStoppedOnDisk old (lines ++ more) (written ++ next) durable
stopped_on old mid durable lines more written next a s = record {
  complete = lines ++ s.complete;
  rest = s.rest;
  split = ap (λ l. lines ++ l) s.split ∙ sym (append_assoc lines s.complete s.rest);
  lacks = s.lacks;
  leads = subst (λ l. LeadsTo old (lines ++ s.complete) durable l) (sym (append_assoc written next s.lacks)) (leads_on old mid durable lines s.complete written (next ++ s.lacks) a s.leads);
}

-- more lines that are not answered
pub stopped_before : (old durable : List Entry) (lines more : List ParsedLine) (written : List ℕ) → IsStoppedOnDisk old lines written durable → IsStoppedOnDisk old (lines ++ more) written durable
stopped_before old durable lines more written s = record {
  complete = s.complete;
  rest = s.rest ++ more;
  split = ap (λ l. l ++ more) s.split ∙ append_assoc s.complete s.rest more;
  lacks = s.lacks;
  leads = s.leads;
}

-- a stop behind lines that were answered
pub stopped_here : (old now : List Entry) (lines more : List ParsedLine) (written : List ℕ) → LeadsTo old lines now written → IsStoppedOnDisk old (lines ++ more) written now
stopped_here old now lines more written l = record {
  complete = lines;
  rest = more;
  split = refl;
  lacks = [];
  leads = subst (LeadsTo old lines now) (sym (append-nil written)) l;
}
