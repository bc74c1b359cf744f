-- What a crash leaves of a hub's history, one part of the work after another.
use Rattle.std.proofs.Common.{◌≡◌, ◌⊎◌, ⊎_elim, ℕ, ◌≤◌, false, List, [], ◌++◌, length, sym, ap, ◌∙◌, subst, arith, append_assoc, append-nil, length-append}
use Rattle.log_file.specs.declared.past.Past.{Past}
use Rattle.log_file.specs.Crashes.{content_of, LeavesOnly}
use Rattle.journal.specs.Lines.{StandsFor, recovered_lines}
use Rattle.journal.specs.Journals.{journal_past, lines_of, has_failed as journal_failed}
use Rattle.hub_model.specs.declared.entry.Entry.{Entry}
use Rattle.journaled_hub.specs.Crashes.{IsFrontOnDisk, HasGoneOn}
use Rattle.journaled_hub.specs.HistoryLines.{lines_of_history}
use Rattle.journaled_hub.specs.JournaledHubs.{history_of, journal_of, past_of, has_failed, durable_lines, IsOnDisk}
use Rattle.journaled_hub.specs.declared.journaled.JournaledHub.{JournaledHub}
use Rattle.log_file.proofs.CrashLemmas.{leaves_weaker, leaves_on}
use Rattle.journal.proofs.JournalLemmas.{not_begun}
use Rattle.journaled_hub.proofs.DiskLemmas.{all_durable}

-- a front of a history is one of each history that goes on
front_of_more : (least : ℕ) (history more : List Entry) (bytes : List ℕ) → IsFrontOnDisk least history bytes → IsFrontOnDisk least (history ++ more) bytes
front_of_more least history more bytes f = record {
  front = f.front;
  rest = f.rest ++ more;
  split = ap (λ h. h ++ more) f.split ∙ append_assoc f.front f.rest more;
  enough = f.enough;
  stands = f.stands;
}

-- and it has the fewer that are wanted
front_of_fewer : (least few : ℕ) (history : List Entry) (bytes : List ℕ) → few ≤ least → IsFrontOnDisk least history bytes → IsFrontOnDisk few history bytes
front_of_fewer least few history bytes le f = record {
  front = f.front;
  rest = f.rest;
  split = f.split;
  enough = (let enough = f.enough in omega (arith, le, enough));
  stands = f.stands;
}

-- all of a history
whole_front : (history : List Entry) (bytes : List ℕ) → StandsFor bytes (lines_of_history history) → IsFrontOnDisk (length history) history bytes
whole_front history bytes stands = record { front = history; rest = []; split = sym (append-nil history); enough = omega arith; stands = stands }

-- before anything is done
nothing_done : {F : Type 0} (hub : JournaledHub F) → IsOnDisk hub → LeavesOnly (past_of hub) (past_of hub) (IsFrontOnDisk (length (history_of hub)) (history_of hub))
nothing_done hub d =
    let past = past_of hub in
    let disk = d.journaled.on_disk in
    let found = recovered_lines (content_of past) in
    let same : found ≡ lines_of_history (history_of hub) = all_durable hub d in
    leaves_weaker past past (λ c. StandsFor c found ⊎ StandsFor c (found ++ [])) (IsFrontOnDisk (length (history_of hub)) (history_of hub))
    (λ c either. whole_front (history_of hub) c (⊎_elim (λ stands. subst (StandsFor c) same stands) (λ stands. subst (StandsFor c) (append-nil found ∙ same) stands) either))
    (not_begun past [] (disk.synced d.sound) (disk.whole d.sound))

-- a batch: all of its calls are there, or none
batch_leaves : (old new : Past) (before more after : List Entry) (durable : List (List ℕ)) → after ≡ before ++ more → durable ≡ lines_of_history before
    → LeavesOnly old new (λ c. StandsFor c durable ⊎ StandsFor c (lines_of_history after))
    → LeavesOnly old new (IsFrontOnDisk (length before) after)
batch_leaves old new before more after durable grows on_disk leaves =
    leaves_weaker old new (λ c. StandsFor c durable ⊎ StandsFor c (lines_of_history after)) (IsFrontOnDisk (length before) after)
    (λ c either. ⊎_elim
    (λ none. subst (λ h. IsFrontOnDisk (length before) h c) (sym grows) (front_of_more (length before) before more c (whole_front before c (subst (StandsFor c) on_disk none))))
    (λ all. front_of_fewer (length after) (length before) after c (let long = ap length grows in let sum = length-append before more in omega (arith, long, sum)) (whole_front after c all))
    either)
    leaves

-- the hub as it was
pub gone_nowhere : {F : Type 0} (hub : JournaledHub F) → IsOnDisk hub → HasGoneOn hub hub
gone_nowhere hub d = record { more = []; grows = sym (append-nil (history_of hub)); any_moment = nothing_done hub d }

-- calls that nothing was done with on the disk
pub gone_unwritten : {F : Type 0} (old new : JournaledHub F) (more : List Entry) → IsOnDisk old → journal_of new ≡ journal_of old → history_of new ≡ history_of old ++ more → HasGoneOn old new
gone_unwritten old new more d journal grows =
    let least = length (history_of old) in
    record {
      more = more;
      grows = grows;
      any_moment =
          leaves_weaker (past_of old) (past_of new) (IsFrontOnDisk least (history_of old)) (IsFrontOnDisk least (history_of new))
          (λ c front. subst (λ h. IsFrontOnDisk least h c) (sym grows) (front_of_more least (history_of old) more c front))
          (subst (λ p. LeavesOnly (past_of old) p (IsFrontOnDisk least (history_of old))) (sym (ap journal_past journal)) (nothing_done old d));
    }

-- calls, and the sync that puts them on the disk
pub gone_by_batch : {F : Type 0} (old calls new : JournaledHub F) (more : List Entry) → IsOnDisk old → journal_of calls ≡ journal_of old → history_of calls ≡ history_of old ++ more → history_of new ≡ history_of calls
    → (has_failed calls ≡ false → LeavesOnly (past_of calls) (past_of new) (λ c. StandsFor c (durable_lines calls) ⊎ StandsFor c (lines_of_history (history_of calls))))
    → HasGoneOn old new
gone_by_batch old calls new more d journal grows history leaves =
    let durable : durable_lines calls ≡ lines_of_history (history_of old) = ap lines_of journal ∙ all_durable old d in
    let left : LeavesOnly (past_of old) (past_of new) (λ c. StandsFor c (durable_lines calls) ⊎ StandsFor c (lines_of_history (history_of new))) =
    subst (λ p. LeavesOnly p (past_of new) (λ c. StandsFor c (durable_lines calls) ⊎ StandsFor c (lines_of_history (history_of new)))) (ap journal_past journal)
    (subst (λ h. LeavesOnly (past_of calls) (past_of new) (λ c. StandsFor c (durable_lines calls) ⊎ StandsFor c (lines_of_history h))) (sym history) (leaves (ap journal_failed journal ∙ d.sound))) in
    record {
      more = more;
      grows = history ∙ grows;
      any_moment = batch_leaves (past_of old) (past_of new) (history_of old) more (history_of new) (durable_lines calls) (history ∙ grows) durable left;
    }

-- a part of the work, and then a further part
pub gone_on : {F : Type 0} (a b c : JournaledHub F) → HasGoneOn a b → HasGoneOn b c → HasGoneOn a c
gone_on a b c p q =
    let least = length (history_of a) in
    record {
      more = p.more ++ q.more;
      grows = q.grows ∙ ap (λ l. l ++ q.more) p.grows ∙ append_assoc (history_of a) p.more q.more;
      any_moment =
          leaves_on (past_of a) (past_of b) (past_of c) (IsFrontOnDisk least (history_of b)) (IsFrontOnDisk (length (history_of b)) (history_of c)) (IsFrontOnDisk least (history_of c))
          (λ l front. subst (λ h. IsFrontOnDisk least h l) (sym q.grows) (front_of_more least (history_of b) q.more l front))
          (λ l front. front_of_fewer (length (history_of b)) least (history_of c) l (let long = ap length p.grows in let sum = length-append (history_of a) p.more in omega (arith, long, sum)) front)
          p.any_moment q.any_moment;
    }
