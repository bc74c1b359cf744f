-- What a batch makes of a journal, and what opening it does.
use Rattle.std.proofs.Common.{◌≡◌, ◌⊎◌, inl, inr, ℕ, Bool, true, List, [], ◌++◌, take, Vec, sym, ◌∙◌, ap, subst}
use Rattle.std.specs.declared.alloc.Global.{Global}
use Rattle.std.proofs.lemmas.List.{append-nil}
use Rattle.log_file.specs.declared.past.Past.{Past}
use Rattle.log_file.specs.declared.past.Past.TheBlock.{Opened, Appended', Cut', Synced', Broken'}
use Rattle.log_file.specs.Crashes.{content_of, IsSynced, MayLeave, IsPartlyAppended, LeavesOnly}
use Rattle.log_file.specs.Files.{after_append, after_cut, after_sync, after_failure}
use Rattle.log_file.proofs.CrashLemmas.{start_leaves, append_leaves, cut_leaves, sync_leaves, failure_leaves}
use Rattle.journal.specs.Lines.{are_lines, batch_text, recovered_lines, AreWhole, HasWholeBatches, StandsFor}
use Rattle.journal.specs.Journals.{IsWholeOnDisk}
use Rattle.journal.proofs.LineLemmas.{batch_whole, both_whole, read_none}
use Rattle.journal.proofs.CrashLemmas.{whole_stands, grown_stands, shrunk_stands}

synced_only : (past : Past) (c : List ℕ) → IsSynced past → MayLeave past c → c ≡ content_of past
synced_only (Opened bytes) c synced left = left
synced_only (Appended' marker before bytes) c synced left = absurd synced
synced_only (Cut' marker before len) c synced left = absurd synced
synced_only (Synced' marker before) c synced left = left
synced_only (Broken' marker before) c synced left = absurd synced

-- whole batches are read as their lines
pub whole_recovered : (bytes : List ℕ) (lines : List (List ℕ)) → AreWhole bytes lines → recovered_lines bytes ≡ lines
whole_recovered bytes lines are = ap recovered_lines (sym (append-nil bytes)) ∙ are.stand_for [] ∙ ap (λ l. lines ++ l) (read_none [] []) ∙ append-nil lines

-- ---- a batch

module _ (past : Past) (batch : List (List ℕ)) (synced : IsSynced past) (whole : AreWhole (content_of past) (recovered_lines (content_of past))) where
  -- the lines from before, with all of the batch or none
  abbrev pub AllOrNone : List ℕ → Type 0
  AllOrNone c = StandsFor c (recovered_lines (content_of past)) ⊎ StandsFor c (recovered_lines (content_of past) ++ batch)

  here : (c : List ℕ) → MayLeave past c → AllOrNone c
  here c left = inl (subst (λ b. StandsFor b (recovered_lines (content_of past))) (sym (synced_only past c synced left)) (whole_stands (content_of past) (recovered_lines (content_of past)) whole))

  pub not_begun : LeavesOnly past past AllOrNone
  not_begun = start_leaves past AllOrNone here

module _ (past : Past) (text : Vec ℕ Global) (batch : List (List ℕ)) (synced : IsSynced past) (whole : AreWhole (content_of past) (recovered_lines (content_of past))) (text_is : text.items ≡ batch_text batch) (are : are_lines batch ≡ true) where
  abbrev Outcome : List ℕ → Type 0
  Outcome c = StandsFor c (recovered_lines (content_of past)) ⊎ StandsFor c (recovered_lines (content_of past) ++ batch)

  grown : (c : List ℕ) → IsPartlyAppended text.items (content_of past) c → Outcome c
  grown c g = grown_stands (content_of past) (recovered_lines (content_of past)) batch c whole are (subst (λ t. IsPartlyAppended t (content_of past) c) text_is g)

  new_whole : AreWhole (content_of past ++ text.items) (recovered_lines (content_of past) ++ batch)
  new_whole = both_whole (content_of past) text.items (recovered_lines (content_of past)) batch whole (subst (λ t. AreWhole t batch) (sym text_is) (batch_whole batch are))

  appending : LeavesOnly past (after_append past text) Outcome
  appending = append_leaves past past text Outcome (not_begun past batch synced whole) grown

  pub committed : (new : Past) → new ≡ after_sync (after_append past text) → LeavesOnly past new Outcome
  committed new is = subst (λ n. LeavesOnly past n Outcome) (sym is) (sync_leaves past (after_append past text) Outcome appending (inr (whole_stands (content_of past ++ text.items) (recovered_lines (content_of past) ++ batch) new_whole)))

  pub failed : (new : Past) → new ≡ after_failure (after_append past text) → LeavesOnly past new Outcome
  failed new is = subst (λ n. LeavesOnly past n Outcome) (sym is) (failure_leaves past (after_append past text) Outcome appending grown)

  pub now_durable : (new : Past) → new ≡ after_sync (after_append past text) → recovered_lines (content_of new) ≡ recovered_lines (content_of past) ++ batch
  now_durable new is = ap (λ n. recovered_lines (content_of n)) is ∙ whole_recovered (content_of past ++ text.items) (recovered_lines (content_of past) ++ batch) new_whole

  pub now_kept : (new : Past) (broke : Bool) → new ≡ after_sync (after_append past text) → IsWholeOnDisk new broke
  now_kept new broke is = subst (λ n. IsWholeOnDisk n broke) (sym is) (record {
    synced = λ sound. tt;
    whole = λ sound. subst (AreWhole (content_of past ++ text.items)) (sym (whole_recovered (content_of past ++ text.items) (recovered_lines (content_of past) ++ batch) new_whole)) new_whole;
  })

-- ---- opening

module _ (past : Past) (whole : ℕ) (synced : IsSynced past) (found : HasWholeBatches (content_of past) (recovered_lines (content_of past)) whole true) where
  abbrev Same : List ℕ → Type 0
  Same c = StandsFor c (recovered_lines (content_of past))

  same_here : (c : List ℕ) → MayLeave past c → Same c
  same_here c left = subst (λ b. StandsFor b (recovered_lines (content_of past))) (sym (synced_only past c synced left)) (whole, found)

  pub untouched : LeavesOnly past past Same
  untouched = start_leaves past Same same_here

  cutting : LeavesOnly past (after_cut past whole) Same
  cutting = cut_leaves past past whole Same untouched (λ c shrunk. shrunk_stands (content_of past) (recovered_lines (content_of past)) whole c found shrunk)

  pub repaired : (new : Past) → new ≡ after_sync (after_cut past whole) → LeavesOnly past new Same
  repaired new is = subst (λ n. LeavesOnly past n Same) (sym is) (sync_leaves past (after_cut past whole) Same cutting (whole_stands (take whole (content_of past)) (recovered_lines (content_of past)) found.front))

  pub not_repaired : (new : Past) → new ≡ after_failure (after_cut past whole) → LeavesOnly past new Same
  not_repaired new is = subst (λ n. LeavesOnly past n Same) (sym is) (failure_leaves past (after_cut past whole) Same cutting (λ c shrunk. shrunk_stands (content_of past) (recovered_lines (content_of past)) whole c found shrunk))

-- a file that is whole batches of these lines
pub kept_whole : (past : Past) (lines : List (List ℕ)) (broke : Bool) → IsSynced past → AreWhole (content_of past) lines → IsWholeOnDisk past broke
kept_whole past lines broke synced are = record {
  synced = λ sound. synced;
  whole = λ sound. subst (AreWhole (content_of past)) (sym (whole_recovered (content_of past) lines are)) are;
}
