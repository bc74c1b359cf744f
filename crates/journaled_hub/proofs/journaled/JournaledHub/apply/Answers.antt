use Rattle.journaled_hub.proofs.LineLemmas.{sum_of_next, noted_next}
use Rattle.std.proofs.Common.{◌∙◌, ap, ◌++◌, ◌∷◌, [], List, ℕ}
use Rattle.hub_model.specs.declared.entry.Entry.{Entry}
use Rattle.journal.specs.Journals.{lines_of}
use Rattle.journaled_hub.proofs.journaled.JournaledHub.apply.Goals as goal

pub returns-in-Ok-apply-clause-journaled : goal.returns-in-Ok-apply-clause-journaled
returns-in-Ok-apply-clause-journaled g c =
    let entry : Entry = record { call = c.args.call; reply = c.in-Ok-apply.replied.1 } in
    let old = c.args.self.now in
    record {
      on_disk = c.requires.on_disk;
      lines = λ sound. noted_next old.hub c.apply.new.self entry old.sum c.in-Ok.sum c.in-Ok.line.items c.in-Ok-apply.ensures.grows c.requires.last c.in-Ok.ensures.sum
          (lines_of old.journal) old.pending c.push.new.self c.in-Ok.ensures.text (c.requires.lines sound) (c.in-Ok-push.ensures.ok ∙ ap (λ (l : List ℕ). old.pending ++ l ∷ []) c.as_slice.ensures.value);
      last = sum_of_next old.hub c.apply.new.self entry old.sum c.in-Ok.sum c.in-Ok.line.items c.in-Ok-apply.ensures.grows c.requires.last c.in-Ok.ensures.sum;
    }
