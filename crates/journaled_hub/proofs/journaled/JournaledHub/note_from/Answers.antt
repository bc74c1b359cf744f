use Rattle.std.proofs.Common.{◌≡◌, ℕ, ◌+◌, List, [], ◌∷◌, ◌++◌, take, ap, sym, ◌∙◌}
use Rattle.std.specs.Prelude.{Some, slice_get}
use Rattle.std.proofs.lemmas.List.{take_more}
use Rattle.std.proofs.lemmas.Option.{slice_get_within, get_or_from_slice_get}
use Rattle.hub_model.specs.declared.entry.Entry.{Entry}
use Rattle.journal.specs.Journals.{lines_of}
use Rattle.journaled_hub.proofs.LineLemmas.{sum_of_next, noted_next}
use Rattle.journaled_hub.proofs.journaled.JournaledHub.note_from.Goals as goal

pub loop-at-preserved : goal.loop-at-preserved
loop-at-preserved g c =
    let old = c.loop-at.self in
    let history = old.hub in
    let at = c.loop-at.at in
    let entry : Entry = c.in-Some.entry.now in
    let got : slice_get history at ≡ Some entry = sym c.in-Some.ensures in
    let next : take (at + 1) history ≡ take at history ++ entry ∷ [] = take_more history at entry (slice_get_within history at entry got) ∙ ap (λ x. take at history ++ x ∷ []) (get_or_from_slice_get history at entry entry got) in
    let was = c.loop-at.invariant.0 in
    let line = c.in-Ok.line.items in (
      record {
        on_disk = was.on_disk;
        lines = λ sound. noted_next (take at history) (take (at + 1) history) entry old.sum c.in-Ok.sum line next was.last c.in-Ok.ensures.sum
            (lines_of old.journal) old.pending c.push.new.self c.in-Ok.ensures.text (was.lines sound) (c.in-Ok-push.ensures.ok ∙ ap (λ (l : List ℕ). old.pending ++ l ∷ []) c.as_slice.ensures.value);
        last = sum_of_next (take at history) (take (at + 1) history) entry old.sum c.in-Ok.sum line next was.last c.in-Ok.ensures.sum;
      },
      c.loop-at.invariant.1,
      c.loop-at.invariant.2,
    )
