use Rattle.std.proofs.Common.{◌≡◌, ◌++◌, [], sym, subst, ◌∙◌}
use Rattle.std.proofs.lemmas.Bool.{false≢true}
use Rattle.hub_replay.specs.Lines.{parsed_lines}
use Rattle.journaled_hub.specs.Answering.{LeadsTo}
use Rattle.hub_replay.proofs.StreamLemmas.{Appends-none}
use Rattle.journaled_hub.proofs.AnsweringLemmas.{stopped_at_once, stopped_in_writing}
use Rattle.journaled_hub.proofs.CrashLemmas.{gone_unwritten, gone_by_batch}
use Rattle.journaled_hub.proofs.replay.answer_turn.Goals as goal

-- all of the calls are on the disk, and a front of the answers was written
pub returns-clause-err : goal.returns-clause-err
returns-clause-err g c =
    let wrote = c.in-Err-write_replies.ensures.err in
    let old = c.args.hub.now.hub in
    let new = c.answer_lines.new.self.hub in
    let lines = parsed_lines c.args.lines.now in
    let all : c.in-Ok.replies.items ≡ wrote.0 ++ wrote.1 = sym c.as_slice.ensures.value ∙ wrote.2 in
    let leads : LeadsTo old lines new (wrote.0 ++ wrote.1) = subst (λ l. LeadsTo old lines new l) all c.in-Ok.ensures.answers in (
      wrote.0,
      new,
      wrote.3,
      stopped_in_writing old lines new wrote.0 wrote.1 leads,
      λ sound. c.in-Ok-sync.ensures.durable,
    )

-- the sync failed: nothing was written
pub returns-in_default-clause-err : goal.returns-in_default-clause-err
returns-in_default-clause-err g c =
    let old = c.args.hub.now.hub in
    ([], old, Appends-none _, stopped_at_once old (parsed_lines c.args.lines.now), λ sound. absurd (false≢true (sym sound ∙ c.in_default.ensures.failed)))

-- what a crash leaves: calls that were not noted, a batch whose sync failed, and one that was synced
pub returns-in-Err-clause-crash : goal.returns-in-Err-clause-crash
returns-in-Err-clause-crash g c =
    let made = c.answer_lines.ensures in
    gone_unwritten c.args.hub.now c.answer_lines.new.self made.grows.0 c.requires made.journal made.grows.1

pub returns-in_default-clause-crash : goal.returns-in_default-clause-crash
returns-in_default-clause-crash g c =
    let made = c.answer_lines.ensures in
    gone_by_batch c.args.hub.now c.answer_lines.new.self c.sync.new.self made.grows.0 c.requires made.journal made.grows.1 c.sync.ensures.history c.sync.ensures.any_moment

pub returns-in-Ok-write_replies-clause-crash : goal.returns-in-Ok-write_replies-clause-crash
returns-in-Ok-write_replies-clause-crash g c =
    let made = c.answer_lines.ensures in
    gone_by_batch c.args.hub.now c.answer_lines.new.self c.sync.new.self made.grows.0 c.requires made.journal made.grows.1 c.sync.ensures.history c.sync.ensures.any_moment

pub returns-clause-crash : goal.returns-clause-crash
returns-clause-crash g c =
    let made = c.answer_lines.ensures in
    gone_by_batch c.args.hub.now c.answer_lines.new.self c.sync.new.self made.grows.0 c.requires made.journal made.grows.1 c.sync.ensures.history c.sync.ensures.any_moment
