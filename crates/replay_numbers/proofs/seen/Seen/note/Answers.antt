use Rattle.replay_numbers.proofs.Common.{ℕ, Option, Some, cond, ap, ◌∙◌, Railway, same_name}
use Rattle.replay_numbers.proofs.seen.Seen.note.Goals as goal

pub note_reserved-requires-clause-new : goal.note_reserved-requires-clause-new
note_reserved-requires-clause-new c =
    ap (λ (found : Railway → ℕ → Option ℕ). found c.args.by c.args.number) c.find_or_make_room.ensures.positions ∙ c.requires.new

pub returns-clause-finds : goal.returns-clause-finds
returns-clause-finds c = λ also other.
    c.note_reserved.ensures also other ∙
    ap (λ (found : Railway → ℕ → Option ℕ). cond (same_name c.args.by c.args.number also other) (Some c.args.position) (found also other)) c.find_or_make_room.ensures.positions
