use Rattle.closed_trips.proofs.Common.{ap, ◌∙◌, is_body_on}
use Rattle.taf_messages.specs.declared.message.Body.TheVariants as body
use Rattle.closed_trips.specs.ClosedNames.{names_but}
use Rattle.closed_trips.proofs.sides.is_body_on.Goals as goal

pub returns-in-Answer : goal.returns-in-Answer
returns-in-Answer c =
    rw c.in-Answer.is (c.is_answer_on.ensures c.args.by ∙ ap (λ a. is_body_on (names_but c.args.names.now) c.args.side c.args.by (body.Answer a)) c.get-in-Answer.ensures)
