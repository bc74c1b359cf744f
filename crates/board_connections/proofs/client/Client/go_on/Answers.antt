use Rattle.std.proofs.Common.{refl, ◌∙◌}
use Rattle.http_server.proofs.StreamLemmas.{Calls-none, Calls-then}
use Rattle.board_connections.specs.LimitedService.{AnswersLimited}
use Rattle.board_connections.proofs.client.Client.go_on.Goals as goal

pub loop-init : goal.loop-init
loop-init g c = (Calls-none (AnswersLimited g.S.Service.answers) _ _ _ _ refl refl, refl)

pub loop-preserved : goal.loop-preserved
loop-preserved g c =
    let all = Calls-then (AnswersLimited g.S.Service.answers) _ _ _ _ _ _ c.loop.invariant.0 c.advance.ensures.calls in
    ((all.0, c.wait_after_move.ensures.calls ∙ all.1, all.2), c.wait_after_move.ensures.answer ∙ c.loop.invariant.1)

pub returns-in-Some-clause-calls : goal.returns-in-Some-clause-calls
returns-in-Some-clause-calls g c =
    let all = Calls-then (AnswersLimited g.S.Service.answers) _ _ _ _ _ _ c.loop.invariant.0 c.advance.ensures.calls in
    (all.0, c.wait_after_move.ensures.calls ∙ all.1, all.2)

pub returns-in-Some-clause-answer : goal.returns-in-Some-clause-answer
returns-in-Some-clause-answer g c = c.wait_after_move.ensures.answer ∙ c.loop.invariant.1
