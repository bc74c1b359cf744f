use Rattle.std.proofs.Common.{◌≡◌, ◌≤◌, ◌+◌, List, Option, length, nat_lt, ap, subst, ◌∙◌, arith, if◌then◌else◌}
use Rattle.std.specs.Vec.{with_items}
use Rattle.std.proofs.lemmas.Bool.{ltb-true}
use Rattle.std.proofs.lemmas.List.{with_items_is}
use Rattle.board_connections.specs.declared.client.Client.{Client}
use Rattle.board_connections.specs.Waiting.{waiting_count}
use Rattle.board_connections.proofs.AnswerLemmas.{limited_calls}
use Rattle.board_connections.proofs.WaitingLemmas.{few_wait_kept}
use Rattle.board_connections.proofs.clients.Clients.go_on.Goals as goal

pub invariant_of-self-then-is_kept : goal.invariant_of-self-then-is_kept
invariant_of-self-then-is_kept g c =
    let taken : waiting_count c.take.new.places + (if c.in-Some.client.has_answer then 1 else 0) ≡ waiting_count c.args.self.now.places.items =
    omega (arith, c.in-Some.ensures.some, ap waiting_count c.deref_mut.ensures.value) in
    let kept_len : length c.take.new.places ≡ c.args.self.now.places.len = c.take.auto.places ∙ c.deref_mut.ensures.len in
    let rest : (with_items c.args.self.now.places c.take.new.places).items ≡ c.take.new.places =
    with_items_is c.args.self.now.places c.take.new.places kept_len in
    let counted : c.answers_waiting.result ≡ waiting_count c.take.new.places =
    c.answers_waiting.ensures ∙ ap waiting_count (c.deref.ensures.value ∙ rest) in
    let shown : c.deref_mut-then-is_kept.result.now ≡ c.take.new.places = c.deref_mut-then-is_kept.ensures.value ∙ rest in
    let over_shown : waiting_count c.put.new.places ≤ waiting_count c.deref_mut-then-is_kept.result.now + (if c.is_kept.new.client.has_answer then 1 else 0) =
    c.put.ensures in
    let over : waiting_count c.put.new.places ≤ waiting_count c.take.new.places + (if c.is_kept.new.client.has_answer then 1 else 0) =
    subst (λ (l : List (Option Client)). waiting_count c.put.new.places ≤ waiting_count l + (if c.is_kept.new.client.has_answer then 1 else 0)) shown over_shown in
    let put_len : length c.put.new.places ≡ c.args.self.now.places.len = c.put.auto.places ∙ c.deref_mut-then-is_kept.ensures.len in
    let whole = with_items_is (with_items c.args.self.now.places c.take.new.places) c.put.new.places put_len in
    let few : waiting_count c.put.new.places ≤ c.args.self.now.limits.waiting_answers =
    few_wait_kept (waiting_count c.args.self.now.places.items) (waiting_count c.take.new.places) (waiting_count c.put.new.places)
    c.args.self.now.limits.waiting_answers c.answers_waiting.result c.in-Some.client.has_answer c.go_on-waiting.new.self.has_answer
    c.note_answer.new.self.has_answer c.is_kept.new.client.has_answer (nat_lt c.answers_waiting.result c.args.self.now.limits.waiting_answers)
    c.args.self.now.few_wait taken counted c.go_on-waiting.ensures.answer c.note_answer.ensures (ltb-true _ _) c.is_kept.ensures over in
    record { few_wait = rw whole few }

pub returns-then-is_kept : goal.returns-then-is_kept
returns-then-is_kept g c =
    limited_calls g.S.Service.answers c.args.service.now c.set_may_answer.new.self c.go_on-waiting.new.service _ _ _ c.set_may_answer.ensures c.go_on-waiting.ensures.calls

pub returns-else-is_kept : goal.returns-else-is_kept
returns-else-is_kept g c =
    limited_calls g.S.Service.answers c.args.service.now c.set_may_answer.new.self c.go_on-waiting.new.service _ _ _ c.set_may_answer.ensures c.go_on-waiting.ensures.calls
