use Rattle.inbox.proofs.Common.{rules, ◌≡◌, ◌∷◌, map, sum_by, arith, None, ap, ◌∙◌, view, pass_view, PassState, jobs_of, YieldsList-end, YieldsList-from_vec}
use Rattle.inbox.proofs.CloseLemmas.{first_rest, same_map, merges_on, whole, seals_on, closes}
use Rattle.inbox.proofs.queue.Inbox.close.Goals as goal

pub absorb-requires-clause-rule : goal.absorb-requires-clause-rule
absorb-requires-clause-rule g c = merges_on _ _ _ _ _ _ c.loop-next.invariant.1 (let h = c.first.invariant.1.0 in omega (arith, h)) c.next-in-loop-next.invariant.1

pub pop_as-first-requires-clause-rule : goal.pop_as-first-requires-clause-rule
pop_as-first-requires-clause-rule g c =
    let ends : c.loop-next.yielded ≡ c.remove-first.new.self.items = same_map _ _ (YieldsList-end (YieldsList-from_vec c.remove-first.new.self.items (search rules) (search rules)) c.loop-next.yielded _ c.loop-next.yielded_by c.next.result c.next.new.self c.in-None.is c.next.ensures.steps).0 in
    let all : c.args.passes.items ≡ c.remove-first.result ∷ c.loop-next.yielded = first_rest _ _ _ (search rules) c.remove-first.ensures.value (ends ∙ c.remove-first.ensures.by_index.2) in
    let is : view c.loop-next.whole ≡ pass_view (sum_by (λ (t : PassState). t.parts) c.args.passes.items) (map jobs_of c.args.passes.items) None = whole _ _ _ _ _ _ c.loop-next.invariant.1 c.first.invariant.1 c.first.view_is all in
    seals_on _ _ (map jobs_of c.args.passes.items) (is ∙ ap (λ n. pass_view n (map jobs_of c.args.passes.items) None) c.requires.all)

pub returns : goal.returns
returns g c =
    let ends : c.loop-next.yielded ≡ c.remove-first.new.self.items = same_map _ _ (YieldsList-end (YieldsList-from_vec c.remove-first.new.self.items (search rules) (search rules)) c.loop-next.yielded _ c.loop-next.yielded_by c.next.result c.next.new.self c.in-None.is c.next.ensures.steps).0 in
    let all : c.args.passes.items ≡ c.remove-first.result ∷ c.loop-next.yielded = first_rest _ _ _ (search rules) c.remove-first.ensures.value (ends ∙ c.remove-first.ensures.by_index.2) in
    let is : view c.loop-next.whole ≡ pass_view (sum_by (λ (t : PassState). t.parts) c.args.passes.items) (map jobs_of c.args.passes.items) None = whole _ _ _ _ _ _ c.loop-next.invariant.1 c.first.invariant.1 c.first.view_is all in
    closes _ _ _ c.args.passes.items (ap (λ v. v.passes) is) c.pop_as-first.ensures.rule
