use Rattle.hub_threads.proofs.Common.{arith, ap, sym, refl, subst, ◌∙◌, ◌≡◌, ℕ, ◌++◌, ◌∷◌, [], length, map-id, YieldsList-turn, YieldsList-end, YieldsList-from_vec, PromisedHandle, EachPair, EachPair-push}
use Rattle.hub_threads.proofs.threads.join_each.Goals as goal

pub loop-handle-init : goal.loop-handle-init
loop-handle-init g c =
    let none = ap (λ l. length l) c.requires.empty in
    ((none, λ k d e low. absurd (omega (arith, low))), refl)

pub push_reserved-requires : goal.push_reserved-requires
push_reserved-requires g c =
    let turn = (YieldsList-turn (YieldsList-from_vec c.args.handles.items c.into_iter-handle-iterator.ensures.into_iter_gives.0 (c.into_iter-handle-iterator.ensures.into_iter_gives.1 ∙ c.args.handles.ok.0)) c.loop-handle.yielded c.loop-handle.handle-iterator c.loop-handle.yielded_by c.next.result c.next.new.self c.in-Some.handle c.in-Some.is c.next.ensures.steps).0 in
    let held = c.loop-handle.invariant.0.0 in
    let ok = c.loop-handle.joined.ok.0 in
    let same = c.loop-handle.invariant.1 in
    let room = c.requires.room in
    let listed = c.args.handles.ok.0 in
    omega (arith, turn, held, ok, same, room, listed)

pub loop-handle-preserved : goal.loop-handle-preserved
loop-handle-preserved g c =
    let handle = c.in-Some.handle in
    let Keeps : ℕ → PromisedHandle g.row.T.Denot g.row.P.Denot → g.row.T.Denot → Type 0 = λ k h r. g.P.Promise.kept_by h.promise r in
    let same = c.loop-handle.invariant.1 in
    let kept = c.push_reserved.ensures.capacity in (
      subst (EachPair Keeps (c.loop-handle.yielded ++ handle ∷ [])) (sym c.push_reserved.ensures.items) (EachPair-push Keeps c.loop-handle.yielded c.loop-handle.joined.items handle c.join.result c.loop-handle.invariant.0 c.join.ensures),
      omega (arith, kept, same),
    )

pub returns : goal.returns
returns g c =
    let Keeps : ℕ → PromisedHandle g.row.T.Denot g.row.P.Denot → g.row.T.Denot → Type 0 = λ k h r. g.P.Promise.kept_by h.promise r in
    let all : c.loop-handle.yielded ≡ c.args.handles.items = sym (map-id c.loop-handle.yielded) ∙ (YieldsList-end (YieldsList-from_vec c.args.handles.items c.into_iter-handle-iterator.ensures.into_iter_gives.0 (c.into_iter-handle-iterator.ensures.into_iter_gives.1 ∙ c.args.handles.ok.0)) c.loop-handle.yielded c.loop-handle.handle-iterator c.loop-handle.yielded_by c.next.result c.next.new.self c.in-None.is c.next.ensures.steps).0 in
    subst (λ l. EachPair Keeps l c.loop-handle.joined.items) all c.loop-handle.invariant.0
