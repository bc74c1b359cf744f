use Rattle.hub_workers.proofs.Common.{arith, ap, sym, subst, ◌∙◌, ◌≡◌, ◌<◌, ℕ, zero, suc, List, [], ◌∷◌, length, map, length-map, get_or, PassState, LaneState, IsPassOf, EachAt, new_seat, Worker}
use Rattle.hub_workers.proofs.places.make_places.Goals as goal

-- a pass of a list that was taken of a list of workers
pass_at : {W : Type 0} (pass_of : W → PassState) (ws : List W) (k : ℕ) (w : W) (d : PassState) → k < length ws → get_or (map pass_of ws) k d ≡ pass_of (get_or ws k w)
pass_at pass_of [] k w d low = absurd (omega (arith, low))
pass_at pass_of (v ∷ ws) zero w d low = ap pass_of (let r : v ≡ v = cc in r)
pass_at pass_of (v ∷ ws) (suc k) w d low = pass_at pass_of ws k w d (omega (arith, low))

-- worker k has pass k
pub returns-clause-workers : goal.returns-clause-workers
returns-clause-workers g c =
    let passes = c.in_ok-lanes.field-0.passes.items in
    let lanes = c.in_ok-lanes.field-0.lanes.items in
    let workers = c.in_ok-workers.workers.items in
    let pass_of : Worker g.row.L.Denot → PassState = λ w. w.pass in
    let is : map pass_of workers ≡ passes = c.in_ok-workers.ensures.passes in
    λ k w low. (
      c.in_ok-workers.ensures.seats k w low,
      let d = pass_of w in
          let size = ap (λ (l : List PassState). length l) is in
          let long = length-map workers pass_of in
          let there : get_or passes k d ≡ pass_of (get_or workers k w) = ap (λ (l : List PassState). get_or l k d) (sym is) ∙ pass_at pass_of workers k w d low in
          subst (λ t. IsPassOf lanes k t) there (c.in_ok-lanes.ensures.passes k d (omega (arith, low, size, long))),
    )
