use Rattle.closed_trips.proofs.Common.{◌≡◌, ◌≤◌, Some, refl, sym, subst, length, map, slice_get, All, IsSend, Entry, state_of, Divide, IsOnOneSide, StaysOrIsNotOpen, take_all, length-map, arith}
use Rattle.closed_trips.specs.ClosedNames.{names_but}
use Rattle.closed_trips.proofs.ClosedLemmas.{all_up_to, call_at}
use Rattle.closed_trips.proofs.closed.are_messages_closed.Goals as goal

pub loop-i-preserved : goal.loop-i-preserved
loop-i-preserved c =
    let history = c.args.hub.now in
    let names = names_but c.args.names.now in
    let calls = map (λ (e : Entry). e.call) history in
    let i = c.loop-i.i in
    let entry = c.in-Some.entry.now in
    let there : slice_get calls i ≡ Some entry.call = call_at history i entry (sym c.in-Some.ensures) in
    record {
      divided = all_up_to (IsSend (IsOnOneSide names)) calls i entry.call there c.loop-i.invariant.divided (c.if-not-is_call_closed.ensures.side refl);
      not_open = all_up_to (IsSend (StaysOrIsNotOpen names (state_of history))) calls i entry.call there c.loop-i.invariant.not_open (c.if-not-is_call_closed.ensures.not_open refl);
    }

pub returns-clause-divided : goal.returns-clause-divided
returns-clause-divided c =
    let calls = map (λ (e : Entry). e.call) c.args.hub.now in
    let few : length calls ≤ c.loop-i.i = omega (arith, length-map c.args.hub.now (λ (e : Entry). e.call)) in
    λ t. subst (Divide (names_but c.args.names.now)) (take_all c.loop-i.i calls few) c.loop-i.invariant.divided

pub returns-clause-not_open : goal.returns-clause-not_open
returns-clause-not_open c =
    let calls = map (λ (e : Entry). e.call) c.args.hub.now in
    let few : length calls ≤ c.loop-i.i = omega (arith, length-map c.args.hub.now (λ (e : Entry). e.call)) in
    λ t. subst (All (IsSend (StaysOrIsNotOpen (names_but c.args.names.now) (state_of c.args.hub.now)))) (take_all c.loop-i.i calls few) c.loop-i.invariant.not_open
