use Rattle.hub_threads.proofs.Common.{arith, ap, sym, subst, ◌∙◌, ◌≡◌, ℕ, ◌+◌, ◌%◌, ◌<◌, ◌≤◌, List, [], ◌∷◌, ◌++◌, length, take, drop, map, get_or, sum_by, All, length-map, Job, ALL_PARTS, PassState, new_pass, IsKeptBy, Served, LaneState, new_lane, thread_pass, EachAt, EachLane, EachPair, of_lane, HandsOut, TakesBack, TakesOnly, no_inbox, of_lane-alike, of_lane-fits, LaneIsKept, whole_slice}
use mathlib.Core.List.{map-map}
use Rattle.hub_threads.proofs.KeptLemmas.{EachAt-map, some_item, Came, all_came, came_own, came_parts, came_few, came_kept}
use Rattle.hub_threads.proofs.lanes.end_lanes.Goals as goal

abbrev pass_of : Served → PassState
pass_of s = s.pass

abbrev put_of : PassState → List Job
put_of t = t.put

-- the lanes at the end
came_of : (items ts tw first mid : List LaneState) (served : List Served) (owns : List PassState)
    → first ≡ items → mid ≡ ts → length ts ≡ length items → length owns ≡ length items
    → EachAt (λ k l. HandsOut (new_lane l.id l.capacity) l (1 + length (of_lane k (length items) 0 served))) items
    → EachAt (λ i (r : Served). (d : LaneState) → r.pass ≡ thread_pass (get_or items (i % length items) d).id r.pass.put []) served
    → EachAt (λ k (t : PassState). (d : LaneState) → TakesOnly (new_pass (get_or items k d).id 1) t) owns
    → EachLane (λ k a b. TakesBack a b (of_lane k (length first) 0 (map pass_of served))) first ts
    → ((k : ℕ) (d : LaneState) (e : PassState) → k < length mid → TakesBack (get_or mid k d) (get_or tw k d) (get_or owns k e ∷ []))
    → (k : ℕ) (d : LaneState) (e : PassState) → k < length items → Came k (length items) (map pass_of served) (get_or owns k e) (get_or items k d) (get_or tw k d)
came_of items ts tw first mid served owns start middle same many outs hands take sessions workers =
    all_came items ts tw (map pass_of served) owns same many
    (λ k d low.
    let alike = of_lane-alike k (length items) 0 served (map pass_of served) (sym (length-map served pass_of)) in
    subst (λ m. HandsOut (new_lane (get_or items k d).id (get_or items k d).capacity) (get_or items k d) (1 + m)) alike (outs k d low))
    (EachAt-map pass_of (λ i (t : PassState). (d : LaneState) → t ≡ thread_pass (get_or items (i % length items) d).id t.put []) served hands)
    take
    (subst (λ l. EachLane (λ k a b. TakesBack a b (of_lane k (length l) 0 (map pass_of served))) l ts) start sessions)
    (subst (λ l. (k : ℕ) (d : LaneState) (e : PassState) → k < length l → TakesBack (get_or l k d) (get_or tw k d) (get_or owns k e ∷ [])) middle workers)

-- nothing came back to a lane before
none_back : (items : List LaneState) (served : List Served)
    → EachAt (λ k l. HandsOut (new_lane l.id l.capacity) l (1 + length (of_lane k (length items) 0 served))) items
    → EachAt (λ k (l : LaneState). l.back ≡ []) items
none_back items served outs k d low = (outs k d low).back

-- and then at most as many as there are sessions
few_back : (first ts : List LaneState) (served : List Served) → EachAt (λ k (l : LaneState). l.back ≡ []) first → length ts ≡ length first
    → EachLane (λ k a b. TakesBack a b (of_lane k (length first) 0 (map pass_of served))) first ts
    → EachAt (λ k (l : LaneState). length l.back ≤ length served) ts
few_back first ts served none same each k d low =
    let inside : k < length first = omega (arith, low, same) in
    let took = (each k d inside).back ∙ ap (λ (l : List PassState). l ++ of_lane k (length first) 0 (map pass_of served)) (none k d inside) in
    let size = ap (λ (l : List PassState). length l) took in
    let fits = of_lane-fits k (length first) 0 (map pass_of served) in
    let long = length-map served pass_of in
    omega (arith, size, fits, long)

pub take_sessions-outcomes-requires : goal.take_sessions-outcomes-requires
take_sessions-outcomes-requires g c =
    let items = c.args.to_end.lanes.items in
    let first : c.as_mut_slice.result.now ≡ items = c.as_mut_slice.ensures.value in
    record {
      some = subst (λ (l : List LaneState). 1 ≤ length l) (sym first) c.requires.some;
      few = c.requires.few;
      none = subst (λ (l : List LaneState). EachAt (λ k (r : LaneState). r.back ≡ []) l) (sym first) (none_back items c.args.served.items c.requires.lanes);
      ends = c.requires.room.ends;
      tallies = c.requires.room.tallies;
    }

pub take_passes-requires : goal.take_passes-requires
take_passes-requires g c =
    let items = c.args.to_end.lanes.items in
    let ts = c.take_sessions-outcomes.new.lanes in
    let first : c.as_mut_slice.result.now ≡ items = c.as_mut_slice.ensures.value in
    let len_ts : length ts ≡ length items = c.take_sessions-outcomes.auto.lanes ∙ ap (λ (l : List LaneState). length l) first in
    let long : c.args.to_end.lanes.len ≡ length items = c.args.to_end.lanes.ok.0 in
    let back : take c.args.to_end.lanes.len (ts ++ drop (length ts) items) ≡ ts = whole_slice c.args.to_end.lanes.len ts items len_ts long in
    let mid : c.as_mut_slice-2.result.now ≡ ts = c.as_mut_slice-2.ensures.value ∙ back in
    let none = subst (λ (l : List LaneState). EachAt (λ k (r : LaneState). r.back ≡ []) l) (sym first) (none_back items c.args.served.items c.requires.lanes) in
    let few = few_back c.as_mut_slice.result.now ts c.args.served.items none c.take_sessions-outcomes.auto.lanes c.take_sessions-outcomes.ensures.lanes in
    let many = c.requires.passes.0 in
    let listed = c.args.passes.ok.0 in
    let counted = ap (λ (l : List LaneState). length l) mid in
    let served = c.args.served.ok.0 in
    let most = c.requires.few in
    record {
      count = omega (arith, listed, many, counted, len_ts);
      few = subst (λ (l : List LaneState). EachAt (λ k (r : LaneState). length r.back ≤ 64) l) (sym mid) (λ k d low. let at = few k d low in omega (arith, at, served, most));
    }

pub close_lanes-left-requires : goal.close_lanes-left-requires
close_lanes-left-requires g c =
    let items = c.args.to_end.lanes.items in
    let ts = c.take_sessions-outcomes.new.lanes in
    let tw = c.take_passes.new.lanes in
    let served = c.args.served.items in
    let owns = c.args.passes.items in
    let first : c.as_mut_slice.result.now ≡ items = c.as_mut_slice.ensures.value in
    let len_ts : length ts ≡ length items = c.take_sessions-outcomes.auto.lanes ∙ ap (λ (l : List LaneState). length l) first in
    let long : c.args.to_end.lanes.len ≡ length items = c.args.to_end.lanes.ok.0 in
    let back : take c.args.to_end.lanes.len (ts ++ drop (length ts) items) ≡ ts = whole_slice c.args.to_end.lanes.len ts items len_ts long in
    let mid : c.as_mut_slice-2.result.now ≡ ts = c.as_mut_slice-2.ensures.value ∙ back in
    let len_tw : length tw ≡ length ts = c.take_passes.auto.lanes ∙ ap (λ (l : List LaneState). length l) mid in
    let end : take c.args.to_end.lanes.len (tw ++ drop (length tw) (take c.args.to_end.lanes.len (ts ++ drop (length ts) items))) ≡ tw =
    ap (λ l. take c.args.to_end.lanes.len (tw ++ drop (length tw) l)) back ∙ whole_slice c.args.to_end.lanes.len tw ts len_tw (long ∙ sym len_ts) in
    let many : length owns ≡ length items = c.requires.passes.0 in
    let hands = c.requires.hands in
    let came = came_of items ts tw c.as_mut_slice.result.now c.as_mut_slice-2.result.now served owns first mid len_ts many c.requires.lanes hands c.requires.passes.1 c.take_sessions-outcomes.ensures.lanes c.take_passes.ensures in
    let Own : List LaneState → Type 0 = λ l. EachAt (λ k (r : LaneState). All (λ (p : PassState). p.inbox ≡ r.id) r.back) l in
    let Parts : List LaneState → Type 0 = λ l. EachAt (λ k (r : LaneState). sum_by (λ (p : PassState). p.parts) r.back + r.pass.parts ≡ ALL_PARTS) l in
    record {
      own = subst Own (sym end) (λ k d low.
          let inside : k < length items = omega (arith, low, len_tw, len_ts) in
          let e = some_item owns (omega (arith, inside, many)) in
          came_own k (length items) (map pass_of served) (get_or owns k e) (get_or items k d) (get_or tw k d) (came k d e inside));
      few = subst (λ (l : List LaneState). EachAt (λ k (r : LaneState). length r.back < 66) l) (sym end) (λ k d low.
          let inside : k < length items = omega (arith, low, len_tw, len_ts) in
          let e = some_item owns (omega (arith, inside, many)) in
          let back = came_few k (length items) (map pass_of served) (get_or owns k e) (get_or items k d) (get_or tw k d) (came k d e inside) in
          let size = length-map served pass_of in
          let counted = c.args.served.ok.0 in
          let most = c.requires.few in
          omega (arith, back, size, counted, most));
      left = c.requires.room.left;
      parts = subst Parts (sym end) (λ k d low.
          let inside : k < length items = omega (arith, low, len_tw, len_ts) in
          let e = some_item owns (omega (arith, inside, many)) in
          came_parts k (length items) (map pass_of served) (get_or owns k e) (get_or items k d) (get_or tw k d) (came k d e inside));
    }

pub returns : goal.returns
returns g c =
    let items = c.args.to_end.lanes.items in
    let ts = c.take_sessions-outcomes.new.lanes in
    let tw = c.take_passes.new.lanes in
    let served = c.args.served.items in
    let owns = c.args.passes.items in
    let first : c.as_mut_slice.result.now ≡ items = c.as_mut_slice.ensures.value in
    let len_ts : length ts ≡ length items = c.take_sessions-outcomes.auto.lanes ∙ ap (λ (l : List LaneState). length l) first in
    let long : c.args.to_end.lanes.len ≡ length items = c.args.to_end.lanes.ok.0 in
    let back : take c.args.to_end.lanes.len (ts ++ drop (length ts) items) ≡ ts = whole_slice c.args.to_end.lanes.len ts items len_ts long in
    let mid : c.as_mut_slice-2.result.now ≡ ts = c.as_mut_slice-2.ensures.value ∙ back in
    let len_tw : length tw ≡ length ts = c.take_passes.auto.lanes ∙ ap (λ (l : List LaneState). length l) mid in
    let end : take c.args.to_end.lanes.len (tw ++ drop (length tw) (take c.args.to_end.lanes.len (ts ++ drop (length ts) items))) ≡ tw =
    ap (λ l. take c.args.to_end.lanes.len (tw ++ drop (length tw) l)) back ∙ whole_slice c.args.to_end.lanes.len tw ts len_tw (long ∙ sym len_ts) in
    let many : length owns ≡ length items = c.requires.passes.0 in
    let hands = c.requires.hands in
    let came = came_of items ts tw c.as_mut_slice.result.now c.as_mut_slice-2.result.now served owns first mid len_ts many c.requires.lanes hands c.requires.passes.1 c.take_sessions-outcomes.ensures.lanes c.take_passes.ensures in
    let Closes : ℕ → LaneState → List Job → Type 0 = λ k l left. IsKeptBy (l.back ++ l.pass ∷ []) left in
    let left = c.close_lanes-left.result.items in
    let closed : EachPair Closes tw left = subst (λ l. EachPair Closes l left) end c.close_lanes-left.ensures in
    let taken_of : PassState → List Job = λ t. t.taken in
    let puts : map put_of (map pass_of served) ≡ map (λ (r : Served). r.pass.put) served = map-map put_of pass_of served in
    record {
      ends = c.take_sessions-outcomes.ensures.ends;
      tallies = c.take_sessions-outcomes.ensures.tallies;
      kept = record {
        taken_count = length-map owns taken_of ∙ many;
        left_count = closed.0 ∙ (len_tw ∙ len_ts);
        each = EachAt-map taken_of (λ k jobs. LaneIsKept k (length items) (map (λ (r : Served). r.pass.put) served) jobs (get_or left k [])) owns (λ k e low.
            let inside : k < length items = omega (arith, low, many) in
            let l = new_lane no_inbox 0 in
            let own = get_or owns k e in
            let all = came_kept k (length items) (map pass_of served) own (get_or items k l) (get_or tw k l) (get_or left k []) (came k l e inside) (closed.1 k l [] (omega (arith, inside, len_tw, len_ts))) in
            subst (λ p. LaneIsKept k (length items) p own.taken (get_or left k [])) puts all);
      };
    }
