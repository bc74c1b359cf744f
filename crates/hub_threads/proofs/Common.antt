-- What the proofs of this crate have in common: the names of other crates, of the standard library and of its own definitions.
pub use Rattle.std.specs.List.{All}
pub use Rattle.std.specs.declared.thread.PromisedHandle.{PromisedHandle}
pub use Rattle.std.proofs.Common.{◌≡◌, ◌≢◌, ℕ, suc, zero, ◌+◌, ◌%◌, ◌<◌, ◌≤◌, eqb, eq-eqb, ne_eqb, cond, List, [], ◌∷◌, ◌++◌, length, map, get_or, take, drop, sum_by, refl, sym, ap, ◌∙◌, subst, arith, append_assoc, false, Bool, true, rules, tests, vec_len, vec_capacity, length-append}
pub use Rattle.std.proofs.lemmas.Iterator.Adapters.{YieldsList-from_vec}
pub use Rattle.std.proofs.lemmas.Iterator.Consumers.{YieldsList-turn, YieldsList-end}
pub use Rattle.std.proofs.lemmas.List.{map-append, length-map, map-id}
pub use Rattle.std.proofs.lemmas.List.Elements.{All-nil, All-cons, All-head, All-tail, All-push, All-weaker}
pub use Rattle.std.proofs.lemmas.List.Sums.{sum_by-append, sum_by-cons}
pub use Rattle.inbox.specs.Interleavings.{IsKept}
pub use Rattle.inbox.specs.Rules.{ALL_PARTS}
pub use Rattle.inbox.specs.Sessions.{of_session}
pub use Rattle.inbox.specs.States.{PassState, IsKeptBy, new_pass}
pub use Rattle.inbox.specs.declared.rule.Job.{Job}
pub use Rattle.inbox.proofs.LaneLemmas.{lane}
pub use Rattle.session_lanes.specs.Lanes.{LaneState, new_lane, thread_pass, EachAt, of_lane, HandsOut, TakesBack, TakesOnly, EachLane, EachPair, no_inbox, IsPassOf}
pub use Rattle.session_lanes.specs.Room.{IsEmptyWithRoom}
pub use Rattle.session_lanes.specs.Work.{IsWorkOf}
pub use Rattle.session_lanes.specs.declared.ends.Served.{Served}
pub use Rattle.session_lanes.specs.declared.ends.SessionStart.{SessionStart}
pub use Rattle.session_lanes.proofs.FallLemmas.{of_lane-map, of_lane-fits, EachPair-push, of_lane-alike}
pub use Rattle.session_lanes.proofs.PlaceLemmas.{whole_slice}
pub use Rattle.hub_threads.specs.Kept.{LaneIsKept, AreKept}
pub use Rattle.hub_threads.specs.Served.{IsServiceOf}
pub use Rattle.hub_threads.specs.Starts.{CanBegin}
pub use Rattle.hub_threads.specs.declared.promises.ServedBy.{ServedBy}
pub use Rattle.hub_threads.specs.declared.promises.WorkedBy.{WorkedBy}
