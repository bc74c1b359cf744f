-- What the proofs of this crate have in common: the names of other crates, of the standard library and of its own definitions.
pub use Rattle.std.specs.List.{All}
pub use Rattle.std.proofs.Common.{◌≡◌, ℕ, ◌+◌, ◌<◌, List, [], ◌∷◌, ◌++◌, map, length, get_or, take, drop, sum_by, Option, Some, None, MatchOption, refl, sym, ap, ◌∙◌, subst, arith, ◌≢◌, eqb, eq-eqb, ne_eqb, cond, Bool, true, false, filter, zero, suc, ◌≤◌, set, append-nil, zero-add, lt_of_not-le, ◌⊎◌, ⊎_elim, inl, inr, ◌-◌, length-append, length-set, append_assoc, rules}
pub use Rattle.std.proofs.lemmas.Iterator.Adapters.{YieldsList-from_vec}
pub use Rattle.std.proofs.lemmas.Iterator.Consumers.{YieldsList-end}
pub use Rattle.std.proofs.lemmas.List.{map-id, length-map, map-append, get_or-set_same, get_or-set_other, get_or_append_left, get_or-append_right}
pub use Rattle.std.proofs.lemmas.List.Elements.{filter-append, All-head, All-tail}
pub use Rattle.std.proofs.lemmas.List.Sums.{sum_by-cons}
pub use Rattle.crossbeam_queue.specs.Fifo.{Pops, Merges, Learns, Held, Pushes, Forks}
pub use Rattle.crossbeam_queue.specs.Passes.{view, IsPassOf}
pub use Rattle.atomic_table.specs.Seated.{TableId}
pub use Rattle.crossbeam_queue.proofs.Lists.{at_set}
pub use Rattle.inbox.specs.Interleavings.{IsKept, items_of_label, Interleaves}
pub use Rattle.inbox.specs.Rules.{ALL_PARTS, pass_jobs, pass_view, KeepsRule, put_lists, taken_lists, own_put, own_taken, IsOnePass, jobs_left, KnowsContent, times, total, AllBelow, jobs_of_label, ShowsRow, IsShared, IsClosed, CanHold, add_put, add_taken}
pub use Rattle.inbox.specs.Sessions.{of_session, LaneInOrder}
pub use Rattle.inbox.specs.States.{PassState, state_of, jobs_of}
pub use Rattle.inbox.specs.declared.rule.Job.{Job}
pub use Rattle.inbox.specs.declared.rule.PassJobs.{PassJobs}
pub use Rattle.inbox.specs.declared.rule.PassView.{PassView}
