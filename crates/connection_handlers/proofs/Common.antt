-- What the proofs of this crate have in common: the names of other crates, of the standard library and of its own definitions.
pub use Rattle.std.specs.List.{All, flat_map}
pub use Rattle.std.proofs.Common.{◌≡◌, ℕ, Option, List, [], ◌∷◌, ◌++◌, sym, ap, ◌∙◌, subst, append_assoc, append-nil}
pub use Rattle.std.proofs.lemmas.Grind.{flat_map-append}
pub use Rattle.std.proofs.lemmas.List.Elements.{All-nil, All-push, All-append, All-head, All-tail}
pub use Rattle.inbox.specs.States.{PassState}
pub use Rattle.inbox.specs.declared.rule.Job.{Job}
pub use Rattle.tallies.specs.declared.tally.Told.{Told}
pub use Rattle.session_lanes.specs.Ends.{streams_of, IsServedNext}
pub use Rattle.session_lanes.specs.declared.ends.Served.{Served}
pub use Rattle.session_lanes.specs.declared.ends.SessionStart.{SessionStart}
pub use Rattle.connection_handlers.specs.Handlers.{ServedSession, IsSessionOf, told_of, put_of, IsHandler}
