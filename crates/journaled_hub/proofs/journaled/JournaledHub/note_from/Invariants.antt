use Rattle.std.proofs.Common.{◌≡◌, take}
use Rattle.journaled_hub.specs.JournaledHubs.{history_of, journal_of, HasNoted}
use Rattle.journaled_hub.proofs.journaled.JournaledHub.note_from.Given as goal

-- the entries so far are noted, and nothing else has changed
abbrev pub invariant-loop-at : goal.invariant-loop-at
invariant-loop-at g l =
    HasNoted l.self (take l.at (history_of l.self))
    × (history_of l.self ≡ history_of l.fn.self)
    × (journal_of l.self ≡ journal_of l.fn.self)
