-- What the worker saw of its hub for others.
use Rattle.std.specs.Prelude.{⊤}
use Rattle.hub_shared.specs.Looks.{AreCounts, AreRefusals, IsFleetLook, IsWagonLook}
use Rattle.journal_workers.specs.declared.looks.Question.{Question}
use Rattle.journal_workers.specs.declared.looks.Question.TheVariants as asked
use Rattle.journal_workers.specs.declared.looks.Seen.{Seen}
use Rattle.journal_workers.specs.declared.looks.Seen.TheVariants as seen
use Rattle.journal_workers.specs.declared.looks.Exchange.{Exchange}
use Rattle.journal_workers.specs.declared.looks.Exchange.TheVariants.{Answered}

-- this was seen for the question, after some history that one thread could have made
abbrev pub IsSeen : Question → Seen → Type 0
IsSeen asked.Counts (seen.Counts counts) = AreCounts counts
IsSeen (asked.Fleet by from most) (seen.Fleet shown) = IsFleetLook by from most shown.items
IsSeen (asked.Wagon by wagon) (seen.Wagon look) = IsWagonLook by wagon look
IsSeen (asked.Refusals alloc from most) (seen.Refusals whys) = AreRefusals from most whys.items
IsSeen question seen.NoMemory = ⊤
IsSeen question look = ⊥

-- an answer is to the question beside it
abbrev pub IsFitting : Exchange → Type 0
IsFitting (Answered question look) = IsSeen question look
IsFitting exchange = ⊤
