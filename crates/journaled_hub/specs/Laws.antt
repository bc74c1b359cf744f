-- What a hub that is opened after a crash has in common with the one that was there before.
use Rattle.std.specs.Prelude.{◌≡◌, ℕ, List, ◌∷◌, ◌++◌, All}
use Rattle.journal.specs.Lines.{recovered_lines, StandsFor}
use Rattle.taf_messages.specs.declared.call.Call.TheVariants.{Send}
use Rattle.taf_messages.specs.declared.message.Message.{Message}
use Rattle.taf_messages.specs.declared.reply.Reply.{Reply}
use Rattle.hub_model.specs.declared.entry.Entry.{Entry}
use Rattle.hub_model.specs.Histories.{IsLegal, answer}
use Rattle.reply_writer.specs.Laws.{IsCall}
use Rattle.journaled_hub.specs.HistoryLines.{calls_of, lines_of_history}

-- A hub wrote the lines of its history, a crash left these bytes of the file, and a hub was opened from them. The parts of the calls of
-- both keep their limits.
pub record IsOpenedFrom (bytes : List ℕ) (written opened : List Entry) : Type 0 where
  pub left : StandsFor bytes (lines_of_history written)
  pub lines : lines_of_history opened ≡ recovered_lines bytes
  pub legal_written : IsLegal written
  pub legal_opened : IsLegal opened
  pub limits_written : All IsCall (calls_of written)
  pub limits_opened : All IsCall (calls_of opened)

-- then it has the history that was written: the same calls, with the same replies
abbrev pub HistoriesComeBack : Type 0
HistoriesComeBack = (bytes : List ℕ) (written opened : List Entry) → IsOpenedFrom bytes written opened → opened ≡ written

-- an entry in which the message got the reply
abbrev pub sent : Message → Reply → Entry
sent m reply = record { call = Send m; reply = reply }

-- a message that got a reply gets it again, whatever came since
abbrev pub RepliesStay : Type 0
RepliesStay = (front rest : List Entry) (m : Message) (reply : Reply) → IsLegal (front ++ sent m reply ∷ rest) →
    answer (front ++ sent m reply ∷ rest) (Send m) ≡ reply

-- so a message that got a reply before the crash, and is sent again, gets the same one from the hub that was opened
abbrev pub RepliesOutliveACrash : Type 0
RepliesOutliveACrash = (bytes : List ℕ) (front rest opened : List Entry) (m : Message) (reply : Reply) →
    IsOpenedFrom bytes (front ++ sent m reply ∷ rest) opened → answer opened (Send m) ≡ reply
