-- What is on the disk.
use Rattle.std.proofs.Common.{◌≡◌, ◌++◌, append-nil, ap, sym, ◌∙◌}
use Rattle.journaled_hub.specs.declared.journaled.JournaledHub.{JournaledHub}
use Rattle.journaled_hub.specs.HistoryLines.{lines_of_history}
use Rattle.journaled_hub.specs.JournaledHubs.{history_of, durable_lines, IsOnDisk}

-- it is the lines of the history
pub all_durable : {F : Type 0} (hub : JournaledHub F) → IsOnDisk hub → durable_lines hub ≡ lines_of_history (history_of hub)
all_durable hub d = sym (append-nil (durable_lines hub)) ∙ ap (λ l. durable_lines hub ++ l) (sym d.none) ∙ d.journaled.lines d.sound
