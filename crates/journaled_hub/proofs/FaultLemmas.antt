-- A fault of one line is a fault of the lines.
use Rattle.std.proofs.Common.{◌≡◌, ℕ, ◌+◌, ◌<◌, List, ◌∷◌, ◌++◌, take, length, length-append, Some, refl, sym, ap, subst, ◌∙◌, arith}
use Rattle.std.specs.Prelude.{slice_get}
use Rattle.std.proofs.lemmas.List.{take_at, get_or_at}
use Rattle.std.proofs.lemmas.Option.{slice_get-get_or}
use Rattle.hub_model.specs.declared.entry.Entry.{Entry}
use Rattle.journal.specs.Lines.{recovered_lines}
use Rattle.journal.specs.Journals.{IsDamage}
use Rattle.journal.specs.declared.reader.JournalFault.{JournalFault}
use Rattle.journal.specs.declared.reader.JournalFault.TheVariants as journals
use Rattle.journal_lines.specs.CallLines.{last_sum}
use Rattle.journal_lines.specs.LineFaults.{HasOtherSum, IsLineFault}
use Rattle.journal_lines.specs.declared.fault.LineFault.{LineFault}
use Rattle.journal_lines.specs.declared.fault.LineFault.TheVariants as line_faults
use Rattle.journaled_hub.specs.HistoryLines.{calls_of, lines_of_history}
use Rattle.journaled_hub.specs.OpenFaults.{fault_of_journal, fault_of_line, IsLineNumber, IsFaultOfLine, IsFaultOfLines, IsOpenFault}
use Rattle.journaled_hub.specs.declared.fault.OpenFault.{OpenFault}
use Rattle.journaled_hub.specs.declared.fault.OpenFault.TheVariants.{Memory, Failed, Damaged, NoCall, OtherSum, Full}
use Rattle.journaled_hub.proofs.LineLemmas.{length-lines_of_history}

slice_get_at : (front : List (List ℕ)) (line : List ℕ) (rest : List (List ℕ)) (n : ℕ) → length front ≡ n → slice_get (front ++ line ∷ rest) n ≡ Some line
slice_get_at front line rest n e =
    slice_get-get_or (front ++ line ∷ rest) n line (omega (arith, e, length-append front (line ∷ rest)))
    ∙ ap Some (get_or_at front line rest line n e)

-- the line behind those of a history
module _ (history : List Entry) (sum : ℕ) (line : List ℕ) (rest lines : List (List ℕ)) (split : lines ≡ lines_of_history history ++ line ∷ rest) (last : sum ≡ last_sum (calls_of history)) where
  at_index : slice_get lines (length history) ≡ Some line
  at_index =
      ap (λ l. slice_get l (length history)) split
      ∙ slice_get_at (lines_of_history history) line rest (length history) (length-lines_of_history history)

  before : lines_of_history history ≡ take (length history) lines
  before = sym (ap (take (length history)) split ∙ take_at (lines_of_history history) (line ∷ rest) (length history) (length-lines_of_history history))

  numbered : (at : ℕ) → at ≡ length history + 1 → IsLineNumber lines at line (calls_of history)
  numbered at h = record { index = length history; number_is = h; line_is = at_index; before_are = before }

  long : length history < length lines
  long = omega (arith, ap length split, length-append (lines_of_history history) (line ∷ rest), length-lines_of_history history)

  pub fault_of_lines : (fault : OpenFault) → IsFaultOfLine fault history sum line (length history + 1) → IsFaultOfLines fault lines
  fault_of_lines Memory h = tt
  fault_of_lines Failed h = absurd h
  fault_of_lines (Damaged whole) h = absurd h
  fault_of_lines (NoCall at) h = (line, (calls_of history, (numbered at h.0, h.1)))
  fault_of_lines (OtherSum at) h = (line, (calls_of history, (numbered at h.0, subst (λ s. HasOtherSum s line) last h.1)))
  fault_of_lines Full h = omega (arith, h, long)

-- ---- faults of a line

pub line_not_taken : (fault : LineFault) (history : List Entry) (sum : ℕ) (line : List ℕ) (number : ℕ) → IsLineFault fault sum line → IsFaultOfLine (fault_of_line fault number) history sum line number
line_not_taken line_faults.Memory history sum line number h = tt
line_not_taken line_faults.NoCall history sum line number h = (refl, h)
line_not_taken line_faults.OtherSum history sum line number h = (refl, h)

-- ---- faults of a file

pub fault_of_file : (fault : OpenFault) (bytes : List ℕ) → IsFaultOfLines fault (recovered_lines bytes) → IsOpenFault fault bytes
fault_of_file Memory bytes h = h
fault_of_file Failed bytes h = absurd h
fault_of_file (Damaged whole) bytes h = absurd h
fault_of_file (NoCall at) bytes h = h
fault_of_file (OtherSum at) bytes h = h
fault_of_file Full bytes h = h

pub journal_not_opened : (fault : JournalFault) (bytes : List ℕ) → IsDamage fault bytes → IsOpenFault (fault_of_journal fault) bytes
journal_not_opened journals.Memory bytes h = tt
journal_not_opened journals.Failed bytes h = tt
journal_not_opened (journals.Damaged whole) bytes h = h
