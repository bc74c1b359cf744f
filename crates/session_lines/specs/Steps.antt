-- What a session does with a line, with a Done, and with a line that it held.
use Rattle.std.specs.Prelude.{◌≡◌, ◌⊎◌, ℕ, ◌+◌, ◌==◌, ◌&&◌, Bool, true, false, if◌then◌else◌, List, [], ◌∷◌, ◌++◌, Option, Some, None, Ok, Err, Result}
use Rattle.taf_codes.specs.declared.code.Railway.{Railway}
use Rattle.taf_messages.specs.declared.call.Call.{Call}
use Rattle.taf_messages.specs.declared.reply.Reply.{Reply}
use Rattle.tallies.specs.declared.fault.HubFault.{HubFault}
use Rattle.tallies.specs.declared.tally.Told.{Told}
use Rattle.inbox.specs.declared.rule.Job.{Job}
use Rattle.session_lines.specs.declared.fault.LineFault.TheVariants.{NoMemory, Stranger}
use Rattle.session_lines.specs.declared.meaning.Meaning.{Meaning}
use Rattle.session_lines.specs.declared.meaning.Meaning.TheVariants.{Blank, Hello, Wrong, Calls}
use Rattle.session_lines.specs.declared.session.Step.{Step}
use Rattle.session_lines.specs.declared.session.Step.TheVariants.{Nothing, Say, Held, Ask, Ended}
use Rattle.session_lines.specs.declared.session.Done.{Done}
use Rattle.session_lines.specs.declared.session.Slot.{Slot}
use Rattle.session_lines.specs.declared.session.Slot.TheVariants.{JobOut, HeldLine}
use Rattle.session_lines.specs.States.{State, jobs_out}
use Rattle.session_lines.specs.Meanings.{meaning, meaning_without_memory}
use Rattle.session_lines.specs.Texts.{answer_text, answer_text_without_memory, line_fault_text, hello_text}

-- ---- lines

-- a job of a session
abbrev pub job : ℕ → ℕ → Call → Job
job id index call = record { session = id; index = index; call = call }

-- with no slot taken a line is said at once
abbrev pub step_with : List Slot → List ℕ → Step
step_with [] line = Say line
step_with (slot ∷ slots) line = Held

-- else it takes a slot
abbrev pub slots_with : List Slot → List ℕ → List Slot
slots_with [] line = []
slots_with (slot ∷ slots) line = slot ∷ slots ++ HeldLine line ∷ []

-- what a session does that says a line, and what it is then
abbrev pub saying_step : State → List ℕ → Step
saying_step s line = step_with s.slots line

abbrev pub after_saying : State → List ℕ → State
after_saying s line = record s { slots = slots_with s.slots line }

-- the session has had its hello
abbrev pub with_railway : State → Railway → State
with_railway s railway = record s { railway = Some railway }

-- a job more is out
abbrev pub with_job : State → Call → State
with_job s call = record s {
  job_count = s.job_count + 1;
  slots = s.slots ++ JobOut call ∷ [];
}

-- what a session does that has not failed
abbrev pub sound_step : State → Meaning → Step
sound_step s Blank = Nothing
sound_step s (Hello railway) = saying_step s (hello_text railway)
sound_step s (Wrong fault) = saying_step s fault
sound_step s (Calls call) = Ask (job s.id s.job_count call)

abbrev pub after_sound : State → Meaning → State
after_sound s Blank = s
after_sound s (Hello railway) = after_saying (with_railway s railway) (hello_text railway)
after_sound s (Wrong fault) = after_saying s fault
after_sound s (Calls call) = with_job s call

-- a session that has not failed takes the line as one that means this
abbrev pub SoundTakesAs : State → Meaning → Step → State → Type 0
SoundTakesAs old m step new = (step ≡ sound_step old m) × (new ≡ after_sound old m)

-- it takes the line so, or says that memory is refused
abbrev pub SoundTakes : State → Meaning → Step → State → Type 0
SoundTakes old m step new =
    SoundTakesAs old m step new ⊎ SoundTakesAs old (Wrong (line_fault_text NoMemory)) step new

-- a session that has failed does nothing more
abbrev pub step_at : State → Meaning → Step
step_at s m = if s.has_failed then Ended else sound_step s m

abbrev pub after_line : State → Meaning → State
after_line s m = if s.has_failed then s else after_sound s m

-- a session takes the line as one that means this
abbrev pub TakesAs : State → Meaning → Step → State → Type 0
TakesAs old m step new = (step ≡ step_at old m) × (new ≡ after_line old m)

-- it takes the line as what it means, or as what it means where memory is refused
abbrev pub TakesLine : State → List ℕ → Step → State → Type 0
TakesLine old line step new =
    TakesAs old (meaning old.railway line) step new
    ⊎ TakesAs old (meaning_without_memory line) step new

-- ---- Dones

-- the slot in front is a job that is out
abbrev pub is_job_in_front : List Slot → Bool
is_job_in_front [] = false
is_job_in_front (JobOut call ∷ slots) = true
is_job_in_front (HeldLine line ∷ slots) = false

-- a Done is the session's own if it is that of its oldest job that is out
abbrev pub is_own : State → Done → Bool
is_own s d = (d.session == s.id) && (d.index + jobs_out s.slots == s.job_count)

-- the line that it leads to, and the one where the memory of that line is refused
abbrev pub done_line : State → Done → List ℕ
done_line s d = if is_own s d then answer_text d.answer else line_fault_text Stranger

abbrev pub done_line_without_memory : State → Done → List ℕ
done_line_without_memory s d =
    if is_own s d then answer_text_without_memory d.answer else line_fault_text Stranger

-- a Done leads to this line
abbrev pub IsDoneLine : State → Done → List ℕ → Type 0
IsDoneLine s d line = (line ≡ done_line s d) ⊎ (line ≡ done_line_without_memory s d)

-- a tally with the entry of an answer: a fault has none
abbrev pub with_entry : List Told → Call → Result (ℕ × Reply) HubFault → List Told
with_entry tally call (Ok answer) =
    tally ++ record { position = answer.0; call = call; reply = answer.1 } ∷ []
with_entry tally call (Err fault) = tally

-- the job in front has its answer
abbrev pub with_answer : State → List Slot → Result (ℕ × Reply) HubFault → State
with_answer s [] answer = s
with_answer s (JobOut call ∷ slots) answer = record s {
  slots = slots;
  tally = with_entry s.tally call answer;
}
with_answer s (HeldLine line ∷ slots) answer = s

-- after a stranger nothing is out and nothing is held
abbrev pub after_stranger : State → State
after_stranger s = record s { slots = []; has_failed = true }

abbrev pub after_done : State → Done → State
after_done s d = if is_own s d then with_answer s s.slots d.answer else after_stranger s

-- ---- lines that were held

-- the line in front, where that is one that is held
abbrev pub front_line : List Slot → Option (List ℕ)
front_line [] = None
front_line (JobOut call ∷ slots) = None
front_line (HeldLine line ∷ slots) = Some line

-- its slot is free once it is said
abbrev pub slots_after_front : List Slot → List Slot
slots_after_front [] = []
slots_after_front (JobOut call ∷ slots) = JobOut call ∷ slots
slots_after_front (HeldLine line ∷ slots) = slots

abbrev pub after_front : State → State
after_front s = record s { slots = slots_after_front s.slots }
