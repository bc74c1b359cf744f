-- What a session means: its lines in lock step, where each job is answered before the next line.
use Rattle.std.specs.Prelude.{ℕ, List, [], ◌∷◌, ◌++◌, Result, Option, Some, None, length, fold}
use Rattle.taf_codes.specs.declared.code.Railway.{Railway}
use Rattle.taf_messages.specs.declared.reply.Reply.{Reply}
use Rattle.tallies.specs.declared.fault.HubFault.{HubFault}
use Rattle.tallies.specs.declared.tally.Told.{Told}
use Rattle.inbox.specs.declared.rule.Job.{Job}
use Rattle.session_lines.specs.declared.meaning.Meaning.{Meaning}
use Rattle.session_lines.specs.declared.meaning.Meaning.TheVariants.{Blank, Hello, Wrong, Calls}
use Rattle.session_lines.specs.Texts.{hello_text, answer_text}
use Rattle.session_lines.specs.Meanings.{meaning}
use Rattle.session_lines.specs.Steps.{job, with_entry}

-- the railway of its hello, if it had one; the jobs that it gave out; the lines that it said; the entries of its tally
pub record Transcript : Type 0 where
  pub railway : Option Railway
  pub jobs : List Job
  pub output : List (List ℕ)
  pub tally : List Told

-- the answer of each job, by the job's index
abbrev pub Answers : Type 0
Answers = ℕ → Result (ℕ × Reply) HubFault

-- one line more: a job that it leads to is answered at once
abbrev pub transcript_after : ℕ → Answers → Transcript → Meaning → Transcript
transcript_after id answers t Blank = t
transcript_after id answers t (Hello railway) = record t {
  railway = Some railway;
  output = t.output ++ hello_text railway ∷ [];
}
transcript_after id answers t (Wrong fault) = record t { output = t.output ++ fault ∷ [] }
transcript_after id answers t (Calls call) = record {
  railway = t.railway;
  jobs = t.jobs ++ job id (length t.jobs) call ∷ [];
  output = t.output ++ answer_text (answers (length t.jobs)) ∷ [];
  tally = with_entry t.tally call (answers (length t.jobs));
}

-- no line was read
abbrev pub new_transcript : Transcript
new_transcript = record { railway = None; jobs = []; output = []; tally = [] }

-- all lines, from the first on
abbrev pub lock_step : ℕ → Answers → List (List ℕ) → Transcript
lock_step id answers lines =
    fold (λ t line. transcript_after id answers t (meaning t.railway line)) new_transcript lines
