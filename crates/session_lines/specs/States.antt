-- What contracts see of a session.
use Rattle.std.specs.Prelude.{ℕ, ◌+◌, Bool, false, List, [], ◌∷◌, Option, None}
use Rattle.taf_codes.specs.declared.code.Railway.{Railway}
use Rattle.tallies.specs.declared.tally.Told.{Told}
use Rattle.session_lines.specs.declared.session.Slot.{Slot}
use Rattle.session_lines.specs.declared.session.Slot.TheVariants.{JobOut, HeldLine}

-- its id; the railway of its hello, if it had one; how many jobs it gave out; its slots, the oldest first; whether it has
-- failed; the entries of its tally
pub record State : Type 0 where
  pub id : ℕ
  pub railway : Option Railway
  pub job_count : ℕ
  pub slots : List Slot
  pub has_failed : Bool
  pub tally : List Told

-- a session that has read no line
abbrev pub new_state : ℕ → State
new_state id = record {
  id = id;
  railway = None;
  job_count = 0;
  slots = [];
  has_failed = false;
  tally = [];
}

-- a session that has read no line, and whose tally has these entries already
abbrev pub state_with_tally : ℕ → List Told → State
state_with_tally id told = record (new_state id) { tally = told }

-- how many jobs are out
abbrev pub jobs_out : List Slot → ℕ
jobs_out [] = 0
jobs_out (JobOut call ∷ slots) = jobs_out slots + 1
jobs_out (HeldLine line ∷ slots) = jobs_out slots
