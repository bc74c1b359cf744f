-- How many jobs are out in a list of slots.
use Rattle.session_lines.proofs.Common.{◌≡◌, ℕ, ◌+◌, ◌≤◌, List, [], ◌∷◌, ◌++◌, length, refl, ap, arith, Call, Slot, JobOut, HeldLine, jobs_out, slots_after_front}

-- a line that is held is no job
pub jobs_out-held : (slots : List Slot) (line : List ℕ) → jobs_out (slots ++ HeldLine line ∷ []) ≡ jobs_out slots
jobs_out-held [] line = refl
jobs_out-held (JobOut call ∷ slots) line = ap (λ n. n + 1) (jobs_out-held slots line)
jobs_out-held (HeldLine held ∷ slots) line = jobs_out-held slots line

-- one job more
pub jobs_out-job : (slots : List Slot) (call : Call) → jobs_out (slots ++ JobOut call ∷ []) ≡ jobs_out slots + 1
jobs_out-job [] call = refl
jobs_out-job (JobOut first ∷ slots) call = ap (λ n. n + 1) (jobs_out-job slots call)
jobs_out-job (HeldLine held ∷ slots) call = jobs_out-job slots call

pub jobs_out-within : (slots : List Slot) → jobs_out slots ≤ length slots
jobs_out-within [] = omega arith
jobs_out-within (JobOut call ∷ slots) = omega (arith, jobs_out-within slots)
jobs_out-within (HeldLine line ∷ slots) = omega (arith, jobs_out-within slots)

pub jobs_out-front : (slots : List Slot) → jobs_out (slots_after_front slots) ≡ jobs_out slots
jobs_out-front [] = refl
jobs_out-front (JobOut call ∷ slots) = refl
jobs_out-front (HeldLine line ∷ slots) = refl
