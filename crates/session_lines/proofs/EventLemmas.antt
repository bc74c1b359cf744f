-- What the calls of a session leave as it was.
use Rattle.session_lines.proofs.Common.{◌≡◌, inl, inr, ℕ, ◌+◌, ◌<◌, ◌≤◌, Bool, true, false, cond, List, [], ◌∷◌, ◌++◌, None, length, refl, ap, sym, ◌∙◌, subst, arith, false≢true, Job, Meaning, Blank, Hello, Wrong, Calls, Step, Nothing, Say, Held, Ask, Ended, Done, Slot, JobOut, HeldLine, State, hello_text, meaning, meaning_without_memory, step_at, sound_step, after_sound, TakesAs, TakesLine, is_own, is_job_in_front, with_answer, after_done, after_stranger, front_line, slots_with, step_with}

-- ---- what a line leaves as it was

front_line-saying : (slots : List Slot) (line : List ℕ) → front_line slots ≡ None → front_line (slots_with slots line) ≡ None
front_line-saying [] line front = refl
front_line-saying (JobOut call ∷ slots) line front = refl
front_line-saying (HeldLine held ∷ slots) line front = front

front_line-job : (slots : List Slot) (job : Slot) → front_line (job ∷ []) ≡ None → front_line slots ≡ None → front_line (slots ++ job ∷ []) ≡ None
front_line-job [] job last front = last
front_line-job (JobOut call ∷ slots) job last front = refl
front_line-job (HeldLine held ∷ slots) job last front = front

-- the id, at most one job more, no held line in front where none was, and the jobs' session
pub record IsOneLine (s : State) (step : Step) (n : State) : Type 0 where
  pub named : n.id ≡ s.id
  pub more : n.job_count ≤ s.job_count + 1
  pub front : front_line s.slots ≡ None → front_line n.slots ≡ None
  pub jobs : (asked : Job) → step ≡ Ask asked → asked.session ≡ s.id

abbrev session_of : Step → ℕ → ℕ
session_of Nothing id = id
session_of (Say line) id = id
session_of Held id = id
session_of (Ask asked) id = asked.session
session_of Ended id = id

session_of-saying : (slots : List Slot) (line : List ℕ) (id : ℕ) → session_of (step_with slots line) id ≡ id
session_of-saying [] line id = refl
session_of-saying (slot ∷ slots) line id = refl

session_of-sound : (s : State) (m : Meaning) → session_of (sound_step s m) s.id ≡ s.id
session_of-sound s Blank = refl
session_of-sound s (Hello railway) = session_of-saying s.slots (hello_text railway) s.id
session_of-sound s (Wrong fault) = session_of-saying s.slots fault s.id
session_of-sound s (Calls call) = refl

pub sound-named : (s : State) (m : Meaning) → (after_sound s m).id ≡ s.id
sound-named s Blank = refl
sound-named s (Hello railway) = refl
sound-named s (Wrong fault) = refl
sound-named s (Calls call) = refl

sound-more : (s : State) (m : Meaning) → (after_sound s m).job_count ≤ s.job_count + 1
sound-more s Blank = omega arith
sound-more s (Hello railway) = omega arith
sound-more s (Wrong fault) = omega arith
sound-more s (Calls call) = omega arith

sound-front : (s : State) (m : Meaning) → front_line s.slots ≡ None → front_line (after_sound s m).slots ≡ None
sound-front s Blank front = front
sound-front s (Hello railway) front = front_line-saying s.slots (hello_text railway) front
sound-front s (Wrong fault) front = front_line-saying s.slots fault front
sound-front s (Calls call) front = front_line-job s.slots (JobOut call) refl front

IsOneLine-sound : (s : State) (m : Meaning) → IsOneLine s (sound_step s m) (after_sound s m)
IsOneLine-sound s m = record {
  named = sound-named s m;
  more = sound-more s m;
  front = sound-front s m;
  jobs = λ asked e. sym (ap (λ t. session_of t s.id) e) ∙ session_of-sound s m;
}

IsOneLine-ended : (s : State) → IsOneLine s Ended s
IsOneLine-ended s = record {
  named = refl;
  more = omega arith;
  front = λ f. f;
  jobs = λ asked e. sym (ap (λ t. session_of t s.id) e);
}

IsOneLine-at : (s : State) (m : Meaning) (failed : Bool) → IsOneLine s (cond failed Ended (sound_step s m)) (cond failed s (after_sound s m))
IsOneLine-at s m true = IsOneLine-ended s
IsOneLine-at s m false = IsOneLine-sound s m

IsOneLine-meaning : (s n : State) (m : Meaning) (step : Step) → TakesAs s m step n → IsOneLine s step n
IsOneLine-meaning s n m step t = subst (λ st. IsOneLine s st n) (sym t.0) (subst (λ k. IsOneLine s (step_at s m) k) (sym t.1) (IsOneLine-at s m s.has_failed))

pub IsOneLine-line : (s n : State) (line : List ℕ) (step : Step) → TakesLine s line step n → IsOneLine s step n
IsOneLine-line s n line step (inl t) = IsOneLine-meaning s n (meaning s.railway line) step t
IsOneLine-line s n line step (inr t) = IsOneLine-meaning s n (meaning_without_memory line) step t

-- ---- what a Done leaves as it was

with_answer-fewer : (s : State) (slots : List Slot) (d : Done) → s.slots ≡ slots → is_job_in_front slots ≡ true → length (with_answer s slots d.answer).slots < length s.slots
with_answer-fewer s [] d e front = absurd (false≢true front)
with_answer-fewer s (HeldLine line ∷ slots) d e front = absurd (false≢true front)
with_answer-fewer s (JobOut call ∷ slots) d e front = omega (arith, ap length e)

none-fewer : (slots : List Slot) → is_job_in_front slots ≡ true → 0 < length slots
none-fewer [] front = absurd (false≢true front)
none-fewer (slot ∷ slots) front = omega arith

done-fewer : (s : State) (d : Done) (own : Bool) → is_job_in_front s.slots ≡ true → length (cond own (with_answer s s.slots d.answer) (after_stranger s)).slots < length s.slots
done-fewer s d true front = with_answer-fewer s s.slots d refl front
done-fewer s d false front = none-fewer s.slots front

pub after_done-fewer : (s : State) (d : Done) → is_job_in_front s.slots ≡ true → length (after_done s d).slots < length s.slots
after_done-fewer s d front = done-fewer s d (is_own s d) front

with_answer-kept : (s : State) (slots : List Slot) (d : Done) → ((with_answer s slots d.answer).id ≡ s.id) × ((with_answer s slots d.answer).job_count ≡ s.job_count)
with_answer-kept s [] d = (refl, refl)
with_answer-kept s (JobOut call ∷ slots) d = (refl, refl)
with_answer-kept s (HeldLine line ∷ slots) d = (refl, refl)

done-kept : (s : State) (d : Done) (own : Bool) → ((cond own (with_answer s s.slots d.answer) (after_stranger s)).id ≡ s.id) × ((cond own (with_answer s s.slots d.answer) (after_stranger s)).job_count ≡ s.job_count)
done-kept s d true = with_answer-kept s s.slots d
done-kept s d false = (refl, refl)

pub after_done-kept : (s : State) (d : Done) → ((after_done s d).id ≡ s.id) × ((after_done s d).job_count ≡ s.job_count)
after_done-kept s d = done-kept s d (is_own s d)
