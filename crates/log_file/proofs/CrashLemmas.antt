-- How a run of calls goes on.
use Rattle.std.proofs.Common.{◌≡◌, ◌⊎◌, inl, inr, ⊎_elim, ℕ, ◌+◌, List, Vec, arith, refl, sym, subst}
use Rattle.std.specs.declared.alloc.Global.{Global}
use Rattle.log_file.specs.declared.past.Past.{Past}
use Rattle.log_file.specs.declared.past.Past.TheBlock.{Opened, Appended', Cut', Synced', Broken'}
use Rattle.log_file.specs.Crashes.{content_of, MayLeave, IsPartlyAppended, IsPartlyCut, moment, MayLeaveSince, LeavesOnly}
use Rattle.log_file.specs.Files.{after_append, after_cut, after_sync, after_failure}

-- since this moment there is no other
pub only_now : (past : Past) (c : List ℕ) → MayLeaveSince past (moment past) c → MayLeave past c
only_now (Opened content) c left = left
only_now (Appended' marker before bytes) c (inl now) = now
only_now (Appended' marker before bytes) c (inr past) = absurd (omega (arith, past.0))
only_now (Cut' marker before len) c (inl now) = now
only_now (Cut' marker before len) c (inr past) = absurd (omega (arith, past.0))
only_now (Synced' marker before) c (inl now) = now
only_now (Synced' marker before) c (inr past) = absurd (omega (arith, past.0))
only_now (Broken' marker before) c (inl now) = now
only_now (Broken' marker before) c (inr past) = absurd (omega (arith, past.0))

-- before the first call
pub start_leaves : (past : Past) (P : List ℕ → Type 0) → ((c : List ℕ) → MayLeave past c → P c) → LeavesOnly past past P
start_leaves past P here = record { later = omega arith; each = λ c left. here c (only_now past c left); before = λ since c le left. inl left }

-- one call more
call_leaves : (old mid new : Past) (P : List ℕ → Type 0) → moment new ≡ moment mid + 1 → LeavesOnly old mid P → ((since : ℕ) (c : List ℕ) → MayLeaveSince new since c → P c ⊎ MayLeaveSince mid since c) → LeavesOnly old new P
call_leaves old mid new P next so_far now = record {
  later = omega (arith, so_far.later);
  each = λ c left. ⊎_elim (λ p. p) (so_far.each c) (now (moment old) c left);
  before = λ since c le left. ⊎_elim (λ p. inr p) (so_far.before since c le) (now since c left);
}

pub append_leaves : (old mid : Past) (bytes : Vec ℕ Global) (P : List ℕ → Type 0) → LeavesOnly old mid P → ((c : List ℕ) → IsPartlyAppended bytes.items (content_of mid) c → P c) → LeavesOnly old (after_append mid bytes) P
append_leaves old mid bytes P so_far here = call_leaves old mid (after_append mid bytes) P refl so_far (λ since c left. ⊎_elim (λ now. inl (here c now)) (λ past. inr past.1) left)

pub cut_leaves : (old mid : Past) (len : ℕ) (P : List ℕ → Type 0) → LeavesOnly old mid P → ((c : List ℕ) → IsPartlyCut len (content_of mid) c → P c) → LeavesOnly old (after_cut mid len) P
cut_leaves old mid len P so_far here = call_leaves old mid (after_cut mid len) P refl so_far (λ since c left. ⊎_elim (λ now. inl (here c now)) (λ past. inr past.1) left)

pub sync_leaves : (old mid : Past) (P : List ℕ → Type 0) → LeavesOnly old mid P → P (content_of mid) → LeavesOnly old (after_sync mid) P
sync_leaves old mid P so_far here = call_leaves old mid (after_sync mid) P refl so_far (λ since c left. ⊎_elim (λ now. inl (subst P (sym now) here)) (λ past. inr past.1) left)

pub failure_leaves : (old mid : Past) (P : List ℕ → Type 0) → LeavesOnly old mid P → ((c : List ℕ) → MayLeave mid c → P c) → LeavesOnly old (after_failure mid) P
failure_leaves old mid P so_far here = call_leaves old mid (after_failure mid) P refl so_far (λ since c left. ⊎_elim (λ now. inl (here c now)) (λ past. inr past.1) left)

-- what a crash leaves has Q where it has P
pub leaves_weaker : (old new : Past) (P Q : List ℕ → Type 0) → ((c : List ℕ) → P c → Q c) → LeavesOnly old new P → LeavesOnly old new Q
leaves_weaker old new P Q weaker h = record {
  later = h.later;
  each = λ c may. weaker c (h.each c may);
  before = λ since c le may. ⊎_elim (λ earlier. inl earlier) (λ now. inr (weaker c now)) (h.before since c le may);
}

-- two runs of calls, one after another
pub leaves_on : (old mid new : Past) (P Q R : List ℕ → Type 0) → ((c : List ℕ) → P c → R c) → ((c : List ℕ) → Q c → R c) → LeavesOnly old mid P → LeavesOnly mid new Q → LeavesOnly old new R
leaves_on old mid new P Q R from_p from_q first second = record {
  later = omega (arith, first.later, second.later);
  each = λ c may. ⊎_elim (λ earlier. from_p c (first.each c earlier)) (λ now. from_q c now) (second.before (moment old) c first.later may);
  before = λ since c le may.
      ⊎_elim
      (λ earlier. ⊎_elim (λ e. inl e) (λ p. inr (from_p c p)) (first.before since c le earlier))
      (λ now. inr (from_q c now))
      (second.before since c (let later = first.later in omega (arith, le, later)) may);
}
