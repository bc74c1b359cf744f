-- For how many clients an answer waits, place by place.
use Rattle.std.proofs.Common.{◌≡◌, ℕ, ◌+◌, ◌<◌, ◌≤◌, ◌⊎◌, inl, inr, Bool, true, false, List, [], ◌∷◌, ◌++◌, length, take, get_or, set, rules, Option, Some, None, if◌then◌else◌, sym, ◌∙◌, ap, arith, IfNone, IfSome}
use Rattle.std.proofs.lemmas.List.Sums.{sum_by_more, sum_by_push, sum_by-set}
use Rattle.std.proofs.lemmas.List.{set_past, get_or_past}
use Rattle.std.proofs.lemmas.Bool.{cases_lt}
use Rattle.board_connections.specs.declared.client.Client.{Client}
use Rattle.board_connections.specs.Waiting.{has_answer, waiting_count}

-- one where an answer waits
abbrev pub waits : Option Client → ℕ
waits place = if has_answer place then 1 else 0

-- one place more
pub waiting_count-more : (places : List (Option Client)) (i n r : ℕ) (place : Option Client) → i < length places → place ≡ get_or places i place
    → n ≡ waiting_count (take i places) → r ≡ waits place → n + r ≡ waiting_count (take (i + 1) places)
waiting_count-more places i n r place within is before here =
    let step = sum_by_more waits places i place within in
    let same = ap waits is in
    omega (arith, step, same, before, here)

-- a free place behind the others
pub waiting_count-push_none : (places : List (Option Client)) → waiting_count (places ++ None ∷ []) ≡ waiting_count places
waiting_count-push_none places =
    let step = sum_by_push waits places None in
    omega (arith, step)

-- who is taken out of a place waits no more
taken_out : (places : List (Option Client)) (i : ℕ) → waiting_count (set places i None) + waits (get_or places i None) ≡ waiting_count places
taken_out places i = elim (cases_lt i (length places)) [
  | inl within ↦
      let step = sum_by-set waits places i None None within in
      omega (arith, step)
  | inr beyond ↦
      let same = ap waiting_count (set_past places i None beyond) in
      let none = ap waits (get_or_past places i None beyond) in
      omega (arith, same, none)
]

pub taken_none : (old new : List (Option Client)) (i : ℕ) (taken : Option Client) → taken ≡ get_or old i None → new ≡ set old i None
    → IfNone taken (waiting_count new ≤ waiting_count old)
taken_none old new i None is after = omega (arith, taken_out old i, ap waiting_count after)
taken_none old new i (Some client) is after = search rules

pub taken_some : (old new : List (Option Client)) (i : ℕ) (taken : Option Client) → taken ≡ get_or old i None → new ≡ set old i None
    → IfSome taken (λ client. waiting_count new + (if client.has_answer then 1 else 0) ≡ waiting_count old)
taken_some old new i None is after = search rules
taken_some old new i (Some client) is after = omega (arith, taken_out old i, ap waiting_count after, ap waits is)

-- who is put into a place may wait, and who had it does not wait any more
pub put_in : (old new : List (Option Client)) (i : ℕ) (client : Client) → new ≡ set old i (Some client)
    → waiting_count new ≤ waiting_count old + (if client.has_answer then 1 else 0)
put_in old new i client after = elim (cases_lt i (length old)) [
  | inl within ↦
      let step = sum_by-set waits old i (Some client) None within in
      omega (arith, step, ap waiting_count after)
  | inr beyond ↦
      let same = ap waiting_count (set_past old i (Some client) beyond) in
      omega (arith, same, ap waiting_count after)
]

-- the same where one waits: it had, or fewer than the limit waited for others
still : (before taken after limit count : ℕ) (had may : Bool) {went : Bool}
    → before ≤ limit → taken + (if had then 1 else 0) ≡ before → count ≡ taken → (may ≡ true → count < limit)
    → after ≤ taken + 1 → (went ≡ true) ⊎ (may ≡ true) → went ≡ had → after ≤ limit
still before taken after limit count had may few took counted room put (inl waited) same =
    let one : ◌≡◌ {A = ℕ} (if had then 1 else 0) 1 = ap (λ (b : Bool). if b then 1 else 0) (sym same ∙ waited) in
    omega (arith, one, took, few, put)
still before taken after limit count had may few took counted room put (inr allowed) same =
    let fewer : count < limit = room allowed in
    omega (arith, fewer, counted, put)

-- Of no more clients than the limit an answer waits after one went on: for it one waits only if one had, or if fewer than the limit
-- were waiting for others.
pub few_wait_kept : (before taken after limit count : ℕ) (had went noted kept may : Bool)
    → before ≤ limit → taken + (if had then 1 else 0) ≡ before → count ≡ taken → went ≡ had
    → (noted ≡ true → (went ≡ true) ⊎ (may ≡ true)) → (may ≡ true → count < limit) → kept ≡ noted
    → after ≤ taken + (if kept then 1 else 0) → after ≤ limit
few_wait_kept before taken after limit count had went noted false may few took counted same note room is put = omega (arith, few, took, put)
few_wait_kept before taken after limit count had went noted true may few took counted same note room is put =
    still before taken after limit count had may few took counted room put (note (sym is)) same
