-- Bytes without a newline, read together.
use Rattle.std.proofs.Common.{◌≡◌, ◌≢◌, ℕ, zero, suc, ◌+◌, ◌-◌, ◌≤◌, ◌<◌, ◌==◌, Bool, true, false, List, [], ◌∷◌, ◌++◌, length, get_or, take, drop, refl, sym, ◌∙◌, ap, subst, arith}
use Rattle.std.proofs.lemmas.Bool.{eq-eqb, eqb-true}
use Rattle.std.proofs.lemmas.List.{get_or-drop, get_or-take, length-take-le, take_rest, length-drop}
use Rattle.journal.specs.Lines.{is_nil, read_on, is_torn, HasNoNewline, IsNextNewline, HasWholeBatches, StandsFor}
use Rattle.journal.proofs.Reading.{ReadingState, with_byte}
use Rattle.journal.proofs.LineLemmas.{grown_some}
use Rattle.journal.proofs.ReadLemmas.{IsReadTo, read_start, read_step, read_found, after_byte, after_end, after_line}
use Rattle.journal.proofs.EndLemmas.{IsLastEnd, last_start, last_step, not_left}

-- ---- searches

-- no byte of the rest is a newline, and so none of the bytes from the index on
pub searched_none : (bytes rest : List ℕ) (from : ℕ) → from ≤ length bytes → rest ≡ take (length bytes - from) (drop from bytes) → ((k : ℕ) → 0 ≤ k → k < length rest → (get_or rest k 0 == 10) ≡ true → ⊥) → HasNoNewline bytes from (length bytes)
searched_none bytes rest from le e none k low high is =
    let same : rest ≡ drop from bytes = e ∙ take_rest bytes from in
    let long : length rest ≡ length bytes - from = ap length same ∙ length-drop from bytes in
    let there : from + (k - from) ≡ k = omega arith in
    let byte : get_or rest (k - from) 0 ≡ 10 = ap (λ l. get_or l (k - from) 0) same ∙ get_or-drop from bytes (k - from) 0 ∙ ap (λ n. get_or bytes n 0) there ∙ is in
    none (k - from) (omega arith) (omega (arith, long)) (eq-eqb (get_or rest (k - from) 0) 10 byte)

pub searched_some : (bytes rest : List ℕ) (from at : ℕ) → from ≤ length bytes → rest ≡ take (length bytes - from) (drop from bytes) → at < length rest → (get_or rest at 0 == 10) ≡ true → ((k : ℕ) → 0 ≤ k → k < at → (get_or rest k 0 == 10) ≡ true → ⊥) → IsNextNewline bytes from (from + at)
searched_some bytes rest from at le e lt here before =
    let same : rest ≡ drop from bytes = e ∙ take_rest bytes from in
    let long : length rest ≡ length bytes - from = ap length same ∙ length-drop from bytes in
    record {
      order = omega arith;
      within = omega (arith, long, lt);
      newline = sym (get_or-drop from bytes at 0) ∙ ap (λ l. get_or l at 0) (sym same) ∙ eqb-true (get_or rest at 0) 10 here;
      before = λ k low high is.
          let there : from + (k - from) ≡ k = omega arith in
          let byte : get_or rest (k - from) 0 ≡ 10 = ap (λ l. get_or l (k - from) 0) same ∙ get_or-drop from bytes (k - from) 0 ∙ ap (λ n. get_or bytes n 0) there ∙ is in
          before (k - from) (omega arith) (omega (arith, high)) (eq-eqb (get_or rest (k - from) 0) 10 byte);
    }

-- ---- what was read up to an index, and where the last batch ends

pub record IsAt (bytes : List ℕ) (i : ℕ) (s : ReadingState) : Type 0 where
  pub read : IsReadTo bytes i s
  pub last : IsLastEnd bytes i s

pub at_start : (bytes : List ℕ) → IsAt bytes 0 (record { lines = []; batch = []; line = []; whole = 0 })
at_start bytes = record { read = read_start bytes; last = last_start bytes }

step : (bytes : List ℕ) (i : ℕ) (s : ReadingState) → i < length bytes → get_or bytes i 0 ≢ 0 → IsAt bytes i s → IsAt bytes (i + 1) (with_byte s (get_or bytes i 0) (i + 1))
step bytes i s within some here = record { read = read_step bytes i s within some here.read; last = last_step bytes i s within some here.read here.last }

-- no byte is 0 from the index up to the end
abbrev pub HasNoHole : List ℕ → ℕ → ℕ → Type 0
HasNoHole bytes from end = (k : ℕ) → from ≤ k → k < end → get_or bytes k 0 ≢ 0

-- so many bytes more, of which none is a newline: the line that has begun grows by them
record IsRunOn (bytes : List ℕ) (i n : ℕ) (s : ReadingState) : Type 0 where
  line : List ℕ
  reached : IsAt bytes (i + n) (record { lines = s.lines; batch = s.batch; line = line; whole = s.whole })
  begun : is_nil s.line ≡ false → is_nil line ≡ false
  some : 0 < n → is_nil line ≡ false
  none : n ≡ 0 → line ≡ s.line

run_on : (n : ℕ) (bytes : List ℕ) (i : ℕ) (s : ReadingState) → i + n ≤ length bytes → HasNoHole bytes i (i + n) → HasNoNewline bytes i (i + n) → IsAt bytes i s → IsRunOn bytes i n s
run_on zero bytes i s within whole inner here =
    let same : i ≡ i + 0 = omega arith in
    record {
      line = s.line;
      reached = subst (λ k. IsAt bytes k s) same here;
      begun = λ e. e;
      some = λ lt. absurd (omega (arith, lt));
      none = λ e. refl;
    }
run_on (suc n) bytes i s within whole inner here =
    let b : ℕ = get_or bytes i 0 in
    let grown : ReadingState = record { lines = s.lines; batch = s.batch; line = s.line ++ b ∷ []; whole = s.whole } in
    let next : IsAt bytes (i + 1) grown =
    subst (IsAt bytes (i + 1)) (after_byte s b (i + 1) (inner i (omega arith) (omega arith))) (step bytes i s (omega arith) (whole i (omega arith) (omega arith)) here) in
    let rest = run_on n bytes (i + 1) grown (omega arith) (λ k low high. whole k (omega arith) (omega arith)) (λ k low high. inner k (omega arith) (omega arith)) next in
    let far : i + 1 + n ≡ i + suc n = omega arith in
    record {
      line = rest.line;
      reached = subst (λ k. IsAt bytes k (record { lines = s.lines; batch = s.batch; line = rest.line; whole = s.whole })) far rest.reached;
      begun = λ e. rest.begun (grown_some s.line b);
      some = λ lt. rest.begun (grown_some s.line b);
      none = λ e. absurd (omega (arith, e));
    }

-- ---- where a line begins

-- all lines up to the index are read, and the whole batches among them end at `whole`
pub record IsAtLine (bytes : List ℕ) (i whole : ℕ) : Type 0 where
  pub state : ReadingState
  pub here : IsAt bytes i state
  pub fresh : state.line ≡ []
  pub ends : state.whole ≡ whole

pub line_start : (bytes : List ℕ) → IsAtLine bytes 0 0
line_start bytes = record { state = _; here = at_start bytes; fresh = refl; ends = refl }

run_to : (bytes : List ℕ) (i end whole : ℕ) → i ≤ end → end ≤ length bytes → HasNoHole bytes i end → HasNoNewline bytes i end → (a : IsAtLine bytes i whole) → IsRunOn bytes i (end - i) a.state
run_to bytes i end whole order within holes inner a =
    run_on (end - i) bytes i a.state (omega arith) (λ k low high. holes k low (omega arith)) (λ k low high. inner k low (omega arith)) a.here

-- the first byte of a line is a newline: a batch ends
pub batch_ends : (bytes : List ℕ) (i whole : ℕ) → i < length bytes → get_or bytes i 0 ≡ 10 → IsAtLine bytes i whole → IsAtLine bytes (i + 1) (i + 1)
batch_ends bytes i whole within newline a =
    let s = a.state in
    let some : get_or bytes i 0 ≢ 0 = λ e. absurd (omega (arith, newline, e)) in
    let none : is_nil s.line ≡ true = ap is_nil a.fresh in
    record {
      state = record { lines = s.lines ++ s.batch; batch = []; line = []; whole = i + 1 };
      here = subst (IsAt bytes (i + 1)) (after_end s (get_or bytes i 0) (i + 1) newline none) (step bytes i s within some a.here);
      fresh = refl;
      ends = refl;
    }

-- a line ends that is not empty
pub line_ends : (bytes : List ℕ) (i end whole : ℕ) → i < end → end < length bytes → HasNoHole bytes i (end + 1) → HasNoNewline bytes i end → get_or bytes end 0 ≡ 10 → IsAtLine bytes i whole → IsAtLine bytes (end + 1) whole
line_ends bytes i end whole some within holes inner newline a =
    let run = run_to bytes i end whole (omega arith) (omega arith) (λ k low high. holes k low (omega arith)) inner a in
    let there : i + (end - i) ≡ end = omega arith in
    let s : ReadingState = record { lines = a.state.lines; batch = a.state.batch; line = run.line; whole = a.state.whole } in
    let here : IsAt bytes end s = subst (λ k. IsAt bytes k s) there run.reached in
    let line : is_nil run.line ≡ false = run.some (omega arith) in
    record {
      state = record { lines = s.lines; batch = s.batch ++ s.line ∷ []; line = []; whole = s.whole };
      here = subst (IsAt bytes (end + 1)) (after_line s (get_or bytes end 0) (end + 1) newline line) (step bytes end s within (holes end (omega arith) (omega arith)) here);
      fresh = refl;
      ends = a.ends;
    }

-- ---- the end

-- what is left up to the first byte 0 has no newline: the whole batches are found
module _ (bytes : List ℕ) (i end whole : ℕ) (order : i ≤ end) (within : end ≤ length bytes) (holes : HasNoHole bytes i end) (inner : HasNoNewline bytes i end) (a : IsAtLine bytes i whole) (torn : Bool) (rest : torn ≡ is_torn true (drop whole bytes)) where
  run : IsRunOn bytes i (end - i) a.state
  run = run_to bytes i end whole order within holes inner a

  abbrev last_state : ReadingState
  last_state = record { lines = a.state.lines; batch = a.state.batch; line = run.line; whole = a.state.whole }

  at_end : IsAt bytes end last_state
  at_end = let there : i + (end - i) ≡ end = omega arith in subst (λ k. IsAt bytes k last_state) there run.reached

  torn_is : torn ≡ is_torn true (drop a.state.whole bytes)
  torn_is = rest ∙ ap (λ n. is_torn true (drop n bytes)) (sym a.ends)

  pub all_found : ((line : List ℕ) (batch : List (List ℕ)) → read_on line batch (drop end bytes) ≡ []) → HasWholeBatches bytes a.state.lines whole torn
  all_found nothing = subst (λ n. HasWholeBatches bytes a.state.lines n torn) a.ends (read_found bytes end last_state torn within at_end.read nothing torn_is)

  pub never_left : (end < length bytes → get_or bytes end 0 ≡ 0) → torn ≡ false → (lines : List (List ℕ)) → StandsFor bytes lines → ⊥
  never_left hole not_torn lines stands = not_left bytes end last_state torn within at_end.read at_end.last hole torn_is not_torn lines stands

-- ---- the bytes before the first 0

counted_byte : (bytes counted : List ℕ) (end k : ℕ) → counted ≡ take end bytes → k < end → get_or counted k 0 ≡ get_or bytes k 0
counted_byte bytes counted end k e lt = ap (λ l. get_or l k 0) e ∙ get_or-take end bytes k 0 lt

pub counted_newline : (bytes counted : List ℕ) (end from newline : ℕ) → end ≤ length bytes → counted ≡ take end bytes → IsNextNewline counted from newline → IsNextNewline bytes from newline × (newline < end)
counted_newline bytes counted end from newline le e n =
    let long : length counted ≡ end = ap length e ∙ length-take-le end bytes le in
    let lt : newline < end = omega (arith, n.within, long) in (
      record {
        order = n.order;
        within = omega (arith, lt, le);
        newline = sym (counted_byte bytes counted end newline e lt) ∙ n.newline;
        before = λ k low high is. n.before k low high (counted_byte bytes counted end k e (omega (arith, high, lt)) ∙ is);
      },
      lt,
    )

pub counted_inner : (bytes counted : List ℕ) (end from : ℕ) → end ≤ length bytes → counted ≡ take end bytes → HasNoNewline counted from (length counted) → HasNoNewline bytes from end
counted_inner bytes counted end from le e inner k low high is =
    let long : length counted ≡ end = ap length e ∙ length-take-le end bytes le in
    inner k low (omega (arith, high, long)) (counted_byte bytes counted end k e high ∙ is)
