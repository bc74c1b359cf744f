-- Where the whole batches end: no other index could be that of a torn end.
use Rattle.std.proofs.Common.{◌≡◌, ◌≢◌, ◌⊎◌, inl, inr, ℕ, suc, ◌+◌, ◌-◌, ◌≤◌, ◌<◌, ◌==◌, ◌&&◌, Bool, true, false, List, [], ◌∷◌, ◌++◌, length, get_or, take, drop, refl, sym, ◌∙◌, ap, subst, arith, append_assoc}
use Rattle.std.proofs.lemmas.Bool.{cases_eq, cases_lt, false≢true}
use Rattle.std.proofs.lemmas.Bool.Decides.{nat_tests}
use Rattle.std.proofs.lemmas.List.{append-nil, length-drop, append_cancel_left, drop_all}
use Rattle.std.proofs.Math.Seq.{take-add}
use Rattle.journal.specs.Lines.{is_nil, read_on, recovered_lines, AreWhole, is_torn, StandsFor}
use Rattle.journal.proofs.Reading.{ReadingState, with_byte}
use Rattle.journal.proofs.LineLemmas.{nil_is, grown_some, read_none, read_hole, read_end, read_newline, torn_more, torn_newline, torn_end, torn_none}
use Rattle.journal.proofs.ReadLemmas.{IsReadTo, read_step, drop_one_more, after_byte, after_end, after_line, nil_cases}

-- what may be torn may be so from its second byte on
torn_next : (empty : Bool) (b : ℕ) (rest : List ℕ) → is_torn empty (b ∷ rest) ≡ true → is_torn (b == 10) rest ≡ true
torn_next true b rest torn = elim (cases_eq b 10) [
  | inl newline ↦
      let is : (b == 10) ≡ true = grind (arith, nat_tests) in
      let last : rest ≡ [] = nil_is rest (sym (torn_end b rest newline) ∙ torn) in
      ap (λ e. is_torn e rest) is ∙ ap (is_torn true) last ∙ torn_none true
  | inr inner ↦
      let is : (b == 10) ≡ false = grind (arith, nat_tests) in
      ap (λ e. is_torn e rest) is ∙ sym (torn_more true b rest inner) ∙ torn
]
torn_next false b rest torn = elim (cases_eq b 10) [
  | inl newline ↦
      let is : (b == 10) ≡ true = grind (arith, nat_tests) in
      ap (λ e. is_torn e rest) is ∙ sym (torn_newline b rest newline) ∙ torn
  | inr inner ↦
      let is : (b == 10) ≡ false = grind (arith, nat_tests) in
      ap (λ e. is_torn e rest) is ∙ sym (torn_more false b rest inner) ∙ torn
]

torn_next_at : (bytes : List ℕ) (i : ℕ) (empty : Bool) → i < length bytes → is_torn empty (drop i bytes) ≡ true → is_torn (get_or bytes i 0 == 10) (drop (i + 1) bytes) ≡ true
torn_next_at bytes i empty within torn = torn_next empty (get_or bytes i 0) (drop (i + 1) bytes) (sym (ap (is_torn empty) (drop_one_more bytes i within)) ∙ torn)

-- an empty line ends what is torn
last_end : (bytes : List ℕ) (i : ℕ) → i < length bytes → get_or bytes i 0 ≡ 10 → is_torn true (drop i bytes) ≡ true → i + 1 ≡ length bytes
last_end bytes i within newline torn =
    let last : is_nil (drop (i + 1) bytes) ≡ true = sym (ap (is_torn true) (drop_one_more bytes i within) ∙ torn_end (get_or bytes i 0) (drop (i + 1) bytes) newline) ∙ torn in
    let none : length (drop (i + 1) bytes) ≡ 0 = ap length (nil_is (drop (i + 1) bytes) last) in
    omega (arith, sym (length-drop (i + 1) bytes) ∙ none)

nil_true : {A : Type 0} (xs : List A) → xs ≡ [] → is_nil xs ≡ true
nil_true [] e = refl
nil_true (x ∷ xs) e = cc

never_nil : {A : Type 0} (xs : List A) (x : A) → xs ++ x ∷ [] ≡ [] → ⊥
never_nil [] x e = cc
never_nil (y ∷ xs) x e = cc

-- where what follows is read as from the start, no line and no batch has begun
pub not_begun : (line : List ℕ) (batch : List (List ℕ)) → ((more : List ℕ) → read_on line batch more ≡ recovered_lines more) → (is_nil line && is_nil batch) ≡ true
not_begun [] batch same =
    let end : read_on [] batch (10 ∷ []) ≡ batch = read_end batch [] ∙ ap (λ l. batch ++ l) (read_none [] []) ∙ append-nil batch in
    nil_true batch (sym end ∙ same (10 ∷ []) ∙ read_end [] [] ∙ read_none [] [])
not_begun (x ∷ line) batch same =
    let more = batch ++ (x ∷ line) ∷ [] in
    let end : read_on (x ∷ line) batch (10 ∷ 10 ∷ []) ≡ more = read_newline (x ∷ line) batch (10 ∷ []) refl ∙ read_end more [] ∙ ap (λ l. more ++ l) (read_none [] []) ∙ append-nil more in
    absurd (never_nil batch (x ∷ line) (sym end ∙ same (10 ∷ 10 ∷ []) ∙ read_end [] (10 ∷ []) ∙ read_end [] [] ∙ read_none [] []))

-- ---- the last end of a batch up to an index

pub record IsLastEnd (bytes : List ℕ) (i : ℕ) (s : ReadingState) : Type 0 where
  pub torn : (w : ℕ) → w < i → is_torn true (drop w bytes) ≡ true → is_torn (is_nil s.line) (drop i bytes) ≡ true
  pub ends : (w : ℕ) → w < s.whole → is_torn true (drop w bytes) ≡ true → s.whole ≡ length bytes
  pub inner : (w : ℕ) (lines : List (List ℕ)) → s.whole < w → w ≤ i → AreWhole (take w bytes) lines → ⊥

pub last_start : (bytes : List ℕ) → IsLastEnd bytes 0 (record { lines = []; batch = []; line = []; whole = 0 })
last_start bytes = record {
  torn = λ w below t. absurd (omega (arith, below));
  ends = λ w below t. absurd (omega (arith, below));
  inner = λ w lines above below are. absurd (omega (arith, above, below));
}

torn_here : (bytes : List ℕ) (i : ℕ) (s : ReadingState) → i < length bytes → IsLastEnd bytes i s → (w : ℕ) → w < i + 1 → is_torn true (drop w bytes) ≡ true → (is_torn (is_nil s.line) (drop i bytes) ≡ true) ⊎ (is_torn true (drop i bytes) ≡ true)
torn_here bytes i s within last w below t = elim (cases_lt w i) [
  | inl less ↦ inl (last.torn w less t)
  | inr more ↦
      let same : w ≡ i = omega (arith, below, more) in
      inr (subst (λ k. is_torn true (drop k bytes) ≡ true) same t)
]

torn_on : (bytes : List ℕ) (i : ℕ) (s : ReadingState) → i < length bytes → IsLastEnd bytes i s → (w : ℕ) → w < i + 1 → is_torn true (drop w bytes) ≡ true → is_torn (get_or bytes i 0 == 10) (drop (i + 1) bytes) ≡ true
torn_on bytes i s within last w below t = elim (torn_here bytes i s within last w below t) [
  | inl open_line ↦ torn_next_at bytes i (is_nil s.line) within open_line
  | inr here ↦ torn_next_at bytes i true within here
]

-- no whole batches end where a line or a batch has begun
not_inner : (bytes : List ℕ) (i : ℕ) (s : ReadingState) → IsReadTo bytes i s → (is_nil s.line && is_nil s.batch) ≡ false → (lines : List (List ℕ)) → AreWhole (take i bytes) lines → ⊥
not_inner bytes i s read begun lines are =
    let both : (more : List ℕ) → s.lines ++ read_on s.line s.batch more ≡ lines ++ recovered_lines more = λ more. sym (read.so_far more) ∙ are.stand_for more in
    let same : s.lines ≡ lines = sym (append-nil s.lines) ∙ ap (λ l. s.lines ++ l) (sym (read_none s.line s.batch)) ∙ both [] ∙ ap (λ l. lines ++ l) (read_none [] []) ∙ append-nil lines in
    let rest : (more : List ℕ) → read_on s.line s.batch more ≡ recovered_lines more = λ more. append_cancel_left s.lines (read_on s.line s.batch more) (recovered_lines more) (both more ∙ ap (λ l. l ++ recovered_lines more) (sym same)) in
    false≢true (sym begun ∙ not_begun s.line s.batch rest)

-- a step by which no batch ends
last_same : (bytes : List ℕ) (i : ℕ) (s : ReadingState) (line : List ℕ) (batch : List (List ℕ)) → i < length bytes → IsLastEnd bytes i s
    → IsReadTo bytes (i + 1) (record { lines = s.lines; batch = batch; line = line; whole = s.whole })
    → (get_or bytes i 0 == 10) ≡ is_nil line → (is_nil line && is_nil batch) ≡ false
    → IsLastEnd bytes (i + 1) (record { lines = s.lines; batch = batch; line = line; whole = s.whole })
last_same bytes i s line batch within last read newline begun = record {
  torn = λ w below t. ap (λ e. is_torn e (drop (i + 1) bytes)) (sym newline) ∙ torn_on bytes i s within last w below t;
  ends = last.ends;
  inner = λ w lines above below are. elim (cases_lt i w) [
    | inl here ↦
        let same : w ≡ i + 1 = omega (arith, below, here) in
        not_inner bytes (i + 1) (record { lines = s.lines; batch = batch; line = line; whole = s.whole }) read begun lines (subst (λ k. AreWhole (take k bytes) lines) same are)
    | inr before ↦ last.inner w lines above before are
  ];
}

-- the step by which a batch ends
last_more : (bytes : List ℕ) (i : ℕ) (s : ReadingState) → i < length bytes → IsLastEnd bytes i s → get_or bytes i 0 ≡ 10 → is_nil s.line ≡ true
    → IsLastEnd bytes (i + 1) (record { lines = s.lines ++ s.batch; batch = []; line = []; whole = i + 1 })
last_more bytes i s within last newline none = record {
  torn = λ w below t.
      let is : (get_or bytes i 0 == 10) ≡ true = grind (arith, nat_tests) in
      ap (λ e. is_torn e (drop (i + 1) bytes)) (sym is) ∙ torn_on bytes i s within last w below t;
  ends = λ w below t. last_end bytes i within newline (elim (torn_here bytes i s within last w below t) [
    | inl open_line ↦ ap (λ e. is_torn e (drop i bytes)) (sym none) ∙ open_line
    | inr here ↦ here
  ]);
  inner = λ w lines above below are. absurd (omega (arith, above, below));
}

nil_front : (line : List ℕ) (batch : List (List ℕ)) → is_nil line ≡ false → (is_nil line && is_nil batch) ≡ false
nil_front line batch some = ap (λ x. x && is_nil batch) some

some_batch : (batch : List (List ℕ)) (line : List ℕ) → is_nil (batch ++ line ∷ []) ≡ false
some_batch [] line = refl
some_batch (b ∷ batch) line = refl

pub last_step : (bytes : List ℕ) (i : ℕ) (s : ReadingState) → i < length bytes → get_or bytes i 0 ≢ 0 → IsReadTo bytes i s → IsLastEnd bytes i s → IsLastEnd bytes (i + 1) (with_byte s (get_or bytes i 0) (i + 1))
last_step bytes i s within some read last =
    let b = get_or bytes i 0 in
    let read_more = read_step bytes i s within some read in
    elim (cases_eq b 10) [
      | inr inner ↦
          let is : (b == 10) ≡ false = grind (arith, nat_tests) in
          let next = after_byte s b (i + 1) inner in
          subst (IsLastEnd bytes (i + 1)) (sym next) (last_same bytes i s (s.line ++ b ∷ []) s.batch within last (subst (IsReadTo bytes (i + 1)) next read_more) (is ∙ sym (grown_some s.line b)) (nil_front (s.line ++ b ∷ []) s.batch (grown_some s.line b)))
      | inl newline ↦
          let is : (b == 10) ≡ true = grind (arith, nat_tests) in
          elim (nil_cases s.line) [
            | inl none ↦ subst (IsLastEnd bytes (i + 1)) (sym (after_end s b (i + 1) newline none)) (last_more bytes i s within last newline none)
            | inr line ↦
                let next = after_line s b (i + 1) newline line in
                subst (IsLastEnd bytes (i + 1)) (sym next) (last_same bytes i s [] (s.batch ++ s.line ∷ []) within last (subst (IsReadTo bytes (i + 1)) next read_more) is (some_batch s.batch s.line))
          ]
    ]

-- ---- behind a byte 0

pub one_line : recovered_lines (1 ∷ 10 ∷ 10 ∷ []) ≡ (1 ∷ []) ∷ []
unfolding read_on
one_line = refl

pub apart : [] ≡ (let line : List ℕ = 1 ∷ [] in line) ∷ [] → ⊥
apart e = cc

take_one : (k : ℕ) (b : ℕ) (rest : List ℕ) → take (suc k) (b ∷ rest) ≡ b ∷ take k rest
take_one k b rest = refl

not_behind : (bytes : List ℕ) (i w : ℕ) (s : ReadingState) (lines : List (List ℕ)) → IsReadTo bytes i s → i < length bytes → get_or bytes i 0 ≡ 0 → i < w → AreWhole (take w bytes) lines → ⊥
not_behind bytes i w s lines read within hole behind are =
    let k = w - i - 1 in
    let t = take k (drop (i + 1) bytes) in
    let far : w ≡ i + suc k = omega (arith, behind) in
    let front : take w bytes ≡ take i bytes ++ (0 ∷ t) =
    ap (λ n. take n bytes) far ∙ take-add i (suc k) bytes
    ∙ ap (λ d. take i bytes ++ take (suc k) d) (drop_one_more bytes i within)
    ∙ ap (λ b. take i bytes ++ (b ∷ t)) hole in
    let both : (more : List ℕ) → s.lines ≡ lines ++ recovered_lines more = λ more.
    sym (append-nil s.lines) ∙ ap (λ l. s.lines ++ l) (sym (read_hole s.line s.batch (t ++ more)))
    ∙ sym (read.so_far (0 ∷ (t ++ more)))
    ∙ ap recovered_lines (sym (append_assoc (take i bytes) (0 ∷ t) more))
    ∙ ap (λ f. recovered_lines (f ++ more)) (sym front)
    ∙ are.stand_for more in
    let two : [] ≡ (1 ∷ []) ∷ [] = append_cancel_left lines [] ((1 ∷ []) ∷ []) (ap (λ l. lines ++ l) (sym (read_none [] [])) ∙ sym (both []) ∙ both (1 ∷ 10 ∷ 10 ∷ []) ∙ ap (λ l. lines ++ l) one_line) in
    apart two

-- bytes of which the rest is not torn stand for nothing that a crash may leave
pub not_left : (bytes : List ℕ) (i : ℕ) (s : ReadingState) (torn : Bool) → i ≤ length bytes → IsReadTo bytes i s → IsLastEnd bytes i s → (i < length bytes → get_or bytes i 0 ≡ 0) → torn ≡ is_torn true (drop s.whole bytes) → torn ≡ false → (lines : List (List ℕ)) → StandsFor bytes lines → ⊥
not_left bytes i s torn within read last hole rest not_torn lines stands =
    let w = stands.0 in
    let left : is_torn true (drop w bytes) ≡ true = sym stands.1.rest in
    elim (cases_lt w s.whole) [
      | inl less ↦
          let all : s.whole ≡ length bytes = last.ends w less left in
          false≢true (sym not_torn ∙ rest ∙ ap (is_torn true) (drop_all s.whole bytes (omega (arith, all))) ∙ torn_none true)
      | inr at_least ↦ elim (cases_lt s.whole w) [
        | inl more ↦ elim (cases_lt i w) [
          | inl behind ↦
              let inside : i < length bytes = omega (arith, behind, stands.1.within) in
              not_behind bytes i w s lines read inside (hole inside) behind stands.1.front
          | inr before ↦ last.inner w lines more before stands.1.front
        ]
        | inr at_most ↦
            let same : w ≡ s.whole = omega (arith, at_least, at_most) in
            false≢true (sym not_torn ∙ rest ∙ sym (ap (λ k. is_torn true (drop k bytes)) same) ∙ left)
      ]
    ]
