-- The lines of a text, and those of whole batches.
use Rattle.std.proofs.Common.{◌≡◌, ◌≢◌, ◌⊎◌, inl, inr, ℕ, zero, suc, ◌+◌, ◌-◌, ◌≤◌, ◌<◌, false, List, [], ◌∷◌, ◌++◌, length, get_or, take, drop, refl, sym, ◌∙◌, ap, arith, append_assoc}
use Rattle.std.proofs.lemmas.Bool.{cases_eq, and_parts}
use Rattle.std.proofs.lemmas.Bool.Decides.{nat_tests}
use Rattle.std.proofs.lemmas.List.{append-nil, append_cancel_left, drop_all, length-drop, length-take-le}
use Rattle.journal.specs.Lines.{is_nil, lines_on, text_lines, HasNoNewline, IsNextNewline, read_on, recovered_lines, AreWhole}
use Rattle.journal.proofs.LineLemmas.{nil_is, read_hole, read_none, read_end, read_newline, read_byte, as_newline}
use Rattle.journal.proofs.ReadLemmas.{drop_one_more}
use Rattle.journal.proofs.EndLemmas.{not_begun, one_line, apart}

-- ---- a byte more

lines_none : (line : List ℕ) → lines_on line [] ≡ []
unfolding lines_on
lines_none line = refl

lines_byte : (line : List ℕ) (b : ℕ) (text : List ℕ) → b ≢ 10 → lines_on line (b ∷ text) ≡ lines_on (line ++ b ∷ []) text
unfolding lines_on
lines_byte line b text inner = grind (arith, nat_tests)

lines_blank : (text : List ℕ) → lines_on [] (10 ∷ text) ≡ text_lines text
unfolding lines_on
lines_blank text = refl

lines_end : (line text : List ℕ) → is_nil line ≡ false → lines_on line (10 ∷ text) ≡ line ∷ text_lines text
unfolding lines_on
lines_end [] text some = cc
lines_end (x ∷ line) text some = refl

-- ---- up to the next newline

-- bytes without a newline go onto the line
lines_run : (n : ℕ) (text line : List ℕ) (i : ℕ) → i + n ≤ length text → HasNoNewline text i (i + n) → lines_on line (drop i text) ≡ lines_on (line ++ take n (drop i text)) (drop (i + n) text)
lines_run zero text line i within inner =
    let same : i ≡ i + 0 = omega arith in
    ap (λ l. lines_on l (drop i text)) (sym (append-nil line)) ∙ ap (λ k. lines_on (line ++ []) (drop k text)) same
lines_run (suc n) text line i within inner =
    let b : ℕ = get_or text i 0 in
    let first : drop i text ≡ b ∷ drop (i + 1) text = drop_one_more text i (omega arith) in
    let far : i + 1 + n ≡ i + suc n = omega arith in
    ap (lines_on line) first
    ∙ lines_byte line b (drop (i + 1) text) (inner i (omega arith) (omega arith))
    ∙ lines_run n text (line ++ b ∷ []) (i + 1) (omega arith) (λ k low high. inner k (omega arith) (omega arith))
    ∙ ap (λ k. lines_on ((line ++ b ∷ []) ++ take n (drop (i + 1) text)) (drop k text)) far
    ∙ ap (λ l. lines_on l (drop (i + suc n) text)) (append_assoc line (b ∷ []) (take n (drop (i + 1) text)) ∙ ap (λ t. line ++ take (suc n) t) (sym first))

newline_next : (text : List ℕ) (end : ℕ) → end < length text → get_or text end 0 ≡ 10 → drop end text ≡ 10 ∷ drop (end + 1) text
newline_next text end within newline = drop_one_more text end within ∙ ap (λ b. b ∷ drop (end + 1) text) newline

-- a line that is not empty
pub line_next : (text : List ℕ) (from end : ℕ) → IsNextNewline text from end → from < end → text_lines (drop from text) ≡ take (end - from) (drop from text) ∷ text_lines (drop (end + 1) text)
line_next text from end is some =
    let n : ℕ = end - from in
    let line : List ℕ = take n (drop from text) in
    let there : from + n ≡ end = omega (arith, is.order) in
    let within : end < length text = is.within in
    let long : length line ≡ n = length-take-le n (drop from text) (omega (arith, length-drop from text, within)) in
    lines_run n text [] from (omega (arith, within, there)) (λ k low high. is.before k low (omega (arith, there, high)))
    ∙ ap (λ k. lines_on line (drop k text)) there
    ∙ ap (lines_on line) (newline_next text end within is.newline)
    ∙ lines_end line (drop (end + 1) text) (not_nil line (omega (arith, long, some)))
  where
    not_nil : (line : List ℕ) → 0 < length line → is_nil line ≡ false
    not_nil [] lt = absurd (omega (arith, lt))
    not_nil (x ∷ line) lt = refl

-- an empty line is passed over
pub blank_next : (text : List ℕ) (from end : ℕ) → IsNextNewline text from end → end ≤ from → text_lines (drop from text) ≡ text_lines (drop (end + 1) text)
blank_next text from end is none =
    let same : from ≡ end = omega (arith, is.order, none) in
    ap (λ k. text_lines (drop k text)) same
    ∙ ap text_lines (newline_next text end is.within is.newline)
    ∙ lines_blank (drop (end + 1) text)

-- no line is left
pub no_next : (text : List ℕ) (from : ℕ) → from ≤ length text → HasNoNewline text from (length text) → text_lines (drop from text) ≡ []
no_next text from within inner =
    let n : ℕ = length text - from in
    let there : from + n ≡ length text = omega arith in
    lines_run n text [] from (omega arith) (λ k low high. inner k low (omega (arith, there, high)))
    ∙ ap (λ k. lines_on (take n (drop from text)) (drop k text)) there
    ∙ ap (lines_on (take n (drop from text))) (drop_all (length text) text (omega arith))
    ∙ lines_none (take n (drop from text))

-- ---- the lines of whole batches

-- what follows counts for nothing
abbrev IsHidden : List ℕ → List (List ℕ) → List ℕ → Type 0
IsHidden line batch text = (more : List ℕ) → read_on line batch (text ++ more) ≡ read_on line batch text

-- the lines of the text are those of whole batches and those of a batch that has begun
record IsReadOn (line : List ℕ) (batch : List (List ℕ)) (text : List ℕ) : Type 0 where
  front : List (List ℕ)
  begun : List (List ℕ)
  last : List ℕ
  reads : (more : List ℕ) → read_on line batch (text ++ more) ≡ front ++ read_on last begun more
  lines : front ++ begun ≡ batch ++ lines_on line text

abbrev Reads : List ℕ → List (List ℕ) → List ℕ → Type 0
Reads line batch text = IsHidden line batch text ⊎ IsReadOn line batch text

hole_reads : (line : List ℕ) (batch : List (List ℕ)) (b : ℕ) (text : List ℕ) → b ≡ 0 → Reads line batch (b ∷ text)
hole_reads line batch b text hole = inl (λ more. none (text ++ more) ∙ sym (none text))
  where
    none : (rest : List ℕ) → read_on line batch (b ∷ rest) ≡ []
    none rest = ap (λ x. read_on line batch (x ∷ rest)) hole ∙ read_hole line batch rest

end_reads : (batch : List (List ℕ)) (b : ℕ) (text : List ℕ) → b ≡ 10 → Reads [] [] text → Reads [] batch (b ∷ text)
end_reads batch b text newline (inl h) = inl (λ more. ends (text ++ more) ∙ ap (λ l. batch ++ l) (h more) ∙ sym (ends text))
  where
    ends : (rest : List ℕ) → read_on [] batch (b ∷ rest) ≡ batch ++ recovered_lines rest
    ends rest = as_newline [] batch b rest newline ∙ read_end batch rest
end_reads batch b text newline (inr r) = inr (record {
  front = batch ++ r.front;
  begun = r.begun;
  last = r.last;
  reads = λ more. as_newline [] batch b (text ++ more) newline ∙ read_end batch (text ++ more) ∙ ap (λ l. batch ++ l) (r.reads more) ∙ sym (append_assoc batch r.front (read_on r.last r.begun more));
  lines = append_assoc batch r.front r.begun ∙ ap (λ l. batch ++ l) (r.lines ∙ sym (lines_blank text) ∙ ap (λ x. lines_on [] (x ∷ text)) (sym newline));
})

line_reads : (x : ℕ) (line : List ℕ) (batch : List (List ℕ)) (b : ℕ) (text : List ℕ) → b ≡ 10 → Reads [] (batch ++ (x ∷ line) ∷ []) text → Reads (x ∷ line) batch (b ∷ text)
line_reads x line batch b text newline (inl h) = inl (λ more. ends (text ++ more) ∙ h more ∙ sym (ends text))
  where
    ends : (rest : List ℕ) → read_on (x ∷ line) batch (b ∷ rest) ≡ read_on [] (batch ++ (x ∷ line) ∷ []) rest
    ends rest = as_newline (x ∷ line) batch b rest newline ∙ read_newline (x ∷ line) batch rest refl
line_reads x line batch b text newline (inr r) = inr (record {
  front = r.front;
  begun = r.begun;
  last = r.last;
  reads = λ more. as_newline (x ∷ line) batch b (text ++ more) newline ∙ read_newline (x ∷ line) batch (text ++ more) refl ∙ r.reads more;
  lines = r.lines ∙ append_assoc batch ((x ∷ line) ∷ []) (text_lines text) ∙ ap (λ l. batch ++ l) (sym (lines_end (x ∷ line) text refl) ∙ ap (λ y. lines_on (x ∷ line) (y ∷ text)) (sym newline));
})

byte_reads : (line : List ℕ) (batch : List (List ℕ)) (b : ℕ) (text : List ℕ) → b ≢ 0 → b ≢ 10 → Reads (line ++ b ∷ []) batch text → Reads line batch (b ∷ text)
byte_reads line batch b text some inner (inl h) = inl (λ more. read_byte line batch b (text ++ more) some inner ∙ h more ∙ sym (read_byte line batch b text some inner))
byte_reads line batch b text some inner (inr r) = inr (record {
  front = r.front;
  begun = r.begun;
  last = r.last;
  reads = λ more. read_byte line batch b (text ++ more) some inner ∙ r.reads more;
  lines = r.lines ∙ ap (λ l. batch ++ l) (sym (lines_byte line b text inner));
})

read_text : (text line : List ℕ) (batch : List (List ℕ)) → Reads line batch text
read_text [] line batch = inr (record {
  front = [];
  begun = batch;
  last = line;
  reads = λ more. refl;
  lines = sym (ap (λ l. batch ++ l) (lines_none line) ∙ append-nil batch);
})
read_text (b ∷ text) [] batch = elim (cases_eq b 0) [
  | inl hole ↦ hole_reads [] batch b text hole
  | inr some ↦ elim (cases_eq b 10) [
    | inl newline ↦ end_reads batch b text newline (read_text text [] [])
    | inr inner ↦ byte_reads [] batch b text some inner (read_text text (b ∷ []) batch)
  ]
]
read_text (b ∷ text) (x ∷ line) batch = elim (cases_eq b 0) [
  | inl hole ↦ hole_reads (x ∷ line) batch b text hole
  | inr some ↦ elim (cases_eq b 10) [
    | inl newline ↦ line_reads x line batch b text newline (read_text text [] (batch ++ (x ∷ line) ∷ []))
    | inr inner ↦ byte_reads (x ∷ line) batch b text some inner (read_text text (x ∷ line ++ b ∷ []) batch)
  ]
]

not_hidden : (text : List ℕ) (lines : List (List ℕ)) → AreWhole text lines → IsHidden [] [] text → ⊥
not_hidden text lines are hidden =
    let both : (more : List ℕ) → lines ++ recovered_lines more ≡ recovered_lines text = λ more. sym (are.stand_for more) ∙ hidden more in
    let line : List ℕ = 1 ∷ [] in
    let two : [] ≡ line ∷ [] = append_cancel_left lines [] (line ∷ []) (ap (λ l. lines ++ l) (sym (read_none [] [])) ∙ both [] ∙ sym (both (1 ∷ 10 ∷ 10 ∷ [])) ∙ ap (λ l. lines ++ l) one_line) in
    apart two

all_read : (text : List ℕ) (lines : List (List ℕ)) → AreWhole text lines → IsReadOn [] [] text → text_lines text ≡ lines
all_read text lines are r =
    let both : (more : List ℕ) → r.front ++ read_on r.last r.begun more ≡ lines ++ recovered_lines more = λ more. sym (r.reads more) ∙ are.stand_for more in
    let same : r.front ≡ lines = sym (append-nil r.front) ∙ ap (λ l. r.front ++ l) (sym (read_none r.last r.begun)) ∙ both [] ∙ ap (λ l. lines ++ l) (read_none [] []) ∙ append-nil lines in
    let rest : (more : List ℕ) → read_on r.last r.begun more ≡ recovered_lines more = λ more. append_cancel_left r.front (read_on r.last r.begun more) (recovered_lines more) (both more ∙ ap (λ l. l ++ recovered_lines more) (sym same)) in
    let none : r.begun ≡ [] = nil_is r.begun (and_parts (is_nil r.last) (is_nil r.begun) (not_begun r.last r.begun rest)).1 in
    sym r.lines ∙ ap (λ l. r.front ++ l) none ∙ append-nil r.front ∙ same

-- those of whole batches are the lines that are not empty
pub whole_lines : (text : List ℕ) (lines : List (List ℕ)) → AreWhole text lines → text_lines text ≡ lines
whole_lines text lines are = elim (read_text text [] []) [
  | inl hidden ↦ absurd (not_hidden text lines are hidden)
  | inr r ↦ all_read text lines are r
]
