-- Lines cut from bytes, a part at a time.
use Rattle.session_serving.proofs.Common.{◌≡◌, ℕ, ◌+◌, ◌-◌, ◌<◌, ◌≤◌, Bool, true, false, cond, eqb, List, [], ◌∷◌, ◌++◌, length, take, drop, get_or, fold, refl, ap, sym, ◌∙◌, append_assoc, take_all, length-append, length-drop, take-append-drop, suc, zero, Some, None, arith, fold-append, slice_range, take-add, take-append-add, take_more, get_or-drop, has_no_newline, not_newline, rest_unbroken, Cut, max_kept, max_kept_is, add_byte, cut_after, CutsNext, append_nil}

-- a cut behind lines that came before
abbrev pub behind : List (List ℕ) → Cut → Cut
behind lines c = record { whole = lines ++ c.whole; rest = c.rest }

behind-one : (lines : List (List ℕ)) (c : Cut) (b : ℕ) (newline : Bool) → cond newline (record { whole = (lines ++ c.whole) ++ c.rest ∷ []; rest = [] }) (record { whole = lines ++ c.whole; rest = take max_kept (c.rest ++ b ∷ []) }) ≡ behind lines (cond newline (record { whole = c.whole ++ c.rest ∷ []; rest = [] }) (record { whole = c.whole; rest = take max_kept (c.rest ++ b ∷ []) }))
behind-one lines c b true = λ i. record { whole = append_assoc lines c.whole (c.rest ∷ []) i; rest = [] }
behind-one lines c b false = refl

behind-all : (lines : List (List ℕ)) (c : Cut) (bytes : List ℕ) → fold add_byte (behind lines c) bytes ≡ behind lines (fold add_byte c bytes)
behind-all lines c [] = refl
behind-all lines c (b ∷ bytes) = ap (λ d. fold add_byte d bytes) (behind-one lines c b (eqb b 10)) ∙ behind-all lines (add_byte c b) bytes

-- a cut goes on after the first bytes
pub cut-append : (rest xs ys : List ℕ) → cut_after rest (xs ++ ys) ≡ behind (cut_after rest xs).whole (cut_after (cut_after rest xs).rest ys)
cut-append rest xs ys =
    let c = cut_after rest xs in
    let start : c ≡ behind c.whole (record { whole = []; rest = c.rest }) = λ i. record { whole = append_nil c.whole i; rest = c.rest } in
    fold-append add_byte (record { whole = []; rest = rest }) xs ys
    ∙ ap (λ d. fold add_byte d ys) start
    ∙ behind-all c.whole (record { whole = []; rest = c.rest }) ys

-- bytes of a line
pub kept_short : (line bytes : List ℕ) → length bytes ≤ 65537 - length line → length line ≤ max_kept → line ++ bytes ≡ take max_kept (line ++ bytes)
kept_short line bytes short fits = sym (take_all max_kept (line ++ bytes) (omega (arith, length-append line bytes, short, fits, max_kept_is)))

take-part : (n : ℕ) (xs ys : List ℕ) → length xs ≤ n → take n (xs ++ ys) ≡ xs ++ take (n - length xs) ys
take-part n xs ys le =
    let size : n ≡ length xs + (n - length xs) = omega (arith, le) in
    ap (λ k. take k (xs ++ ys)) size ∙ take-append-add xs ys (n - length xs)

pub kept_long : (line bytes : List ℕ) (room : ℕ) → room ≡ 65537 - length line → length line ≤ max_kept → line ++ take room bytes ≡ take max_kept (line ++ bytes)
kept_long line bytes room e fits =
    let same : room ≡ max_kept - length line = omega (arith, e, max_kept_is) in
    ap (λ k. line ++ take k bytes) same ∙ sym (take-part max_kept line bytes fits)

take_again : (n : ℕ) (xs ys : List ℕ) → take n (take n xs ++ ys) ≡ take n (xs ++ ys)
take_again zero xs ys = refl
take_again (suc n) [] ys = refl
take_again (suc n) (x ∷ xs) ys = ap (λ l. x ∷ l) (take_again n xs ys)

pub is_max_kept : max_kept ≡ 65537
is_max_kept = max_kept_is

pub cut-plain : (rest : List ℕ) (b : ℕ) → eqb b 10 ≡ false → cut_after rest (b ∷ []) ≡ record { whole = []; rest = take max_kept (rest ++ b ∷ []) }
cut-plain rest b e = λ i. cond (e i) (record { whole = [] ++ rest ∷ []; rest = [] }) (record { whole = []; rest = take max_kept (rest ++ b ∷ []) })

pub length-take-most : (n : ℕ) (xs : List ℕ) → length (take n xs) ≤ n
length-take-most zero xs = omega arith
length-take-most (suc n) [] = omega arith
length-take-most (suc n) (x ∷ xs) = omega (arith, length-take-most n xs)

-- bytes without a newline
pub cut-has_no_newline : (rest bytes : List ℕ) → has_no_newline bytes ≡ true → length rest ≤ max_kept → cut_after rest bytes ≡ record { whole = []; rest = take max_kept (rest ++ bytes) }
cut-has_no_newline rest [] h fits = λ i. record { whole = []; rest = (sym (take_all max_kept rest fits) ∙ ap (take max_kept) (append_nil rest)) i }
cut-has_no_newline rest (b ∷ bytes) h fits =
    let plain = not_newline b bytes h in
    let kept : List ℕ = take max_kept (rest ++ b ∷ []) in
    let short : length kept ≤ max_kept = length-take-most max_kept (rest ++ b ∷ []) in
    let more = cut-has_no_newline kept bytes (rest_unbroken b bytes h) short in
    ap (λ c. fold add_byte c bytes) (cut-plain rest b plain) ∙ more
    ∙ ap (λ l. record { whole = []; rest = l }) (take_again max_kept (rest ++ b ∷ []) bytes ∙ ap (take max_kept) (append_assoc rest (b ∷ []) bytes))

-- a whole line
pub cut-line : (rest bytes : List ℕ) → has_no_newline bytes ≡ true → length rest ≤ max_kept → cut_after rest (bytes ++ 10 ∷ []) ≡ record { whole = take max_kept (rest ++ bytes) ∷ []; rest = [] }
cut-line rest bytes h fits =
    cut-append rest bytes (10 ∷ [])
    ∙ ap (λ (c : Cut). behind c.whole (cut_after c.rest (10 ∷ []))) (cut-has_no_newline rest bytes h fits)

-- a line with its newline, in a chunk
pub chunk-part : (w : List ℕ) (from end : ℕ) → from ≤ end → end < length w → get_or w end 0 ≡ 10 → take (end + 1) w ≡ take from w ++ (slice_range w from end ++ 10 ∷ [])
chunk-part w from end le lt is =
    let k = end - from in
    let size : end + 1 ≡ from + (k + 1) = omega (arith, le) in
    let inside : k < length (drop from w) = omega (arith, length-drop from w, le, lt) in
    let there : from + k ≡ end = omega (arith, le) in
    let last : get_or (drop from w) k 0 ≡ 10 = get_or-drop from w k 0 ∙ ap (λ n. get_or w n 0) there ∙ is in
    ap (λ n. take n w) size ∙ take-add from (k + 1) w ∙ ap (λ l. take from w ++ l) (take_more (drop from w) k 0 inside ∙ ap (λ b. take k (drop from w) ++ b ∷ []) last)

-- a chunk goes on after a place
pub cut-left : (rest chunk : List ℕ) (i : ℕ) → cut_after rest chunk ≡ behind (cut_after rest (take i chunk)).whole (cut_after (cut_after rest (take i chunk)).rest (drop i chunk))
cut-left rest chunk i = ap (λ l. cut_after rest l) (sym (take-append-drop i chunk)) ∙ cut-append rest (take i chunk) (drop i chunk)

-- with the next line of a chunk
pub chunk-cut : (rest chunk now kept : List ℕ) (from end : ℕ) → now ≡ (cut_after rest (take from chunk)).rest → CutsNext now chunk from (Some end) kept → cut_after rest (take end chunk) ≡ record { whole = (cut_after rest (take from chunk)).whole ++ kept ∷ []; rest = [] }
chunk-cut rest chunk now kept from end e cuts =
    let part = cuts.2.0 in
    ap (λ l. cut_after rest l) cuts.2.1 ∙ cut-append rest (take from chunk) part
    ∙ ap (λ l. behind (cut_after rest (take from chunk)).whole (cut_after l part)) (sym e)
    ∙ ap (λ c. behind (cut_after rest (take from chunk)).whole c) cuts.2.2

-- with the rest of a chunk
pub chunk-last : (rest chunk now kept : List ℕ) (from : ℕ) → now ≡ (cut_after rest (take from chunk)).rest → CutsNext now chunk from None kept → cut_after rest chunk ≡ record { whole = (cut_after rest (take from chunk)).whole ++ []; rest = kept }
chunk-last rest chunk now kept from e cuts =
    cut-left rest chunk from
    ∙ ap (λ l. behind (cut_after rest (take from chunk)).whole (cut_after l (drop from chunk))) (sym e)
    ∙ ap (λ c. behind (cut_after rest (take from chunk)).whole c) cuts

-- what a search for the next newline gives
pub found-line : (old chunk sub new : List ℕ) (from end : ℕ) → from ≤ end → end < length chunk → get_or chunk end 0 ≡ 10 → has_no_newline (slice_range chunk from end) ≡ true → length old ≤ max_kept → sub ≡ slice_range chunk from end → new ≡ take max_kept (old ++ sub) → CutsNext old chunk from (Some (end + 1)) new
found-line old chunk sub new from end le lt is h fits e f =
    let whole : take max_kept (old ++ slice_range chunk from end) ≡ new = ap (λ l. take max_kept (old ++ l)) (sym e) ∙ sym f in
    (omega (arith, le), omega (arith, lt), (slice_range chunk from end ++ 10 ∷ [], chunk-part chunk from end le lt is, cut-line old (slice_range chunk from end) h fits ∙ ap (λ l. record { whole = l ∷ []; rest = [] }) whole))

pub found-none : (old chunk sub new : List ℕ) (from : ℕ) → from ≤ length chunk → has_no_newline (drop from chunk) ≡ true → length old ≤ max_kept → sub ≡ take (length chunk - from) (drop from chunk) → new ≡ take max_kept (old ++ sub) → CutsNext old chunk from None new
found-none old chunk sub new from le h fits e f =
    let all : length (drop from chunk) ≤ length chunk - from = omega (arith, length-drop from chunk) in
    let same : sub ≡ drop from chunk = e ∙ take_all (length chunk - from) (drop from chunk) all in
    cut-has_no_newline old (drop from chunk) h fits ∙ ap (λ l. record { whole = []; rest = l }) (ap (λ l. take max_kept (old ++ l)) (sym same) ∙ sym f)
