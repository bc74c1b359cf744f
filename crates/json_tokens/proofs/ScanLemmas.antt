-- A record that is scanned is the text of its members.
use Rattle.json_tokens.proofs.Common.{◌≡◌, ℕ, zero, suc, ◌+◌, ◌*◌, ◌/◌, ◌%◌, ◌<◌, ◌≤◌, ◌^◌, Bool, true, false, not, cond, eqb, ltb, ◌||◌, ◌⊎◌, inl, inr, List, [], ◌∷◌, ◌++◌, map, length, take, drop, get_or, decimal, refl, sym, ap, ap₂, subst, ◌∙◌, arith, append_assoc, take-append-drop, Some, Result, Ok, Err, IfOk, prefix_len, and_from, cases_lt, length-chunk, mask_l-mod, trailing_mask_l, run_in_chunk_le, run_in_chunk_fails, none_from_empty_mask, decimal_digit, decimal_step, drop_more, take_more, length-map, Token, tokens, print, print_from, separator, token_text, quoted, escape, IsPrintable, ArePrintable, tokens-print, IsNumber-decimal, read, Member, scalar_token, IsSmallScalar, HaveSmallNumbers, member_tokens, flat_data, PlainUpTo, member_text, members_text, flat_tokens, is_stop, is_plain, is_plain_letter, Scalar, Text, Whole}
use lib.Bits.{bit_or}
use lib.Count.{count_trailing_zeros}
use lib.Lanes.{chunk, mask_l, top}
use Rattle.json.specs.Token as token
use Rattle.json_tokens.proofs.FlatLemmas.{flat_read}
use Rattle.json_tokens.proofs.PlainTextLemmas.{escape_plain}

-- ---- parts of a text

-- one part, and then another
pub joined : (text a between b rest : List ℕ) → text ≡ a ++ between → between ≡ b ++ rest → text ≡ (a ++ b) ++ rest
joined text a between b rest e f = e ∙ ap (λ l. a ++ l) f ∙ sym (append_assoc a b rest)

-- letters that are plain one by one
plain_front : (text : List ℕ) (n : ℕ) → PlainUpTo text n → n ≤ length text → is_plain (take n text) ≡ true
plain_front [] n h le = none n
  where
    none : (n : ℕ) → is_plain (take n []) ≡ true
    none zero = refl
    none (suc n) = refl
plain_front (x ∷ text) zero h le = refl
plain_front (x ∷ text) (suc n) h le = and_from _ _ (h 0 (omega arith)) (plain_front text n (λ k lt. h (suc k) (omega arith)) (omega arith))

-- a plain text up to the next quote
pub quoted_first : (text inside said rest : List ℕ) (end : ℕ) → text ≡ 34 ∷ inside → PlainUpTo inside end → end < length inside → get_or inside end 0 ≡ 34 →
    said ≡ take end inside → rest ≡ drop (end + 1) inside → text ≡ quoted said ++ rest
quoted_first text inside said rest end t plain lt q s r =
    let behind : drop end inside ≡ 34 ∷ rest = drop_more inside end 0 lt ∙ ap (λ x. x ∷ drop (end + 1) inside) q ∙ ap (λ l. 34 ∷ l) (sym r) in
    let whole : inside ≡ said ++ 34 ∷ rest = sym (take-append-drop end inside) ∙ ap (λ l. l ++ drop end inside) (sym s) ∙ ap (λ l. said ++ l) behind in
    let shown : escape said ≡ said = escape_plain said (subst (λ l. is_plain l ≡ true) (sym s) (plain_front inside end plain (omega arith))) in
    t ∙ ap (λ l. 34 ∷ l) (whole ∙ sym (append_assoc said (34 ∷ []) rest) ∙ ap (λ l. (l ++ 34 ∷ []) ++ rest) (sym shown))

-- ---- sixteen letters at once

-- what the comparisons say of a letter
abbrev pub hit : ℕ → ℕ → ℕ
hit a b = cond (eqb a b) 255 0

abbrev pub below : ℕ → ℕ → ℕ
below a b = cond (ltb a b) 255 0

-- all three together
abbrev stop_lane : ℕ → ℕ
stop_lane x = bit_or (bit_or (hit x 34) (hit x 92)) (below x 32)

top_either : (a b c : Bool) → top 7 (bit_or (bit_or (cond a 255 0) (cond b 255 0)) (cond c 255 0)) ≡ a || b || c
top_either true true true = refl
top_either true true false = refl
top_either true false true = refl
top_either true false false = refl
top_either false true true = refl
top_either false true false = refl
top_either false false true = refl
top_either false false false = refl

tops : (v : List ℕ) → map (top 7) (map stop_lane v) ≡ map is_stop v
tops [] = refl
tops (x ∷ v) = ap₂ (λ b l. b ∷ l) (top_either (eqb x 34) (eqb x 92) (ltb x 32)) (tops v)

-- the bits of what three comparisons say together
pub stop_bits : (v z : List ℕ) → length v ≤ 64 → z ≡ map stop_lane v → mask_l (map (top 7) z) % 2 ^ 64 ≡ mask_l (map is_stop v)
stop_bits v z short e = ap (λ l. mask_l (map (top 7) l) % 2 ^ 64) e ∙ ap (λ l. mask_l l % 2 ^ 64) (tops v) ∙ mask_l-mod (map is_stop v) 64 (omega (arith, length-map v is_stop))

-- some plain letters more
plain_run : (text : List ℕ) (i r : ℕ) → PlainUpTo text i → ((k : ℕ) → i ≤ k → k < i + r → is_stop (get_or text k 0) ≡ false) → PlainUpTo text (i + r)
plain_run text i r before run k lt = go (cases_lt k i)
  where
    go : (k < i) ⊎ (i ≤ k) → is_plain_letter (get_or text k 0) ≡ true
    go (inl less) = before k less
    go (inr le) = ap not (run k le lt)

-- no letter stops the text
pub plain_through : (text : List ℕ) (i n found : ℕ) → i + n ≤ length text → PlainUpTo text i → found ≡ mask_l (map is_stop (chunk i n text)) → found ≡ 0 → PlainUpTo text (i + n)
plain_through text i n found room before is none = plain_run text i n before (none_from_empty_mask is_stop text i n 0 room (sym is ∙ none))

-- the letters before the first that stops the text
pub plain_to_stop : (text : List ℕ) (i n found : ℕ) → i + n ≤ length text → n ≤ 64 → PlainUpTo text i → found ≡ mask_l (map is_stop (chunk i n text)) → 0 < found →
    (i + count_trailing_zeros 64 found ≤ length text) × PlainUpTo text (i + count_trailing_zeros 64 found)
plain_to_stop text i n found room short before is some =
    let long : length (chunk i n text) ≡ n = length-chunk i n text room in
    let counted : count_trailing_zeros 64 found ≡ prefix_len (λ x. not (is_stop x)) (chunk i n text) =
    ap (count_trailing_zeros 64) is ∙ trailing_mask_l is_stop 64 (chunk i n text) (omega arith) (omega arith) in
    let le = run_in_chunk_le is_stop text i n (count_trailing_zeros 64 found) 0 room counted in
    (omega (arith, le), plain_run text i (count_trailing_zeros 64 found) before (run_in_chunk_fails is_stop text i n (count_trailing_zeros 64 found) 0 room counted))

-- ---- whole numbers

-- a digit more
decimal_more : (ds : List ℕ) (n d : ℕ) → 0 < n → d < 10 → n * 10 + d < 2 ^ 64 → ds ≡ decimal n → ds ++ (48 + d) ∷ [] ≡ decimal (n * 10 + d)
decimal_more ds n d positive lt fits e =
    let front : (n * 10 + d) / 10 ≡ n = omega arith in
    let last : (n * 10 + d) % 10 ≡ d = omega arith in
    ap (λ l. l ++ (48 + d) ∷ []) e
    ∙ sym (decimal_step (n * 10 + d) (omega arith) fits ∙ ap (λ k. decimal k ++ (48 + (n * 10 + d) % 10) ∷ []) front ∙ ap (λ k. decimal n ++ (48 + k) ∷ []) last)

pub digit_first : (text : List ℕ) (n : ℕ) → 0 < length text → get_or text 0 0 ≡ 48 + n → n < 10 → take 1 text ≡ decimal n
digit_first [] n some e small = absurd (omega arith)
digit_first (x ∷ text) n some e small = ap (λ y. y ∷ []) e ∙ sym (decimal_digit n small)

pub digit_next : (text : List ℕ) (i n d now : ℕ) → i < length text → 0 < n → take i text ≡ decimal n → get_or text i 0 ≡ 48 + d → d < 10 → now ≡ n * 10 + d → now < 2 ^ 64 →
    (0 < now) × (take (i + 1) text ≡ decimal now)
digit_next text i n d now lt positive e is small sum fits =
    let digits : take (i + 1) text ≡ take i text ++ (48 + d) ∷ [] = take_more text i 0 lt ∙ ap (λ y. take i text ++ y ∷ []) is in
    (omega arith, digits ∙ decimal_more (take i text) n d positive small (omega arith) e ∙ ap decimal (sym sum))

-- ---- the text of members

-- a value follows its key, and what follows the value may begin with a comma
print_member : (c : Bool) (m : Member) (ts : List Token) → print_from c (token.key m.0.now ∷ scalar_token m.1 ∷ ts) ≡ separator c (token.key m.0.now) ++ (member_text m ++ print_from true ts)
unfolding print_from
print_member c m ts = ap (λ l. separator c (token.key m.0.now) ++ l) (value_behind m.1 ∙ sym (append_assoc (token_text (token.key m.0.now)) (token_text (scalar_token m.1)) (print_from true ts)))
  where
    value_behind : (v : Scalar) → token_text (token.key m.0.now) ++ print_from false (scalar_token v ∷ ts) ≡ token_text (token.key m.0.now) ++ (token_text (scalar_token v) ++ print_from true ts)
    value_behind (Text s) = refl
    value_behind (Whole n) = refl

comma_first : (ms : List Member) (m : Member) (ts : List Token) → print_from true (member_tokens (ms ++ m ∷ []) ++ ts) ≡ 44 ∷ print_from false (member_tokens (ms ++ m ∷ []) ++ ts)
unfolding print_from
comma_first [] m ts = refl
comma_first (x ∷ ms) m ts = refl

print_members : (ms : List Member) (m : Member) → print_from false (member_tokens (ms ++ m ∷ []) ++ token.end_object ∷ []) ≡ members_text ms ++ (member_text m ++ 125 ∷ [])
unfolding print_from
print_members [] m = print_member false m (token.end_object ∷ [])
print_members (x ∷ ms) m =
    print_member false x (member_tokens (ms ++ m ∷ []) ++ token.end_object ∷ [])
    ∙ ap (λ l. member_text x ++ l) (comma_first ms m (token.end_object ∷ []) ∙ ap (λ l. 44 ∷ l) (print_members ms m))
    ∙ sym (append_assoc (member_text x) (44 ∷ members_text ms) (member_text m ++ 125 ∷ []))

print_record : (ms : List Member) (m : Member) → print (flat_tokens (ms ++ m ∷ [])) ≡ 123 ∷ (members_text ms ++ (member_text m ++ 125 ∷ []))
unfolding print_from
print_record ms m = ap (λ l. 123 ∷ l) (print_members ms m)

-- ---- the steps of a scan

small_push : (ms : List Member) (m : Member) → HaveSmallNumbers ms → IsSmallScalar m.1 → HaveSmallNumbers (ms ++ m ∷ [])
small_push [] m all h = (h, tt)
small_push (x ∷ ms) m all h = (all.0, small_push ms m all.1 h)

pub small_members : (now ms : List Member) (m : Member) → now ≡ ms ++ m ∷ [] → HaveSmallNumbers ms → IsSmallScalar m.1 → HaveSmallNumbers now
small_members now ms m n all h = subst HaveSmallNumbers (sym n) (small_push ms m all h)

members_push : (ms : List Member) (m : Member) → members_text (ms ++ m ∷ []) ≡ members_text ms ++ (member_text m ++ 44 ∷ [])
members_push [] m = refl
members_push (x ∷ ms) m = ap (λ l. member_text x ++ 44 ∷ l) (members_push ms m) ∙ sym (append_assoc (member_text x) (44 ∷ members_text ms) (member_text m ++ 44 ∷ []))

-- a member and a comma
pub scanned_more : (text rest said behind more : List ℕ) (ms now : List Member) (m : Member) → text ≡ 123 ∷ (members_text ms ++ rest) → rest ≡ token_text (token.key m.0.now) ++ said →
    said ≡ token_text (scalar_token m.1) ++ behind → behind ≡ 44 ∷ more → now ≡ ms ++ m ∷ [] → text ≡ 123 ∷ (members_text now ++ more)
scanned_more text rest said behind more ms now m t k v b n =
    let member : rest ≡ member_text m ++ 44 ∷ more = joined rest (token_text (token.key m.0.now)) said (token_text (scalar_token m.1)) behind k v ∙ ap (λ l. member_text m ++ l) b in
    let same : members_text now ++ more ≡ members_text ms ++ (member_text m ++ 44 ∷ more) = ap (λ l. members_text l ++ more) n ∙ ap (λ l. l ++ more) (members_push ms m) ∙ simp append_assoc in
    t ∙ ap (λ l. 123 ∷ (members_text ms ++ l)) member ∙ ap (λ l. 123 ∷ l) (sym same)

-- a member and the closing bracket
pub scanned_all : (text rest said behind : List ℕ) (ms now : List Member) (m : Member) → text ≡ 123 ∷ (members_text ms ++ rest) → rest ≡ token_text (token.key m.0.now) ++ said →
    said ≡ token_text (scalar_token m.1) ++ behind → behind ≡ 125 ∷ [] → now ≡ ms ++ m ∷ [] → text ≡ print (flat_tokens now)
scanned_all text rest said behind ms now m t k v b n =
    let member : rest ≡ member_text m ++ 125 ∷ [] = joined rest (token_text (token.key m.0.now)) said (token_text (scalar_token m.1)) behind k v ∙ ap (λ l. member_text m ++ l) b in
    t ∙ ap (λ l. 123 ∷ (members_text ms ++ l)) member ∙ sym (print_record ms m) ∙ ap (λ l. print (flat_tokens l)) (sym n)

-- ---- what such a text is read as

printable : (ms : List Member) → HaveSmallNumbers ms → ArePrintable (member_tokens ms ++ token.end_object ∷ [])
unfolding ArePrintable
printable [] h = (tt, tt)
printable (m ∷ ms) h = (tt, (value m.1 h.0, printable ms h.1))
  where
    value : (v : Scalar) → IsSmallScalar v → IsPrintable (scalar_token v)
    value (Text s) k = tt
    value (Whole n) k = IsNumber-decimal n k

read_scanned : (text : List ℕ) (ms : List Member) → text ≡ print (flat_tokens ms) → HaveSmallNumbers ms → read text ≡ Some (flat_data ms)
unfolding ArePrintable
read_scanned text ms e h = flat_read text ms (ap tokens e ∙ tokens-print (flat_tokens ms) (tt, printable ms h)) h

pub read_if_scanned : {E : Type 0} (text : List ℕ) (ms : List Member) (scanned : Result Bool E) → IfOk scanned (λ is_record. is_record ≡ true → HaveSmallNumbers ms) →
    IfOk scanned (λ is_record. is_record ≡ true → text ≡ print (flat_tokens ms)) → IfOk scanned (λ is_record. is_record ≡ true → read text ≡ Some (flat_data ms))
read_if_scanned text ms (Ok is_record) small all = λ is. read_scanned text ms (all is) (small is)
read_if_scanned text ms (Err e) small all = tt
