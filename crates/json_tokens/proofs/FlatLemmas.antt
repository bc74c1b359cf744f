-- Records without lists, read without a tree.
use Rattle.json_tokens.proofs.Common.{◌≡◌, ℕ, ◌+◌, ◌-◌, ◌<◌, ◌≤◌, Bool, true, false, cond, List, [], ◌∷◌, ◌++◌, length, take, get_or, Option, Some, None, option_map, option_and_then, bytes_eq, refl, sym, ap, ◌∙◌, arith, append-nil, true≢false, option_or, bytes_eq-Decides, take_more, Token, tokens, value-json_tokens, Members, no_members, object, put, get_member, of_json, of_members, read, max_depth, get_member-put, get_member-put_other, number_of-decimal, Member, scalar_token, scalar_json, scalar_data, IsSmallScalar, HaveSmallNumbers, member_tokens, member_json, put_all, flat_data, under, last_under, Scalar, Text, Whole}
use Rattle.json.specs.Token as token
use Rattle.json.specs.Json as json
use Rattle.json.specs.Tree as tree
use Rattle.json_tokens.proofs.ReadLemmas.{whole_of}

-- ---- the members of a text

plain_tokens : (p : Scalar) (ts : List Token) → tree.json_tokens (scalar_json p) ++ ts ≡ scalar_token p ∷ ts
plain_tokens (Text s) ts = refl
plain_tokens (Whole n) ts = refl

members_tokens : (ms : List Member) → tree.members_tokens (member_json ms) ≡ member_tokens ms ++ token.end_object ∷ []
members_tokens [] = refl
members_tokens (m ∷ ms) = ap (λ ts. token.key m.0.now ∷ ts) (plain_tokens m.1 (tree.members_tokens (member_json ms)) ∙ ap (λ ts. scalar_token m.1 ∷ ts) (members_tokens ms))

plain_depth : (p : Scalar) → tree.depth (scalar_json p) ≤ 0
plain_depth (Text s) = omega arith
plain_depth (Whole n) = omega arith

members_depth : (ms : List Member) → tree.members_depth (member_json ms) ≤ 0
members_depth [] = omega arith
members_depth (m ∷ ms) = omega (arith, plain_depth m.1, members_depth ms)

plain_read : (p : Scalar) → IsSmallScalar p → of_json (scalar_json p) ≡ Some (scalar_data p)
plain_read (Text s) h = refl
plain_read (Whole n) h = ap (option_map _) (number_of-decimal n h)

members_read : (ms : List Member) (before : Members) → HaveSmallNumbers ms → of_members (member_json ms) before ≡ Some (put_all ms before)
members_read [] before h = refl
members_read (m ∷ ms) before h =
    ap (option_and_then (λ d. of_members (member_json ms) (put m.0.now d before))) (plain_read m.1 h.0) ∙ members_read ms (put m.0.now (scalar_data m.1) before) h.1

-- a text of such tokens is read as these members
pub flat_read : (text : List ℕ) (ms : List Member) → tokens text ≡ token.begin_object ∷ (member_tokens ms ++ token.end_object ∷ []) → HaveSmallNumbers ms → read text ≡ Some (flat_data ms)
flat_read text ms is h =
    let j = json.object (member_json ms) in
    let all : tokens text ≡ tree.json_tokens j ++ [] = is ∙ ap (λ ts. token.begin_object ∷ ts) (sym (members_tokens ms)) ∙ sym (append-nil (tree.json_tokens j)) in
    let shallow : tree.depth j ≤ max_depth = omega (arith, members_depth ms) in
    ap (λ us. whole_of (json.value max_depth us)) all ∙ ap whole_of (value-json_tokens j max_depth [] shallow) ∙ ap (option_map object) (members_read ms no_members h)

-- ---- the last value under a name

or_or : {A : Type 0} (a b c : Option A) → option_or (option_or a b) c ≡ option_or a (option_or b c)
or_or None b c = refl
or_or (Some x) b c = refl

last_more : (name : List ℕ) (ms : List Member) (m : Member) → last_under name (ms ++ m ∷ []) ≡ option_or (under name m) (last_under name ms)
last_more name [] m = none_behind (under name m)
  where
    none_behind : (o : Option Scalar) → option_or None o ≡ option_or o None
    none_behind None = refl
    none_behind (Some x) = refl
last_more name (x ∷ ms) m = ap (λ o. option_or o (under name x)) (last_more name ms m) ∙ or_or (under name m) (last_under name ms) (under name x)

-- of the first i members, the last one under the name is the last of them or one before
last_step : (name : List ℕ) (ms : List Member) (i : ℕ) (d : Member) → 0 < i → i ≤ length ms →
    last_under name (take i ms) ≡ option_or (under name (get_or ms (i - 1) d)) (last_under name (take (i - 1) ms))
last_step name ms i d some within =
    let one_more : i ≡ i - 1 + 1 = omega arith in
    ap (λ k. last_under name (take k ms)) one_more ∙ ap (last_under name) (take_more ms (i - 1) d (omega arith)) ∙ last_more name (take (i - 1) ms) (get_or ms (i - 1) d)

pub last_here : (name : List ℕ) (ms : List Member) (i : ℕ) (d : Member) (here : Bool) → 0 < i → i ≤ length ms → here ≡ bytes_eq (get_or ms (i - 1) d).0.now name → here ≡ true →
    last_under name (take i ms) ≡ Some (get_or ms (i - 1) d).1
last_here name ms i d here some within is h =
    last_step name ms i d some within ∙ ap (λ b. option_or (cond b (Some (get_or ms (i - 1) d).1) None) (last_under name (take (i - 1) ms))) (sym is ∙ h)

pub last_before : (name : List ℕ) (ms : List Member) (i : ℕ) (d : Member) (here : Bool) → 0 < i → i ≤ length ms → here ≡ bytes_eq (get_or ms (i - 1) d).0.now name → here ≡ false →
    last_under name (take i ms) ≡ last_under name (take (i - 1) ms)
last_before name ms i d here some within is h =
    last_step name ms i d some within ∙ ap (λ b. option_or (cond b (Some (get_or ms (i - 1) d).1) None) (last_under name (take (i - 1) ms))) (sym is ∙ h)

found_first : {A B : Type 0} (f : A → B) (last : Option A) (p : A) (before : Option B) (d : B) → f p ≡ d → option_or (option_map f last) (Some d) ≡ option_or (option_map f (option_or last (Some p))) before
found_first f None p before d e = ap Some (sym e)
found_first f (Some x) p before d e = refl

found_later : {A B : Type 0} (f : A → B) (last : Option A) (before : Option B) → option_or (option_map f last) before ≡ option_or (option_map f (option_or last None)) before
found_later f None before = refl
found_later f (Some x) before = refl

pub apart : (k name : List ℕ) → bytes_eq k name ≡ false → name ≡ k → ⊥
apart k name other same = true≢false (sym ((bytes_eq-Decides k name).1 (sym same)) ∙ other)

put_member : (name : List ℕ) (m : Member) (before : Members) (last : Option Scalar) (b : Bool) → bytes_eq m.0.now name ≡ b →
    option_or (option_map scalar_data last) (get_member name (put m.0.now (scalar_data m.1) before)) ≡ option_or (option_map scalar_data (option_or last (cond b (Some m.1) None))) (get_member name before)
put_member name m before last true e =
    let same = (bytes_eq-Decides m.0.now name).0 e in
    ap (λ k. option_or (option_map scalar_data last) (get_member k (put m.0.now (scalar_data m.1) before))) (sym same) ∙
    ap (option_or (option_map scalar_data last)) (get_member-put m.0.now (scalar_data m.1) before) ∙
    found_first scalar_data last m.1 (get_member name before) (scalar_data m.1) refl
put_member name m before last false e =
    ap (option_or (option_map scalar_data last)) (get_member-put_other name m.0.now (scalar_data m.1) before (apart m.0.now name e)) ∙
    found_later scalar_data last (get_member name before)

get_in : (name : List ℕ) (ms : List Member) (before : Members) → get_member name (put_all ms before) ≡ option_or (option_map scalar_data (last_under name ms)) (get_member name before)
get_in name [] before = refl
get_in name (m ∷ ms) before =
    get_in name ms (put m.0.now (scalar_data m.1) before) ∙ put_member name m before (last_under name ms) (bytes_eq m.0.now name) refl

or_none : {A : Type 0} (o : Option A) → option_or o None ≡ o
or_none None = refl
or_none (Some x) = refl

-- what is found under a name
pub flat_get : (name : List ℕ) (ms : List Member) → option_map scalar_data (last_under name ms) ≡ get_member name (put_all ms no_members)
flat_get name ms = sym (get_in name ms no_members ∙ or_none (option_map scalar_data (last_under name ms)))
