-- The tokens of an object are those of its fields.
use Rattle.json_tokens.proofs.Common.{◌≡◌, List, [], ◌∷◌, ◌++◌, refl, sym, ap, ◌∙◌, append_assoc, Token, Written, json_tokens, members_tokens, items_tokens, outline, members_outline, items_outline, Fields, members, fields, field_tokens, item_tokens, with_field_tokens, Adds, AddsData, AddsFields, Data, array, items_of, append-nil, ℕ, ◌+◌, ◌<◌, length, take, get_or, map, add-one, take-suc, map_push, print, compact_text, print-outline}

pub field_tokens-append : (fs gs : Fields) → field_tokens (fs ++ gs) ≡ field_tokens fs ++ field_tokens gs
field_tokens-append [] gs = refl
field_tokens-append (f ∷ fs) gs = ap (λ ts. Token.key f.0 ∷ ts) (ap (λ ts. json_tokens (outline f.1) ++ ts) (field_tokens-append fs gs) ∙ sym (append_assoc (json_tokens (outline f.1)) (field_tokens fs) (field_tokens gs)))

pub members_tokens-fields : (fs : Fields) → members_tokens (members_outline (members fs)) ≡ field_tokens fs ++ Token.end_object ∷ []
members_tokens-fields [] = refl
members_tokens-fields (f ∷ fs) = ap (λ ts. Token.key f.0 ∷ ts) (ap (λ ts. json_tokens (outline f.1) ++ ts) (members_tokens-fields fs) ∙ sym (append_assoc (json_tokens (outline f.1)) (field_tokens fs) (Token.end_object ∷ [])))

pub with_field_tokens-append : (ts : List Token) (fs gs : Fields) → with_field_tokens ts (fs ++ gs) ≡ with_field_tokens (with_field_tokens ts fs) gs
with_field_tokens-append ts [] gs = refl
with_field_tokens-append ts (f ∷ fs) gs = with_field_tokens-append (ts ++ Token.key f.0 ∷ json_tokens (outline f.1)) fs gs

pub with_field_tokens-field_tokens : (ts : List Token) (fs : Fields) → with_field_tokens ts fs ≡ ts ++ field_tokens fs
with_field_tokens-field_tokens ts [] = sym (append-nil ts)
with_field_tokens-field_tokens ts (f ∷ fs) = with_field_tokens-field_tokens (ts ++ Token.key f.0 ∷ json_tokens (outline f.1)) fs ∙ simp append_assoc

-- some fields, and then more
pub adds_more : (a b c : Written) (fs gs : Fields) → AddsFields a b fs → AddsFields b c gs → AddsFields a c (fs ++ gs)
adds_more a b c fs gs p q = q ∙ ap (λ ts. with_field_tokens ts gs) p ∙ sym (with_field_tokens-append a.tokens fs gs)

-- fields between brackets
pub adds_object : (a b c d : Written) (fs : Fields) → Adds a b (Token.begin_object ∷ []) → AddsFields b c fs → Adds c d (Token.end_object ∷ []) → AddsData a d (fields fs)
adds_object a b c d fs p q r =
    r ∙ ap (λ ts. ts ++ Token.end_object ∷ []) (q ∙ with_field_tokens-field_tokens b.tokens fs ∙ ap (λ ts. ts ++ field_tokens fs) p)
    ∙ rw members_tokens-fields (simp append_assoc)

-- the text of a value behind what stood before
pub text_after : (d : Data) (whole before : List ℕ) (old : List ℕ) (tokens : List Token) → whole ≡ before ++ print tokens → before ≡ old → tokens ≡ json_tokens (outline d) → whole ≡ old ++ compact_text d
text_after d whole before old tokens made same is = made ∙ rw (same, is) (ap (λ t. old ++ t) (print-outline d))

-- ---- lists

pub item_tokens-append : (ds es : List Data) → item_tokens (ds ++ es) ≡ item_tokens ds ++ item_tokens es
item_tokens-append [] es = refl
item_tokens-append (d ∷ ds) es = ap (λ ts. json_tokens (outline d) ++ ts) (item_tokens-append ds es) ∙ sym (append_assoc (json_tokens (outline d)) (item_tokens ds) (item_tokens es))

pub items_tokens-items : (ds : List Data) → items_tokens (items_outline (items_of ds)) ≡ item_tokens ds ++ Token.end_array ∷ []
items_tokens-items [] = refl
items_tokens-items (d ∷ ds) = ap (λ ts. json_tokens (outline d) ++ ts) (items_tokens-items ds) ∙ sym (append_assoc (json_tokens (outline d)) (item_tokens ds) (Token.end_array ∷ []))

-- items between brackets
pub adds_array : (a b c d : Written) (ds : List Data) → Adds a b (Token.begin_array ∷ []) → Adds b c (item_tokens ds) → Adds c d (Token.end_array ∷ []) → AddsData a d (array (items_of ds))
adds_array a b c d ds p q r =
    r ∙ ap (λ ts. ts ++ Token.end_array ∷ []) (q ∙ ap (λ ts. ts ++ item_tokens ds) p)
    ∙ rw items_tokens-items (simp append_assoc)

-- some items, and then one more
pub adds_item : (a b c : Written) (ds : List Data) (d : Data) → Adds a b (item_tokens ds) → AddsData b c d → Adds a c (item_tokens (ds ++ d ∷ []))
adds_item a b c ds d p q =
    q ∙ ap (λ ts. ts ++ json_tokens (outline d)) p ∙ append_assoc a.tokens (item_tokens ds) (json_tokens (outline d)) ∙ rw (item_tokens-append, append-nil) refl

-- one item more
pub taken : {X : Type 0} (shape : X → Data) (xs : List X) (i : ℕ) (x : X) → i < length xs → x ≡ get_or xs i x → map shape (take (i + 1) xs) ≡ map shape (take i xs) ++ shape x ∷ []
taken {X} shape xs i x lt is =
    let longer : take (i + 1) xs ≡ take i xs ++ x ∷ [] = rw add-one (take-suc xs i x lt ∙ ap (λ (y : X). take i xs ++ y ∷ []) (sym is)) in
    ap (map shape) longer ∙ map_push shape (take i xs) x
