-- A text is read as the data of its tape, if its tokens are simple.
use Rattle.json_tokens.proofs.Common.{◌≡◌, ℕ, ◌+◌, ◌-◌, ◌<◌, ◌≤◌, true, List, [], ◌∷◌, ◌++◌, map, length, drop, get_or, Option, Some, None, IsSome, is_some, option_map, option_and_then, unwrap_or, refl, sym, ap, subst, ◌∙◌, arith, append-nil, append_assoc, true≢false, drop_more, drop_all, Token, BeginsWith, InItems, tokens, node_token, Node, not_found, items_close, items_go_on, closed_array, value-depth, value-json_tokens, value-json_tokens_back, tokens-document, Data, null, boolean, number, unsigned, string, array, object, Items, no_items, item, Members, no_members, put, as_array, of_json, of_items, of_members, read, max_depth, first_data, first_items, tape_data, IsSimpleAt}
use Rattle.json.specs.Token as token
use Rattle.json.specs.Json as json
use Rattle.json.specs.Tree as tree
use Rattle.json_tokens.proofs.ReadLemmas.{whole_of}

-- ---- what tokens begin with

-- the tokens of a value, and any others
pub first_spelt : (ts rest : List Token) (j : json.Json) (d : Data) → ts ≡ tree.json_tokens j ++ rest → tree.depth j ≤ max_depth → of_json j ≡ Some d → first_data ts ≡ Some d
unfolding first_data
first_spelt ts rest j d is shallow h =
    ap (λ us. option_and_then (λ (p : json.Json × List Token). of_json p.0) (json.value max_depth us)) is
    ∙ ap (option_and_then (λ (p : json.Json × List Token). of_json p.0)) (value-json_tokens j max_depth rest shallow)
    ∙ h

-- the tokens begin with the value, which is read as the data
abbrev pub Stands : List Token → json.Json → Data → Type 0
Stands ts j d = BeginsWith ts j × (of_json j ≡ Some d) × (tree.depth j ≤ max_depth)

pub stands_first : (ts : List Token) (j : json.Json) (d : Data) → Stands ts j d → first_data ts ≡ Some d
stands_first ts j d s = first_spelt ts s.0.1 j d (value-json_tokens_back s.0.0 ts s.0.1 j s.0.2) s.2 s.1

stands_at : (ts : List Token) (o : Option (json.Json × List Token)) (d : Data) → json.value max_depth ts ≡ o → option_and_then (λ p. of_json p.0) o ≡ Some d → (j : json.Json) × Stands ts j d
stands_at ts None d e h = not_found d h
stands_at ts (Some (j, r)) d e h = (j, ((max_depth, r, e), h, value-depth max_depth ts r j e))

pub stands : (ts : List Token) (d : Data) → first_data ts ≡ Some d → (j : json.Json) × Stands ts j d
unfolding first_data
stands ts d h = stands_at ts (json.value max_depth ts) d refl h

-- what is there
pub there : {A : Type 0} (o : Option A) (a : A) → is_some o ≡ true → o ≡ Some (unwrap_or o a)
there None a h = absurd (true≢false (sym h))
there (Some b) a h = refl

-- ---- items

abbrev head_or_null : json.Items → json.Json
head_or_null json.no_items = json.null
head_or_null (json.item j js) = j

abbrev tail_or_none : json.Items → json.Items
tail_or_none json.no_items = json.no_items
tail_or_none (json.item j js) = js

abbrev Spells : List Token → json.Items → Type 0
Spells ts js = (rest : List Token) × (ts ≡ tree.items_tokens js ++ rest)

-- items that tokens begin with are spelt by these
spelt_items : (js : json.Items) (ts : List Token) (o : Option (List Token)) → json.after_end_array ts ≡ o → InItems ts js → Spells ts js
spelt_items json.no_items ts (Some r) e h = (r, closed_array ts r e)
spelt_items json.no_items ts None e h = let f = items_go_on ts json.no_items e h in let never : json.no_items ≡ json.item f.1 f.3 = f.5 in absurd (cc)
spelt_items (json.item j js) ts (Some r) e h =
    let never : json.item j js ≡ json.no_items = items_close r (json.item j js) (subst (λ us. InItems us (json.item j js)) (closed_array ts r e) h) in absurd (cc)
spelt_items (json.item j js) ts None e h =
    let f = items_go_on ts (json.item j js) e h in
    let first : ts ≡ tree.json_tokens j ++ f.2 = value-json_tokens_back f.0 ts f.2 f.1 f.4 ∙ ap (λ i. tree.json_tokens i ++ f.2) (sym (ap head_or_null f.5)) in
    let more = spelt_items js f.2 (json.after_end_array f.2) refl (subst (InItems f.2) (sym (ap tail_or_none f.5)) f.6) in
    (more.0, first ∙ ap (λ us. tree.json_tokens j ++ us) more.1 ∙ sym (append_assoc (tree.json_tokens j) (tree.items_tokens js) more.0))

pub items_first : (ts : List Token) (js : json.Items) (ds : Items) → InItems ts js → of_items js ≡ Some ds → tree.depth (json.array js) ≤ max_depth → first_items ts ≡ Some ds
items_first ts js ds inside h shallow =
    let spelt = spelt_items js ts (json.after_end_array ts) refl inside in
    ap (option_and_then as_array) (first_spelt (token.begin_array ∷ ts) spelt.0 (json.array js) (array ds) (ap (λ us. token.begin_array ∷ us) spelt.1) shallow (ap (option_map array) h))

-- ---- simple tokens

-- at the token that comes next, what was said of those before it
pub simple_so_far : (ns : List Node) (i : ℕ) (n : Node) (depth next : ℕ) → i < length ns → ((ts : List Token) → IsSimpleAt next ts → IsSimpleAt depth (node_token (get_or ns i n) ∷ ts)) →
    (IsSimpleAt depth (map node_token (drop i ns)) → IsSimpleAt 0 (map node_token ns)) → IsSimpleAt next (map node_token (drop (i + 1) ns)) → IsSimpleAt 0 (map node_token ns)
simple_so_far ns i n depth next lt goes before h =
    before (subst (λ (ms : List Node). IsSimpleAt depth (map node_token ms)) (sym (drop_more ns i n lt)) (goes (map node_token (drop (i + 1) ns)) h))

pub all_simple : (ns : List Node) (i depth : ℕ) → length ns ≤ i → (IsSimpleAt depth (map node_token (drop i ns)) → IsSimpleAt 0 (map node_token ns)) → IsSimpleAt 0 (map node_token ns)
all_simple ns i depth past before = before (subst (λ (ms : List Node). IsSimpleAt depth (map node_token ms)) (sym (drop_all i ns past)) tt)

closed : (d : ℕ) → d + 1 - 1 ≡ d
closed d = omega arith

mutual
  -- a value of simple tokens is read, and is not too deep
  simple_value : (j : json.Json) (d : ℕ) (rest : List Token) → d ≤ max_depth → IsSimpleAt d (tree.json_tokens j ++ rest) → (e : Data) × (of_json j ≡ Some e) × (d + tree.depth j ≤ max_depth) × IsSimpleAt d rest
  simple_value json.null d rest le h = (null, refl, omega arith, h)
  simple_value (json.boolean b) d rest le h = (boolean b, refl, omega arith, h)
  simple_value (json.number s) d rest le h = (number (unsigned h.0.0), ap (option_map number) h.0.1, omega arith, h.1)
  simple_value (json.string s) d rest le h = (string s, refl, omega arith, h)
  simple_value (json.array js) d rest le h = let r = simple_items js d rest h.0 h.1 in (array r.0, ap (option_map array) r.1, omega (arith, r.2), r.3)
  simple_value (json.object ms) d rest le h = let r = simple_members ms no_members d rest h.0 h.1 in (object r.0, ap (option_map object) r.1, omega (arith, r.2), r.3)

  simple_items : (js : json.Items) (d : ℕ) (rest : List Token) → d < max_depth → IsSimpleAt (d + 1) (tree.items_tokens js ++ rest) →
      (ds : Items) × (of_items js ≡ Some ds) × (d + 1 + tree.items_depth js ≤ max_depth) × IsSimpleAt d rest
  simple_items json.no_items d rest lt h = (no_items, refl, omega arith, subst (λ n. IsSimpleAt n rest) (closed d) h)
  simple_items (json.item j js) d rest lt h =
      let first = simple_value j (d + 1) (tree.items_tokens js ++ rest) (omega arith) (subst (IsSimpleAt (d + 1)) (append_assoc (tree.json_tokens j) (tree.items_tokens js) rest) h) in
      let others = simple_items js d rest lt first.3 in
      (item first.0 others.0, ap (option_and_then (λ e. option_map (item e) (of_items js))) first.1 ∙ ap (option_map (item first.0)) others.1, omega (arith, first.2, others.2), others.3)

  simple_members : (ms : json.Members) (before : Members) (d : ℕ) (rest : List Token) → d < max_depth → IsSimpleAt (d + 1) (tree.members_tokens ms ++ rest) →
      (es : Members) × (of_members ms before ≡ Some es) × (d + 1 + tree.members_depth ms ≤ max_depth) × IsSimpleAt d rest
  simple_members json.no_members before d rest lt h = (before, refl, omega arith, subst (λ n. IsSimpleAt n rest) (closed d) h)
  simple_members (json.member k j ms) before d rest lt h =
      let first = simple_value j (d + 1) (tree.members_tokens ms ++ rest) (omega arith) (subst (IsSimpleAt (d + 1)) (append_assoc (tree.json_tokens j) (tree.members_tokens ms) rest) h) in
      let others = simple_members ms (put k first.0 before) d rest lt first.3 in
      (others.0, ap (option_and_then (λ e. of_members ms (put k e before))) first.1 ∙ others.1, omega (arith, first.2, others.2), others.3)

-- ---- the whole text

abbrev pub IsTaped : List ℕ → List Token → Type 0
IsTaped text ts = (is_some (first_data ts) ≡ true) × (read text ≡ Some (tape_data ts))

taped_at : (text : List ℕ) (ts : List Token) (o : Option json.Json) → json.document text ≡ o → IsSome o → ts ≡ tokens text → IsSimpleAt 0 ts → IsTaped text ts
taped_at text ts None e some is simple = absurd (true≢false (sym some))
taped_at text ts (Some j) e some is simple =
    let spelt : ts ≡ tree.json_tokens j ++ [] = is ∙ tokens-document text j e ∙ sym (append-nil (tree.json_tokens j)) in
    let d = simple_value j 0 [] (omega arith) (subst (IsSimpleAt 0) spelt simple) in
    let shallow : tree.depth j ≤ max_depth = omega (arith, d.2) in
    let first = first_spelt ts [] j d.0 spelt shallow d.1 in
    let said = ap (λ us. whole_of (json.value max_depth us)) (sym is ∙ spelt) ∙ ap whole_of (value-json_tokens j max_depth [] shallow) ∙ d.1 in
    (ap is_some first, said ∙ ap (λ o. Some (unwrap_or o null)) (sym first))

pub taped : (text : List ℕ) (ts : List Token) → ts ≡ tokens text → IsSome (json.document text) → IsSimpleAt 0 ts → IsTaped text ts
taped text ts is some simple = taped_at text ts (json.document text) refl some is simple
