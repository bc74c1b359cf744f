-- Compact JSON is read as the tree that it was written for.
use Rattle.json_tokens.proofs.Common.{◌≡◌, ℕ, zero, suc, ◌≤◌, List, [], ◌∷◌, ◌++◌, Bool, true, false, Option, Some, option_map, option_and_then, Ordering, Less, Equal, Greater, refl, sym, ap, ◌∙◌, arith, append-nil, ⊤, ◌&&◌, map, nat_cmp, is_gt, slice_cmp, and_parts, false≢true, Token, tokens, tokens-print, value-json_tokens, ArePrintable-json_tokens, IsNumber-decimal, unsigned, negative, float, Data, null, boolean, number, string, array, object, Items, no_items, item, Members, no_members, member, put, of_json, of_items, of_members, read, max_depth, items_of, outline, items_outline, members_outline, compact_text, number_of-decimal, print-outline, HasSmallNumbers, ItemsHaveSmallNumbers, MembersHaveSmallNumbers}
use Rattle.json.specs.Json as json
use Rattle.json.specs.Tree as tree

-- ---- trees of whole numbers whose keys rise, and that nest no deeper than a number

abbrev pub is_below_all : List ℕ → Members → Bool
is_below_all k no_members = true
is_below_all k (member l d ms) = is_gt (slice_cmp nat_cmp l k) && is_below_all k ms

abbrev mutual
  pub is_ordered : Data → ℕ → Bool
  is_ordered null n = true
  is_ordered (boolean b) n = true
  is_ordered (number (unsigned x)) n = true
  is_ordered (number (negative z)) n = false
  is_ordered (number (float x)) n = false
  is_ordered (string s) n = true
  is_ordered (array ds) zero = false
  is_ordered (array ds) (suc n) = items_are_ordered ds n
  is_ordered (object ms) zero = false
  is_ordered (object ms) (suc n) = members_are_ordered ms n

  pub items_are_ordered : Items → ℕ → Bool
  items_are_ordered no_items n = true
  items_are_ordered (item d ds) n = is_ordered d n && items_are_ordered ds n

  pub members_are_ordered : Members → ℕ → Bool
  members_are_ordered no_members n = true
  members_are_ordered (member k d ms) n = is_below_all k ms && (is_ordered d n && members_are_ordered ms n)

-- ---- members that go in one after another

abbrev snoc : Members → List ℕ → Data → Members
snoc no_members k d = member k d no_members
snoc (member l e ms) k d = member l e (snoc ms k d)

abbrev join : Members → Members → Members
join no_members ms = ms
join (member l e ls) ms = member l e (join ls ms)

join-nil : (ls : Members) → join ls no_members ≡ ls
join-nil no_members = refl
join-nil (member l e ls) = ap (member l e) (join-nil ls)

join-snoc : (ls : Members) (k : List ℕ) (d : Data) (ms : Members) → join (snoc ls k d) ms ≡ join ls (member k d ms)
join-snoc no_members k d ms = refl
join-snoc (member l e ls) k d ms = ap (member l e) (join-snoc ls k d ms)

-- the key is above each of these
abbrev Tops : List ℕ → Members → Type 0
Tops k no_members = ⊤
Tops k (member l e ls) = (slice_cmp nat_cmp k l ≡ Greater) × Tops k ls

Tops-snoc : (k : List ℕ) (ls : Members) (l : List ℕ) (e : Data) → Tops k ls → slice_cmp nat_cmp k l ≡ Greater → Tops k (snoc ls l e)
Tops-snoc k no_members l e h g = (g, tt)
Tops-snoc k (member j f ls) l e h g = (h.0, Tops-snoc k ls l e h.1 g)

put_last : (k : List ℕ) (d : Data) (ls : Members) → Tops k ls → put k d ls ≡ snoc ls k d
put_last k d no_members h = refl
put_last k d (member l e ls) h = rw h.0 (ap (member l e) (put_last k d ls h.1))

-- each key of the second is above each of the first
abbrev AllTop : Members → Members → Type 0
AllTop ls no_members = ⊤
AllTop ls (member k d ms) = Tops k ls × AllTop ls ms

AllTop-nil : (ms : Members) → AllTop no_members ms
AllTop-nil no_members = tt
AllTop-nil (member k d ms) = (tt, AllTop-nil ms)

greater : (o : Ordering) → is_gt o ≡ true → o ≡ Greater
greater Less h = absurd (false≢true h)
greater Equal h = absurd (false≢true h)
greater Greater h = refl

AllTop-snoc : (ls : Members) (k : List ℕ) (d : Data) (ms : Members) → is_below_all k ms ≡ true → AllTop ls ms → AllTop (snoc ls k d) ms
AllTop-snoc ls k d no_members h t = tt
AllTop-snoc ls k d (member l e ms) h t =
    let p = and_parts (is_gt (slice_cmp nat_cmp l k)) (is_below_all k ms) h in
    (Tops-snoc l ls k d t.0 (greater _ p.0), AllTop-snoc ls k d ms p.1 t.1)

-- ---- the outline of a tree is read as that tree

mutual
  of_json-outline : (d : Data) (n : ℕ) → is_ordered d n ≡ true → HasSmallNumbers d → of_json (outline d) ≡ Some d
  of_json-outline null n h k = refl
  of_json-outline (boolean b) n h k = refl
  of_json-outline (number (unsigned x)) n h k = ap (option_map number) (number_of-decimal x k)
  of_json-outline (number (negative z)) n h k = absurd k
  of_json-outline (number (float x)) n h k = absurd k
  of_json-outline (string s) n h k = refl
  of_json-outline (array ds) zero h k = absurd (false≢true h)
  of_json-outline (array ds) (suc n) h k = ap (option_map array) (of_items-outline ds n h k)
  of_json-outline (object ms) zero h k = absurd (false≢true h)
  of_json-outline (object ms) (suc n) h k = ap (option_map object) (of_members-outline ms n no_members h k (AllTop-nil ms))

  of_items-outline : (ds : Items) (n : ℕ) → items_are_ordered ds n ≡ true → ItemsHaveSmallNumbers ds → of_items (items_outline ds) ≡ Some ds
  of_items-outline no_items n h k = refl
  of_items-outline (item d ds) n h k =
      let p = and_parts (is_ordered d n) (items_are_ordered ds n) h in
      ap (option_and_then (λ e. option_map (item e) (of_items (items_outline ds)))) (of_json-outline d n p.0 k.0) ∙ ap (option_map (item d)) (of_items-outline ds n p.1 k.1)

  of_members-outline : (ms : Members) (n : ℕ) (found : Members) → members_are_ordered ms n ≡ true → MembersHaveSmallNumbers ms → AllTop found ms → of_members (members_outline ms) found ≡ Some (join found ms)
  of_members-outline no_members n found h k t = ap Some (sym (join-nil found))
  of_members-outline (member key d ms) n found h k t =
      let p = and_parts (is_below_all key ms) (is_ordered d n && members_are_ordered ms n) h in
      let q = and_parts (is_ordered d n) (members_are_ordered ms n) p.1 in
      ap (option_and_then (λ e. of_members (members_outline ms) (put key e found))) (of_json-outline d n q.0 k.0)
      ∙ ap (of_members (members_outline ms)) (put_last key d found t.0)
      ∙ of_members-outline ms n (snoc found key d) q.1 k.1 (AllTop-snoc found key d ms p.0 t.1)
      ∙ ap Some (join-snoc found key d ms)

-- ---- what its text needs

mutual
  numbers-outline : (d : Data) → HasSmallNumbers d → tree.HasNumbers (outline d)
  numbers-outline null k = tt
  numbers-outline (boolean b) k = tt
  numbers-outline (number (unsigned x)) k = IsNumber-decimal x k
  numbers-outline (number (negative z)) k = absurd k
  numbers-outline (number (float x)) k = absurd k
  numbers-outline (string s) k = tt
  numbers-outline (array ds) k = items-numbers-outline ds k
  numbers-outline (object ms) k = members-numbers-outline ms k

  items-numbers-outline : (ds : Items) → ItemsHaveSmallNumbers ds → tree.ItemsHaveNumbers (items_outline ds)
  items-numbers-outline no_items k = tt
  items-numbers-outline (item d ds) k = (numbers-outline d k.0, items-numbers-outline ds k.1)

  members-numbers-outline : (ms : Members) → MembersHaveSmallNumbers ms → tree.MembersHaveNumbers (members_outline ms)
  members-numbers-outline no_members k = tt
  members-numbers-outline (member key d ms) k = (numbers-outline d k.0, members-numbers-outline ms k.1)

mutual
  depth-outline : (d : Data) (n : ℕ) → is_ordered d n ≡ true → tree.depth (outline d) ≤ n
  depth-outline null n h = omega arith
  depth-outline (boolean b) n h = omega arith
  depth-outline (number x) n h = omega arith
  depth-outline (string s) n h = omega arith
  depth-outline (array ds) zero h = absurd (false≢true h)
  depth-outline (array ds) (suc n) h = omega (arith, items-depth-outline ds n h)
  depth-outline (object ms) zero h = absurd (false≢true h)
  depth-outline (object ms) (suc n) h = omega (arith, members-depth-outline ms n h)

  items-depth-outline : (ds : Items) (n : ℕ) → items_are_ordered ds n ≡ true → tree.items_depth (items_outline ds) ≤ n
  items-depth-outline no_items n h = omega arith
  items-depth-outline (item d ds) n h =
      let p = and_parts (is_ordered d n) (items_are_ordered ds n) h in
      omega (arith, depth-outline d n p.0, items-depth-outline ds n p.1)

  members-depth-outline : (ms : Members) (n : ℕ) → members_are_ordered ms n ≡ true → tree.members_depth (members_outline ms) ≤ n
  members-depth-outline no_members n h = omega arith
  members-depth-outline (member key d ms) n h =
      let p = and_parts (is_below_all key ms) (is_ordered d n && members_are_ordered ms n) h in
      let q = and_parts (is_ordered d n) (members_are_ordered ms n) p.1 in
      omega (arith, depth-outline d n q.0, members-depth-outline ms n q.1)

abbrev pub whole_of : Option (json.Json × List Token) → Option Data
whole_of o = option_and_then of_json (option_and_then (λ p. json.if_last p.0 p.1) o)

-- the text of an ordered tree is read as that tree
pub read-compact_text : (d : Data) → is_ordered d 127 ≡ true → HasSmallNumbers d → read (compact_text d) ≡ Some d
read-compact_text d h k =
    let ts = tree.json_tokens (outline d) in
    let seen : tokens (compact_text d) ≡ ts ++ [] = ap tokens (sym (print-outline d)) ∙ tokens-print ts (ArePrintable-json_tokens (outline d) (numbers-outline d k)) ∙ sym (append-nil ts) in
    ap (λ us. whole_of (json.value max_depth us)) seen
    ∙ ap whole_of (value-json_tokens (outline d) max_depth [] (depth-outline d 127 h))
    ∙ of_json-outline d 127 h k

-- ---- lists

pub items_are_ordered-map : {X : Type 0} (shape : X → Data) (n : ℕ) → ((x : X) → is_ordered (shape x) n ≡ true) → (xs : List X) → items_are_ordered (items_of (map shape xs)) n ≡ true
items_are_ordered-map shape n h [] = refl
items_are_ordered-map shape n h (x ∷ xs) = rw (h x, items_are_ordered-map shape n h xs) refl
