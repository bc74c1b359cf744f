-- Entries by their pages.
use Rattle.std.proofs.Common.{◌≡◌, ℕ, ◌+◌, ◌-◌, ◌/◌, ◌%◌, ◌*◌, ◌<◌, ◌≤◌, List, [], ◌∷◌, ◌++◌, length, All, get_or, slice_get, zero, suc, Some, ap, sym, ◌∙◌, Vec, Global, inl, inr, arith, length-append}
use Rattle.std.specs.List.{flat_map}
use Rattle.std.specs.Vec.{vec_len}
use Rattle.std.proofs.lemmas.Bool.{cases_lt}
use Rattle.std.proofs.lemmas.Option.{slice_get_past, slice_get-get_or}
use Rattle.std.proofs.lemmas.List.{get_or_append_left, get_or-append-add}
use Rattle.std.proofs.lemmas.List.Elements.{All-head, All-tail}
use Rattle.history_pages.specs.declared.pages.Pages.TheInside.{Inside}
use Rattle.history_pages.specs.Layout.{entries_in, AreInPlace}

-- an entry of the first list is that of both
pub slice_get-left : {A : Type 0} (xs ys : List A) (i : ℕ) → i < length xs → slice_get (xs ++ ys) i ≡ slice_get xs i
slice_get-left [] ys i within = absurd (omega arith)
slice_get-left (x ∷ xs) ys i within =
    let whole : i < length ((x ∷ xs) ++ ys) = omega (arith, length-append (x ∷ xs) ys) in
    slice_get-get_or ((x ∷ xs) ++ ys) i x whole ∙ ap Some (get_or_append_left (x ∷ xs) ys x i within) ∙ sym (slice_get-get_or (x ∷ xs) i x within)

-- and those of the second come after it
pub slice_get-right : {A : Type 0} (xs ys : List A) (i : ℕ) → slice_get (xs ++ ys) (length xs + i) ≡ slice_get ys i
slice_get-right xs [] i = slice_get_past (xs ++ []) (length xs + i) (omega (arith, length-append xs []))
slice_get-right xs (y ∷ ys) i = elim (cases_lt i (length (y ∷ ys))) [
  | inl within ↦
      let whole : length xs + i < length (xs ++ y ∷ ys) = omega (arith, length-append xs (y ∷ ys)) in
      slice_get-get_or (xs ++ y ∷ ys) (length xs + i) y whole ∙ ap Some (get_or-append-add xs (y ∷ ys) i y) ∙ sym (slice_get-get_or (y ∷ ys) i y within)
  | inr past ↦
      slice_get_past (xs ++ y ∷ ys) (length xs + i) (omega (arith, length-append xs (y ∷ ys))) ∙ sym (slice_get_past (y ∷ ys) i past)
]

module _ {X A : Type 0} (f : X → List A) (n : ℕ) where
  -- every page has n entries
  abbrev pub AreFull : List X → Type 0
  AreFull pages = All (λ page. length (f page) ≡ n) pages

  -- so together they have n times as many as there are pages
  pub length-full : (pages : List X) → AreFull pages → length (flat_map f pages) ≡ length pages * n
  length-full [] full = omega arith
  length-full (p ∷ ps) full =
      let first : length (f p) ≡ n = All-head (λ page. length (f page) ≡ n) p ps full in
      let rest = length-full ps (All-tail (λ page. length (f page) ≡ n) p ps full) in
      let more : length (p ∷ ps) * n ≡ n + length ps * n = grind arith in
      length-append (f p) (flat_map f ps) ∙ (λ i. first i + rest i) ∙ sym more

  -- entry k of page j
  pub slice_get-full : (pages : List X) (j k : ℕ) (page : X) → AreFull pages → j < length pages → k < n → slice_get (flat_map f pages) (j * n + k) ≡ slice_get (f (get_or pages j page)) k
  slice_get-full [] j k page full within in_page = absurd (omega arith)
  slice_get-full (p ∷ ps) zero k page full within in_page =
      let first : length (f p) ≡ n = All-head (λ page. length (f page) ≡ n) p ps full in
      let at : 0 * n + k ≡ k = omega arith in
      ap (slice_get (f p ++ flat_map f ps)) at ∙ slice_get-left (f p) (flat_map f ps) k (omega arith)
  slice_get-full (p ∷ ps) (suc j) k page full within in_page =
      let first : length (f p) ≡ n = All-head (λ page. length (f page) ≡ n) p ps full in
      let at : suc j * n + k ≡ length (f p) + (j * n + k) = grind arith in
      ap (slice_get (f p ++ flat_map f ps)) at
      ∙ slice_get-right (f p) (flat_map f ps) (j * n + k)
      ∙ slice_get-full ps j k page (All-tail (λ page. length (f page) ≡ n) p ps full) (omega arith) in_page

module _ {T : Type 0} (p : Inside T) (kept : AreInPlace p) where
  -- how many entries the full pages have
  full_entries : length (flat_map (λ page. page.items) p.full.items) ≡ vec_len p.full * 1024
  full_entries =
      let h = length-full (λ page. page.items) 1024 p.full.items kept.full in
      h ∙ ap (λ n. n * 1024) (sym p.full.ok.0)

  -- and all of them
  pub length-entries_in : vec_len p.full * 1024 + vec_len p.current ≡ length (entries_in p)
  length-entries_in =
      let all = length-append (flat_map (λ page. page.items) p.full.items) p.current.items in
      omega (arith, full_entries, all, p.current.ok)

  -- an entry of a full page
  pub entry-full : (i : ℕ) (page : Vec T Global) → i / 1024 < vec_len p.full → slice_get (entries_in p) i ≡ slice_get (get_or p.full.items (i / 1024) page).items (i % 1024)
  entry-full i page within =
      let pages = p.full.items in
      let rest = p.current.items in
      let before : i / 1024 < length pages = omega (arith, p.full.ok) in
      let at : i ≡ i / 1024 * 1024 + i % 1024 = omega arith in
      let within_full : i < length (flat_map (λ page. page.items) pages) = omega (arith, full_entries) in
      slice_get-left (flat_map (λ page. page.items) pages) rest i within_full
      ∙ ap (slice_get (flat_map (λ page. page.items) pages)) at
      ∙ slice_get-full (λ page. page.items) 1024 pages (i / 1024) (i % 1024) page kept.full before (omega arith)

  -- an entry of the current page
  pub entry-current : (i : ℕ) → vec_len p.full ≤ i / 1024 → slice_get (entries_in p) i ≡ slice_get p.current.items (i - vec_len p.full * 1024)
  entry-current i past =
      let counted = full_entries in
      let at : i ≡ length (flat_map (λ page. page.items) p.full.items) + (i - vec_len p.full * 1024) = omega (arith, full_entries) in
      ap (slice_get (entries_in p)) at ∙ slice_get-right (flat_map (λ page. page.items) p.full.items) p.current.items (i - vec_len p.full * 1024)
