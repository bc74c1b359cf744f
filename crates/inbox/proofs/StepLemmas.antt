-- Each step of a pass keeps the rule of the inbox.
use Rattle.inbox.proofs.Common.{◌≡◌, ◌≢◌, ◌⊎◌, ⊎_elim, inl, inr, ℕ, zero, suc, ◌+◌, ◌-◌, ◌<◌, ◌≤◌, List, [], ◌∷◌, ◌++◌, map, length, get_or, set, Some, None, refl, sym, ap, ◌∙◌, subst, arith, length-append, length-set, append_assoc, lt_of_not-le, map-append, get_or-set_same, get_or-set_other, get_or_append_left, get_or-append_right, Pushes, Pops, Forks, Merges, Learns, at_set, Job, PassJobs, PassView, items_of_label, Interleaves, IsKept, ALL_PARTS, pass_jobs, pass_view, times, total, jobs_of_label, ShowsRow, IsShared, IsClosed, KeepsRule, put_lists, taken_lists, CanHold, add_put, add_taken, own_put, own_taken, IsOnePass}
use mathlib.Core.Option.{some, some-ne-none, some-injective}
use mathlib.Core.Logic.{dite}
use native.Mathlib.Decide.{ℕ_discrete, dec_le}
use lib.ListN.{get_elem?}
use Rattle.inbox.proofs.ListLemmas.{items_of_label-same, items_of_label-other, items_of_label-none, below-snoc, below-more, times-append, times-one, times-other, total-append, total_set, total_put, total_both, total_get, total_two, total_alone, row_one, row_none, row_same, interleaves_row}

abbrev parts_of : PassView → ℕ
parts_of v = v.parts

-- a place of the list is within it
within : {A : Type 0} (l : List A) (i : ℕ) (v : A) → get_elem? l i ≡ some v → i < length l
within [] i v at = absurd (some-ne-none v (sym at))
within (x ∷ xs) zero v at = omega arith
within (x ∷ xs) (suc i) v at = let h = within xs i v at in omega (arith, h)

-- a pass with some part that knows no content shares the queue
shares : (items : List Job) (views : List PassView) (number : ℕ) (v : PassView) → KeepsRule items views → get_elem? views number ≡ some v → 0 < v.parts → v.content ≡ None → IsShared items views
shares items views number v kept at some_part unknown = ⊎_elim (λ s. s) (λ (s : IsClosed items views). absurd (dite (ℕ_discrete s.0 number)
    (λ e. let same : s.1 ≡ v = some-injective s.1 v (sym s.2 ∙ (ap (λ i. get_elem? views i) e ∙ at)) in let content : s.1.content ≡ None = ap (λ (u : PassView). u.content) same ∙ unknown in cc)
    (λ ne. let two = total_both parts_of views s.0 number s.1 v s.2 at ne in let whole = s.3 in omega (arith, two, whole, kept.0, some_part)))) kept.1

-- the view of one pass is replaced
shows_set : (F : ℕ → PassView → Type 0) (views : List PassView) (number : ℕ) (w : PassView) → F number w → ((j : ℕ) (u : PassView) → j ≢ number → get_elem? views j ≡ some u → F j u) → (j : ℕ) (u : PassView) → get_elem? (set views number w) j ≡ some u → F j u
shows_set F views number w mine others j u e = ⊎_elim (λ (x : (j ≡ number) × (w ≡ u)). subst (λ (y : ℕ × PassView). F y.0 y.1) (λ i. (sym x.0 i, x.1 i)) mine)
    (λ (x : (j ≢ number) × (get_elem? views j ≡ some u)). others j u x.0 x.1) (at_set views number j w u e)

-- what the pass of this number shows
abbrev Shows : List Job → List Job → List ℕ → List ℕ → List (List ℕ) → ℕ → PassView → Type 0
Shows put taken put_labels taken_labels rows number v = ShowsRow put taken put_labels taken_labels (get_or rows number []) v

-- two rows have no label in common
apart : (rows : List (List ℕ)) (label_count i j a : ℕ) → ((a : ℕ) → (a < label_count → total (times a) rows ≡ 1) × (label_count ≤ a → total (times a) rows ≡ 0)) → i ≢ j → get_or rows i [] ≡ a ∷ [] → times a (get_or rows j []) ≡ 0
apart rows label_count i j a once ne row =
    let two = total_two (times a) rows i j [] refl ne in
    let mine : times a (get_or rows i []) ≡ 1 = ap (times a) row ∙ times-one a in
    dite (dec_le label_count a) (λ le. let o = (once a).1 le in absurd (omega (arith, o, two, mine))) (λ nle. let o = (once a).0 (lt_of_not-le nle) in omega (arith, o, two, mine))

label_is_below : (rows : List (List ℕ)) (label_count i a : ℕ) → ((a : ℕ) → (a < label_count → total (times a) rows ≡ 1) × (label_count ≤ a → total (times a) rows ≡ 0)) → get_or rows i [] ≡ a ∷ [] → a < label_count
label_is_below rows label_count i a once row =
    let one = total_get (times a) rows i [] refl in
    let mine : times a (get_or rows i []) ≡ 1 = ap (times a) row ∙ times-one a in
    dite (dec_le label_count a) (λ le. let o = (once a).1 le in absurd (omega (arith, o, one, mine))) (λ nle. lt_of_not-le nle)

-- a job joins at the back
pub puts : (n number parts : ℕ) (put taken : List Job) (x : Job) → 0 < parts
    → Pushes KeepsRule n number (pass_view parts (pass_jobs put taken ∷ []) None) x (λ w. w ≡ pass_view parts (pass_jobs (put ++ x ∷ []) taken ∷ []) None)
puts n number parts put taken x some_part items views room kept at =
    let v = pass_view parts (pass_jobs put taken ∷ []) None in
    let w = pass_view parts (pass_jobs (put ++ x ∷ []) taken ∷ []) None in
    let s = shares items views number v kept at some_part refl in
    let row = row_one (jobs_of_label s.put_labels s.put s.taken_labels s.taken) (get_or s.rows number []) (pass_jobs put taken) (s.shows number v at).2 in
    let a = row.0 in
    let put_labels = s.put_labels ++ a ∷ [] in
    let all = s.put ++ x ∷ [] in
    let mine : pass_jobs (put ++ x ∷ []) taken ≡ jobs_of_label put_labels all s.taken_labels s.taken a = ap (λ (l : PassJobs). pass_jobs (l.put ++ x ∷ []) l.taken) row.2 ∙ ap (λ l. pass_jobs l (items_of_label a s.taken_labels s.taken)) (sym (items_of_label-same a s.put_labels s.put x s.put_fits)) in
    let sum = total_set parts_of views number v w at in (
      w,
      (
        omega (arith, sum, kept.0),
        inl (record {
          put = all;
          taken = s.taken;
          put_labels = put_labels;
          taken_labels = s.taken_labels;
          rows = s.rows;
          label_count = s.label_count;
          order = ap (λ l. l ++ x ∷ []) s.order ∙ append_assoc s.taken items (x ∷ []);
          put_fits = (let f = s.put_fits in omega (arith, f, length-append s.put_labels (a ∷ []), length-append s.put (x ∷ [])));
          taken_fits = s.taken_fits;
          put_below = below-snoc s.label_count a s.put_labels s.put_below (label_is_below s.rows s.label_count number a s.once row.1);
          taken_below = s.taken_below;
          row_count = s.row_count ∙ sym (length-set views number w);
          once = s.once;
          shows = shows_set (Shows all s.taken put_labels s.taken_labels s.rows) views number w
              (refl, (λ none. absurd (omega arith)), ap (λ l. l ∷ []) mine ∙ ap (map (jobs_of_label put_labels all s.taken_labels s.taken)) (sym row.1))
              (λ j u ne there. let h = s.shows j u there in (
                h.0,
                h.1,
                h.2 ∙ row_same (jobs_of_label s.put_labels s.put s.taken_labels s.taken) (jobs_of_label put_labels all s.taken_labels s.taken) a (get_or s.rows j [])
                    (apart s.rows s.label_count number j a s.once (λ e. ne (sym e)) row.1)
                    (λ b differs. ap (λ l. pass_jobs l (items_of_label b s.taken_labels s.taken)) (sym (items_of_label-other b s.put_labels s.put a x s.put_fits differs))),
              ));
        }),
      ),
      refl,
    )

-- a job leaves at the front
pub takes : (number parts : ℕ) (put taken : List Job) → 0 < parts
    → Pops KeepsRule number (pass_view parts (pass_jobs put taken ∷ []) None) (λ x w. w ≡ pass_view parts (pass_jobs put (taken ++ x ∷ []) ∷ []) None)
takes number parts put taken some_part x items views kept at =
    let v = pass_view parts (pass_jobs put taken ∷ []) None in
    let w = pass_view parts (pass_jobs put (taken ++ x ∷ []) ∷ []) None in
    let s = shares (x ∷ items) views number v kept at some_part refl in
    let row = row_one (jobs_of_label s.put_labels s.put s.taken_labels s.taken) (get_or s.rows number []) (pass_jobs put taken) (s.shows number v at).2 in
    let a = row.0 in
    let taken_labels = s.taken_labels ++ a ∷ [] in
    let gone = s.taken ++ x ∷ [] in
    let mine : pass_jobs put (taken ++ x ∷ []) ≡ jobs_of_label s.put_labels s.put taken_labels gone a = ap (λ (l : PassJobs). pass_jobs l.put (l.taken ++ x ∷ [])) row.2 ∙ ap (λ l. pass_jobs (items_of_label a s.put_labels s.put) l) (sym (items_of_label-same a s.taken_labels s.taken x s.taken_fits)) in
    let sum = total_set parts_of views number v w at in (
      w,
      (
        omega (arith, sum, kept.0),
        inl (record {
          put = s.put;
          taken = gone;
          put_labels = s.put_labels;
          taken_labels = taken_labels;
          rows = s.rows;
          label_count = s.label_count;
          order = s.order ∙ sym (append_assoc s.taken (x ∷ []) items);
          put_fits = s.put_fits;
          taken_fits = (let f = s.taken_fits in omega (arith, f, length-append s.taken_labels (a ∷ []), length-append s.taken (x ∷ [])));
          put_below = s.put_below;
          taken_below = below-snoc s.label_count a s.taken_labels s.taken_below (label_is_below s.rows s.label_count number a s.once row.1);
          row_count = s.row_count ∙ sym (length-set views number w);
          once = s.once;
          shows = shows_set (Shows s.put gone s.put_labels taken_labels s.rows) views number w
              (refl, (λ none. absurd (omega arith)), ap (λ l. l ∷ []) mine ∙ ap (map (jobs_of_label s.put_labels s.put taken_labels gone)) (sym row.1))
              (λ j u ne there. let h = s.shows j u there in (
                h.0,
                h.1,
                h.2 ∙ row_same (jobs_of_label s.put_labels s.put s.taken_labels s.taken) (jobs_of_label s.put_labels s.put taken_labels gone) a (get_or s.rows j [])
                    (apart s.rows s.label_count number j a s.once (λ e. ne (sym e)) row.1)
                    (λ b differs. ap (λ l. pass_jobs (items_of_label b s.put_labels s.put) l) (sym (items_of_label-other b s.taken_labels s.taken a x s.taken_fits differs))),
              ));
        }),
      ),
      refl,
    )

-- the first pass
pub begins : KeepsRule [] (pass_view ALL_PARTS (pass_jobs [] [] ∷ []) None ∷ [])
begins = (
  refl,
  inl (record {
    put = [];
    taken = [];
    put_labels = [];
    taken_labels = [];
    rows = (0 ∷ []) ∷ [];
    label_count = 1;
    order = refl;
    put_fits = refl;
    taken_fits = refl;
    put_below = tt;
    taken_below = tt;
    row_count = refl;
    once = λ a. ((λ lt. let e : 0 ≡ a = omega arith in let h = times-one a in subst (λ n. times a (n ∷ []) + 0 ≡ 1) (sym e) (omega (arith, h))), λ le. let h = times-other a 0 (λ e. absurd (omega arith)) in omega (arith, h));
    shows = shows_one;
  }),
)
  where
    shows_one : (number : ℕ) (v : PassView) → get_elem? (pass_view ALL_PARTS (pass_jobs [] [] ∷ []) None ∷ []) number ≡ some v → Shows [] [] [] [] ((0 ∷ []) ∷ []) number v
    shows_one zero v e = subst (Shows [] [] [] [] ((0 ∷ []) ∷ []) 0) (some-injective _ _ e) (refl, (λ none. absurd (omega arith)), refl)
    shows_one (suc number) v e = absurd (some-ne-none v (sym e))

-- the last of a list
at_end : (l : List PassView) (a b : PassView) (j : ℕ) → get_elem? (l ++ a ∷ []) j ≡ some b → ((get_elem? l j ≡ some b) × (j < length l)) ⊎ ((a ≡ b) × (j ≡ length l))
at_end [] a b zero e = inr (some-injective a b e, refl)
at_end [] a b (suc j) e = absurd (some-ne-none b (sym e))
at_end (x ∷ xs) a b zero e = inl (e, omega arith)
at_end (x ∷ xs) a b (suc j) e = ⊎_elim (λ t. inl (t.0, let l = t.1 in omega (arith, l))) (λ t. inr (t.0, let l = t.1 in omega (arith, l))) (at_end xs a b j e)

-- a pass that put and took nothing is split off
pub forks : (number parts : ℕ) (passes : List PassJobs) → 1 < parts → Forks KeepsRule number (pass_view parts passes None) (pass_view (parts - 1) passes None) (pass_view 1 (pass_jobs [] [] ∷ []) None)
forks number parts passes two items views kept at =
    let v = pass_view parts passes None in
    let w = pass_view (parts - 1) passes None in
    let new = pass_view 1 (pass_jobs [] [] ∷ []) None in
    let s = shares items views number v kept at (omega arith) refl in
    let rows = s.rows ++ (s.label_count ∷ []) ∷ [] in
    let sum = total_set parts_of views number v w at in
    let vs = set views number w in
    let many : length vs ≡ length s.rows = length-set views number w ∙ sym s.row_count in
    let old : (j : ℕ) (u : PassView) → get_elem? vs j ≡ some u → Shows s.put s.taken s.put_labels s.taken_labels s.rows j u = shows_set (Shows s.put s.taken s.put_labels s.taken_labels s.rows) views number w (refl, (λ none. absurd (omega arith)), (s.shows number v at).2) (λ j u ne there. s.shows j u there) in (
      omega (arith, sum, kept.0, total-append parts_of vs (new ∷ [])),
      inl (record {
        put = s.put;
        taken = s.taken;
        put_labels = s.put_labels;
        taken_labels = s.taken_labels;
        rows = rows;
        label_count = s.label_count + 1;
        order = s.order;
        put_fits = s.put_fits;
        taken_fits = s.taken_fits;
        put_below = below-more s.label_count s.put_labels s.put_below;
        taken_below = below-more s.label_count s.taken_labels s.taken_below;
        row_count = (let r = s.row_count in omega (arith, r, length-append s.rows ((s.label_count ∷ []) ∷ []), length-append vs (new ∷ []), length-set views number w));
        once = λ a. let grown = total-append (times a) s.rows ((s.label_count ∷ []) ∷ []) in dite (ℕ_discrete s.label_count a)
            (λ e. let here : times a (s.label_count ∷ []) ≡ 1 = subst (λ n. times a (n ∷ []) ≡ 1) (sym e) (times-one a) in let none = (s.once a).1 (omega (arith, e)) in ((λ lt. omega (arith, grown, here, none)), λ le. absurd (omega (arith, e, le))))
            (λ ne. let here = times-other a s.label_count ne in ((λ lt. let o = (s.once a).0 (omega (arith, ne, lt)) in omega (arith, grown, here, o)), λ le. let o = (s.once a).1 (omega (arith, le)) in omega (arith, grown, here, o)));
        shows = λ j u there. ⊎_elim
            (λ (x : (get_elem? vs j ≡ some u) × (j < length vs)). let h = old j u x.0 in let lt : j < length s.rows = (let l = x.1 in omega (arith, l, many)) in (h.0, h.1, h.2 ∙ ap (map (jobs_of_label s.put_labels s.put s.taken_labels s.taken)) (sym (get_or_append_left s.rows ((s.label_count ∷ []) ∷ []) [] j lt))))
            (λ (x : (new ≡ u) × (j ≡ length vs)). subst (Shows s.put s.taken s.put_labels s.taken_labels rows j) x.0 (
              refl,
              (λ none. absurd (omega arith)),
              (let row : get_or rows j [] ≡ s.label_count ∷ [] = (let e = x.1 in get_or-append_right s.rows ((s.label_count ∷ []) ∷ []) (length s.rows) j [] refl (omega (arith, e, many)) ∙ ap (λ i. get_or ((s.label_count ∷ []) ∷ []) i []) (let z : j - length s.rows ≡ 0 = omega (arith, e, many) in z)) in
                  let p = items_of_label-none s.label_count s.label_count s.put_labels s.put s.put_below (omega arith) in let t = items_of_label-none s.label_count s.label_count s.taken_labels s.taken s.taken_below (omega arith) in
                  ap (λ l. pass_jobs l [] ∷ []) (sym p) ∙ (ap (λ l. pass_jobs (items_of_label s.label_count s.put_labels s.put) l ∷ []) (sym t) ∙ ap (map (jobs_of_label s.put_labels s.put s.taken_labels s.taken)) (sym row))),
            ))
            (at_end vs new u j there);
      }),
    )

-- two passes become one
pub merges : (number other parts others : ℕ) (passes theirs : List PassJobs) → 0 < parts → 0 < others
    → Merges KeepsRule number (pass_view parts passes None) other (pass_view others theirs None) (pass_view (parts + others) (passes ++ theirs) None) (pass_view 0 [] None)
merges number other parts others passes theirs mine_part their_part items views kept at two at' =
    let v = pass_view parts passes None in
    let u = pass_view others theirs None in
    let both = pass_view (parts + others) (passes ++ theirs) None in
    let spent = pass_view 0 [] None in
    let vs = set views number both in
    let was : get_elem? views other ≡ some u = ⊎_elim (λ (x : (other ≡ number) × (both ≡ u)). absurd (two x.0)) (λ (x : (other ≢ number) × (get_elem? views other ≡ some u)). x.1) (at_set views number other both u at') in
    let s = shares items views number v kept at mine_part refl in
    let rp = get_or s.rows number [] in
    let ro = get_or s.rows other [] in
    let rows1 = set s.rows number (rp ++ ro) in
    let rows = set rows1 other [] in
    let f = jobs_of_label s.put_labels s.put s.taken_labels s.taken in
    let inp : number < length s.rows = (let h = within views number v at in let r = s.row_count in omega (arith, h, r)) in
    let ino : other < length rows1 = (let h = within views other u was in let r = s.row_count in omega (arith, h, r, length-set s.rows number (rp ++ ro))) in
    let row_other : get_or rows1 other [] ≡ ro = get_or-set_other s.rows number other (rp ++ ro) [] two in
    let first = total_set parts_of views number v both at in
    let second = total_set parts_of vs other u spent at' in
    let joined : passes ++ theirs ≡ map f (rp ++ ro) = ap (λ l. l ++ theirs) (s.shows number v at).2 ∙ (ap (λ l. map f rp ++ l) (s.shows other u was).2 ∙ sym (map-append f rp ro)) in (
      omega (arith, first, second, kept.0),
      inl (record {
        put = s.put;
        taken = s.taken;
        put_labels = s.put_labels;
        taken_labels = s.taken_labels;
        rows = rows;
        label_count = s.label_count;
        order = s.order;
        put_fits = s.put_fits;
        taken_fits = s.taken_fits;
        put_below = s.put_below;
        taken_below = s.taken_below;
        row_count = (let r = s.row_count in omega (arith, r, length-set rows1 other [], length-set s.rows number (rp ++ ro), length-set vs other spent, length-set views number both));
        once = λ a.
            let p1 = total_put (times a) s.rows number (rp ++ ro) [] inp in
            let p2 = total_put (times a) rows1 other [] [] ino in
            let sum = times-append a rp ro in
            let e = ap (times a) row_other in
            ((λ lt. let o = (s.once a).0 lt in omega (arith, p1, p2, sum, e, o)), λ le. let o = (s.once a).1 le in omega (arith, p1, p2, sum, e, o));
        shows = shows_set (Shows s.put s.taken s.put_labels s.taken_labels rows) vs other spent
            (refl, (λ _. refl), ap (map f) (sym (get_or-set_same rows1 other [] [] ino)))
            (λ j y ne there. ⊎_elim
            (λ (x : (j ≡ number) × (both ≡ y)).
            let row : get_or rows j [] ≡ rp ++ ro = get_or-set_other rows1 other j [] [] ne ∙ (ap (λ i. get_or rows1 i []) x.0 ∙ get_or-set_same s.rows number (rp ++ ro) [] inp) in
            subst (Shows s.put s.taken s.put_labels s.taken_labels rows j) x.1 (refl, (λ none. absurd (omega arith)), joined ∙ ap (map f) (sym row)))
            (λ (x : (j ≢ number) × (get_elem? views j ≡ some y)).
            let row : get_or rows j [] ≡ get_or s.rows j [] = get_or-set_other rows1 other j [] [] ne ∙ get_or-set_other s.rows number j (rp ++ ro) [] x.0 in
            let h = s.shows j y x.1 in (h.0, h.1, h.2 ∙ ap (map f) (sym row)))
            (at_set views number j both y there));
      }),
    )

there_is : {A : Type 0} (l : List A) (i : ℕ) → i < length l → (a : A) × (get_elem? l i ≡ some a)
there_is [] i lt = absurd (omega arith)
there_is (x ∷ xs) zero lt = (x, refl)
there_is (x ∷ xs) (suc i) lt = there_is xs i (omega arith)

beyond : {A : Type 0} (l : List A) (i : ℕ) (d : A) → length l ≤ i → get_or l i d ≡ d
beyond [] i d le = refl
beyond (x ∷ xs) zero d le = absurd (omega arith)
beyond (x ∷ xs) (suc i) d le = beyond xs i d (omega arith)

put_lists-row : (put taken : List Job) (put_labels taken_labels r : List ℕ) → put_lists (map (jobs_of_label put_labels put taken_labels taken) r) ≡ map (λ a. items_of_label a put_labels put) r
put_lists-row put taken put_labels taken_labels [] = refl
put_lists-row put taken put_labels taken_labels (a ∷ r) = ap (λ l. items_of_label a put_labels put ∷ l) (put_lists-row put taken put_labels taken_labels r)

taken_lists-row : (put taken : List Job) (put_labels taken_labels r : List ℕ) → taken_lists (map (jobs_of_label put_labels put taken_labels taken) r) ≡ map (λ a. items_of_label a taken_labels taken) r
taken_lists-row put taken put_labels taken_labels [] = refl
taken_lists-row put taken put_labels taken_labels (a ∷ r) = ap (λ l. items_of_label a taken_labels taken ∷ l) (taken_lists-row put taken put_labels taken_labels r)

-- what the pass with every part knows
pub settles : (number : ℕ) (passes : List PassJobs) → Learns KeepsRule number (pass_view ALL_PARTS passes None) (λ items. IsKept (put_lists passes) (taken_lists passes) items)
settles number passes items views kept at =
    let v = pass_view ALL_PARTS passes None in
    let s = shares items views number v kept at (omega arith) refl in
    let f = jobs_of_label s.put_labels s.put s.taken_labels s.taken in
    let r = get_or s.rows number [] in
    let idle : (a j : ℕ) → j ≢ number → times a (get_or s.rows j []) ≡ 0 = (λ a j ne. dite (dec_le (length views) j)
    (λ le. ap (times a) (beyond s.rows j [] (let w = s.row_count in omega (arith, w, le))))
    (λ nle. let u = there_is views j (lt_of_not-le nle) in
    let two = total_both parts_of views number j v u.0 at u.1 (λ e. ne (sym e)) in
    let h = s.shows j u.0 u.1 in
    let nothing : u.0.parts ≡ 0 = (let k = kept.0 in omega (arith, two, k)) in
    ap (times a) (row_none f (get_or s.rows j []) (sym (h.1 nothing) ∙ h.2)))) in
    let row : (a : ℕ) → (a < s.label_count → times a r ≡ 1) × (s.label_count ≤ a → times a r ≡ 0) = (λ a.
    let e = total_alone (times a) s.rows number [] refl (idle a) in
    ((λ lt. let o = (s.once a).0 lt in omega (arith, e, o)), λ le. let o = (s.once a).1 le in omega (arith, e, o))) in
    let puts_are : put_lists passes ≡ map (λ a. items_of_label a s.put_labels s.put) r = ap put_lists (s.shows number v at).2 ∙ put_lists-row s.put s.taken s.put_labels s.taken_labels r in
    let takes_are : taken_lists passes ≡ map (λ a. items_of_label a s.taken_labels s.taken) r = ap taken_lists (s.shows number v at).2 ∙ taken_lists-row s.put s.taken s.put_labels s.taken_labels r in (
      s.taken,
      subst (λ q. Interleaves (put_lists passes) q) s.order (subst (λ l. Interleaves l s.put) (sym puts_are) (interleaves_row r s.label_count s.put_labels s.put s.put_fits s.put_below row)),
      subst (λ l. Interleaves l s.taken) (sym takes_are) (interleaves_row r s.label_count s.taken_labels s.taken s.taken_fits s.taken_below row),
    )

-- the pass with every part takes a job, and then knows what the queue holds
pub seals : (number : ℕ) (passes : List PassJobs) → Pops KeepsRule number (pass_view ALL_PARTS passes None) (λ x w. (content : List Job) × (w ≡ pass_view ALL_PARTS [] (Some content)) × IsKept (put_lists passes) (taken_lists passes) (x ∷ content))
seals number passes x items views kept at =
    let v = pass_view ALL_PARTS passes None in
    let w = pass_view ALL_PARTS [] (Some items) in
    let sum = total_set parts_of views number v w at in
    (w, (omega (arith, sum, kept.0), inr (number, w, here views number w (within views number v at), refl, refl)), (items, refl, settles number passes (x ∷ items) views kept at))
  where
    here : (l : List PassView) (i : ℕ) (a : PassView) → i < length l → get_elem? (set l i a) i ≡ some a
    here [] i a lt = absurd (omega arith)
    here (x ∷ xs) zero a lt = refl
    here (x ∷ xs) (suc i) a lt = here xs i a (omega arith)

-- what the pass that knows the content knows
pub knows : (number : ℕ) (content : List Job) → Learns KeepsRule number (pass_view ALL_PARTS [] (Some content)) (λ items. content ≡ items)
knows number content items views kept at =
    let v = pass_view ALL_PARTS [] (Some content) in
    ⊎_elim (λ (s : IsShared items views). let e = (s.shows number v at).0 in absurd (cc))
    (λ (s : IsClosed items views). dite (ℕ_discrete s.0 number)
    (λ e. let same : s.1 ≡ v = some-injective s.1 v (sym s.2 ∙ (ap (λ i. get_elem? views i) e ∙ at)) in let is : Some content ≡ Some items = ap (λ (u : PassView). u.content) (sym same) ∙ s.4 in cc)
    (λ ne. let two = total_both parts_of views s.0 number s.1 v s.2 at ne in let whole = s.3 in absurd (omega (arith, two, whole, kept.0))))
    kept.1

-- it takes the first job of those that it knows
pub follows : (number : ℕ) (content : List Job) → Pops KeepsRule number (pass_view ALL_PARTS [] (Some content)) (λ x w. (rest : List Job) × (content ≡ x ∷ rest) × (w ≡ pass_view ALL_PARTS [] (Some rest)))
follows number content x items views kept at =
    let v = pass_view ALL_PARTS [] (Some content) in
    let w = pass_view ALL_PARTS [] (Some items) in
    let sum = total_set parts_of views number v w at in
    (w, (omega (arith, sum, kept.0), inr (number, w, here views number w (within views number v at), refl, refl)), (items, knows number content (x ∷ items) views kept at, refl))
  where
    here : (l : List PassView) (i : ℕ) (a : PassView) → i < length l → get_elem? (set l i a) i ≡ some a
    here [] i a lt = absurd (omega arith)
    here (x ∷ xs) zero a lt = refl
    here (x ∷ xs) (suc i) a lt = here xs i a (omega arith)

pub could : (number : ℕ) (v : PassView) → Learns KeepsRule number v (CanHold v)
could number v items views kept at = (views, number, at, kept)

pub puts_alone : (n number : ℕ) (v : PassView) (x : Job) → IsOnePass v → Pushes KeepsRule n number v x (λ w. w ≡ pass_view v.parts (add_put v.passes x) None)
puts_alone n number v x alone = subst (λ (u : PassView). Pushes KeepsRule n number u x (λ w. w ≡ pass_view u.parts (add_put u.passes x) None)) (sym alone.1) (puts n number v.parts (own_put v.passes) (own_taken v.passes) x alone.0)

pub takes_alone : (number : ℕ) (v : PassView) → IsOnePass v → Pops KeepsRule number v (λ x w. w ≡ pass_view v.parts (add_taken v.passes x) None)
takes_alone number v alone = subst (λ (u : PassView). Pops KeepsRule number u (λ x w. w ≡ pass_view u.parts (add_taken u.passes x) None)) (sym alone.1) (takes number v.parts (own_put v.passes) (own_taken v.passes) alone.0)

pub forks_alone : (number : ℕ) (v : PassView) → IsOnePass v → 1 < v.parts → Forks KeepsRule number v (pass_view (v.parts - 1) v.passes None) (pass_view 1 (pass_jobs [] [] ∷ []) None)
forks_alone number v alone two = subst (λ (u : PassView). 1 < u.parts → Forks KeepsRule number u (pass_view (u.parts - 1) u.passes None) (pass_view 1 (pass_jobs [] [] ∷ []) None)) (sym alone.1) (forks number v.parts (pass_jobs (own_put v.passes) (own_taken v.passes) ∷ [])) two
