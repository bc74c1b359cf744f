-- What is known once all passes are one.
use Rattle.inbox.proofs.Common.{◌≡◌, ℕ, ◌+◌, ◌<◌, List, [], ◌∷◌, ◌++◌, map, length, get_or, take, drop, sum_by, Option, Some, None, MatchOption, refl, sym, ap, ◌∙◌, subst, arith, map-id, sum_by-cons, Pops, Merges, Learns, Held, TableId, Job, PassJobs, PassView, IsKept, ALL_PARTS, pass_jobs, pass_view, KeepsRule, put_lists, taken_lists, own_put, own_taken, IsOnePass, jobs_left, KnowsContent, PassState, state_of, jobs_of}
use Rattle.inbox.proofs.StepLemmas.{merges, seals, settles, follows, knows}

pub first_rest : {T : Type 0} (xs rest : List T) (x : T) → 0 < length xs → x ≡ get_or xs 0 x → rest ≡ take 0 xs ++ drop 1 xs → xs ≡ x ∷ rest
first_rest [] rest x some_there is tail = absurd (omega arith)
first_rest (y ∷ ys) rest x some_there is tail = λ i. sym is i ∷ sym tail i

-- a `for` that takes a list by value has it whole at its end
pub same_map : {T : Type 0} (xs ys : List T) → map (λ x. x) xs ≡ ys → xs ≡ ys
same_map xs ys e = sym (map-id xs) ∙ e

pub merges_on : (number other parts : ℕ) (passes : List PassJobs) (v w : PassView) → v ≡ pass_view parts passes None → 0 < parts → IsOnePass w → Merges KeepsRule number v other w (pass_view (v.parts + w.parts) (v.passes ++ w.passes) None) (pass_view 0 [] None)
merges_on number other parts passes v w is some_part alone =
    subst (λ (u : PassView). Merges KeepsRule number u other w (pass_view (u.parts + w.parts) (u.passes ++ w.passes) None) (pass_view 0 [] None)) (sym is)
    (subst (λ (u : PassView). Merges KeepsRule number (pass_view parts passes None) other u (pass_view (parts + u.parts) (passes ++ u.passes) None) (pass_view 0 [] None)) (sym alone.1)
    (merges number other parts w.parts passes (pass_jobs (own_put w.passes) (own_taken w.passes) ∷ []) some_part alone.0))

-- the pass that all others were joined into, whose states were these
pub whole : (v v0 : PassView) (of : TableId) (t : PassState) (ts all : List PassState)
    → v ≡ pass_view (v0.parts + sum_by (λ (t : PassState). t.parts) ts) (v0.passes ++ map jobs_of ts) None → IsOnePass v0 → state_of of v0 ≡ t → all ≡ t ∷ ts
    → v ≡ pass_view (sum_by (λ (t : PassState). t.parts) all) (map jobs_of all) None
whole v v0 of t ts all is alone first are =
    is ∙ (ap (λ l. pass_view (v0.parts + sum_by (λ (t : PassState). t.parts) ts) (l ++ map jobs_of ts) None) (ap (λ (u : PassView). u.passes) alone.1)
    ∙ (ap (λ (u : PassState). pass_view (u.parts + sum_by (λ (t : PassState). t.parts) ts) (map jobs_of (u ∷ ts)) None) first
    ∙ (ap (λ n. pass_view n (map jobs_of (t ∷ ts)) None) (sym (sum_by-cons (λ (t : PassState). t.parts) t ts))
    ∙ ap (λ l. pass_view (sum_by (λ (t : PassState). t.parts) l) (map jobs_of l) None) (sym are))))

pub seals_on : (number : ℕ) (v : PassView) (passes : List PassJobs) → v ≡ pass_view ALL_PARTS passes None
    → Pops KeepsRule number v (λ x w. (content : List Job) × (w ≡ pass_view ALL_PARTS [] (Some content)) × IsKept (put_lists v.passes) (taken_lists v.passes) (x ∷ content))
    × Learns KeepsRule number v (λ items. IsKept (put_lists v.passes) (taken_lists v.passes) items)
seals_on number v passes is = subst (λ (u : PassView). Pops KeepsRule number u (λ x w. (content : List Job) × (w ≡ pass_view ALL_PARTS [] (Some content)) × IsKept (put_lists u.passes) (taken_lists u.passes) (x ∷ content))
    × Learns KeepsRule number u (λ items. IsKept (put_lists u.passes) (taken_lists u.passes) items)) (sym is) (seals number passes, settles number passes)

empty_is : (items : List Job) → length items ≡ 0 → items ≡ []
empty_is [] e = refl
empty_is (x ∷ items) e = absurd (omega arith)

puts_are : (ts : List PassState) → put_lists (map jobs_of ts) ≡ map (λ (t : PassState). t.put) ts
puts_are [] = refl
puts_are (t ∷ ts) = ap (λ l. t.put ∷ l) (puts_are ts)

takes_are : (ts : List PassState) → taken_lists (map jobs_of ts) ≡ map (λ (t : PassState). t.taken) ts
takes_are [] = refl
takes_are (t ∷ ts) = ap (λ l. t.taken ∷ l) (takes_are ts)

-- with the first job that is left taken out, what is left is known
pub closes : (r : Option Job) (v w : PassView) (ts : List PassState) → v.passes ≡ map jobs_of ts
    → MatchOption r ((w ≡ v) × Held 0 (λ items. IsKept (put_lists v.passes) (taken_lists v.passes) items)) (λ x. (content : List Job) × (w ≡ pass_view ALL_PARTS [] (Some content)) × IsKept (put_lists v.passes) (taken_lists v.passes) (x ∷ content))
    → IsKept (map (λ (t : PassState). t.put) ts) (map (λ (t : PassState). t.taken) ts) (jobs_left r w.content)
closes r v w ts are told =
    let here : (put_lists v.passes ≡ map (λ (t : PassState). t.put) ts) × (taken_lists v.passes ≡ map (λ (t : PassState). t.taken) ts) = (ap put_lists are ∙ puts_are ts, ap taken_lists are ∙ takes_are ts) in
    subst (λ p. IsKept p (map (λ (t : PassState). t.taken) ts) (jobs_left r w.content)) here.0 (subst (λ t. IsKept (put_lists v.passes) t (jobs_left r w.content)) here.1 (go r told))
  where
    go : (r : Option Job) → MatchOption r ((w ≡ v) × Held 0 (λ items. IsKept (put_lists v.passes) (taken_lists v.passes) items)) (λ x. (content : List Job) × (w ≡ pass_view ALL_PARTS [] (Some content)) × IsKept (put_lists v.passes) (taken_lists v.passes) (x ∷ content))
        → IsKept (put_lists v.passes) (taken_lists v.passes) (jobs_left r w.content)
    go None told = subst (λ l. IsKept (put_lists v.passes) (taken_lists v.passes) l) (empty_is told.1.0 told.1.1) told.1.2
    go (Some x) told = subst (λ (u : PassView). IsKept (put_lists v.passes) (taken_lists v.passes) (jobs_left (Some x) u.content)) (sym told.1) told.2

-- of the pass that knows what is left
pub follows_on : (number : ℕ) (v : PassView) (content : List Job) → v ≡ pass_view ALL_PARTS [] (Some content)
    → Pops KeepsRule number v (λ x w. (rest : List Job) × (v.content ≡ Some (x ∷ rest)) × (w ≡ pass_view ALL_PARTS [] (Some rest))) × Learns KeepsRule number v (λ items. v.content ≡ Some items)
follows_on number v content is = subst (λ (u : PassView). Pops KeepsRule number u (λ x w. (rest : List Job) × (u.content ≡ Some (x ∷ rest)) × (w ≡ pass_view ALL_PARTS [] (Some rest))) × Learns KeepsRule number u (λ items. u.content ≡ Some items)) (sym is) (
  (λ x items views kept at. let h = follows number content x items views kept at in (h.0, h.1, (h.2.0, ap (λ l. Some l) h.2.1, h.2.2))),
  (λ items views kept at. ap (λ l. Some l) (knows number content items views kept at)),
)

pub follows_some : (number : ℕ) (v : PassView) (r : Option Job) (x : Job) → r ≡ Some x → KnowsContent r v
    → Pops KeepsRule number v (λ x w. (rest : List Job) × (v.content ≡ Some (x ∷ rest)) × (w ≡ pass_view ALL_PARTS [] (Some rest))) × Learns KeepsRule number v (λ items. v.content ≡ Some items)
follows_some number v r x is knows = let h : KnowsContent (Some x) v = subst (λ s. KnowsContent s v) is knows in follows_on number v h.0 h.1
