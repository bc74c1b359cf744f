-- What a kept queue says of a lane, which has one taking pass, and into which each session puts by a pass of its own.
use Rattle.inbox.proofs.Common.{◌≡◌, ◌≢◌, ℕ, eqb, eq-eqb, ne_eqb, cond, Bool, true, false, List, [], ◌∷◌, ◌++◌, length, get_or, filter, refl, sym, ap, ◌∙◌, subst, arith, filter-append, All, All-head, All-tail, Job, items_of_label, IsKept, of_session, LaneInOrder}
use mathlib.Core.Logic.{dite}
use native.Mathlib.Decide.{ℕ_discrete}

module _ {T : Type 0} where
  hit : (w : ℕ) (labels : List ℕ) (x : T) (q : List T) → items_of_label w (w ∷ labels) (x ∷ q) ≡ x ∷ items_of_label w labels q
  hit w labels x q = ap (λ b. cond b (x ∷ items_of_label w labels q) (items_of_label w labels q)) (eq-eqb w w refl)

  miss : (v w : ℕ) (labels : List ℕ) (x : T) (q : List T) → v ≢ w → items_of_label w (v ∷ labels) (x ∷ q) ≡ items_of_label w labels q
  miss v w labels x q ne = ap (λ b. cond b (x ∷ items_of_label w labels q) (items_of_label w labels q)) (ne_eqb v w ne)

  -- where all other labels have nothing, one has all
  sole : (w : ℕ) (labels : List ℕ) (q : List T) → length labels ≡ length q → ((j : ℕ) → j ≢ w → items_of_label j labels q ≡ []) → items_of_label w labels q ≡ q
  sole w [] [] fit none = refl
  sole w [] (x ∷ q) fit none = absurd (omega arith)
  sole w (v ∷ labels) [] fit none = absurd (omega arith)
  sole w (v ∷ labels) (x ∷ q) fit none = dite (ℕ_discrete v w)
      (λ e. subst (λ u. items_of_label w (u ∷ labels) (x ∷ q) ≡ x ∷ q) (sym e)
      (hit w labels x q ∙ ap (λ l. x ∷ l) (sole w labels q (omega arith) (λ j ne. sym (miss v j labels x q (λ same. ne (sym same ∙ e))) ∙ none j ne))))
      (λ ne. let first = sym (hit v labels x q) ∙ none v ne in absurd (cc))

  -- where no other label has an item that passes, one has all that pass
  passing : (p : T → Bool) (k : ℕ) (labels : List ℕ) (q : List T) → length labels ≡ length q → ((j : ℕ) → j ≢ k → filter p (items_of_label j labels q) ≡ []) → filter p (items_of_label k labels q) ≡ filter p q
  passing p k [] [] fit none = refl
  passing p k [] (x ∷ q) fit none = absurd (omega arith)
  passing p k (v ∷ labels) [] fit none = absurd (omega arith)
  passing p k (v ∷ labels) (x ∷ q) fit none = dite (ℕ_discrete v k)
      (λ e. subst (λ u. filter p (items_of_label k (u ∷ labels) (x ∷ q)) ≡ filter p (x ∷ q)) (sym e)
      (ap (filter p) (hit k labels x q) ∙ ap (λ l. cond (p x) (x ∷ l) l) (passing p k labels q (omega arith) (λ j ne. ap (filter p) (sym (miss v j labels x q (λ same. ne (sym same ∙ e)))) ∙ none j ne))))
      (λ ne.
      let mine : filter p (x ∷ items_of_label v labels q) ≡ [] = ap (filter p) (sym (hit v labels x q)) ∙ none v ne in
      let no : p x ≡ false = out (p x) x (filter p (items_of_label v labels q)) mine in
      let rest : (j : ℕ) → j ≢ k → filter p (items_of_label j labels q) ≡ [] = (λ j apart. dite (ℕ_discrete v j)
      (λ same. subst (λ u. filter p (items_of_label u labels q) ≡ []) same (ap (λ b. cond b (x ∷ filter p (items_of_label v labels q)) (filter p (items_of_label v labels q))) (sym no) ∙ mine))
      (λ other. ap (filter p) (sym (miss v j labels x q other)) ∙ none j apart)) in
      ap (filter p) (miss v k labels x q ne) ∙ (passing p k labels q (omega arith) rest ∙ ap (λ b. cond b (x ∷ filter p q) (filter p q)) (sym no)))
    where
      out : (b : Bool) (x : T) (l : List T) → cond b (x ∷ l) l ≡ [] → b ≡ false
      out true x l e = absurd (cc)
      out false x l e = refl

-- what the one taking pass took of a session's jobs, and then what is left of them, is what the session's pass put
pub lane : (puts takes : List (List Job)) (left : List Job) (taker putter : ℕ) (p : Job → Bool) → IsKept puts takes left
    → ((j : ℕ) → j ≢ taker → get_or takes j [] ≡ [])
    → ((j : ℕ) → j ≢ putter → filter p (get_or puts j []) ≡ []) → filter p (get_or puts putter []) ≡ get_or puts putter []
    → filter p (get_or takes taker []) ++ filter p left ≡ get_or puts putter []
lane puts takes left taker putter p kept one_taker one_putter own =
    let taken = kept.0 in
    let ps = kept.1 in
    let ts = kept.2 in
    let took : get_or takes taker [] ≡ taken = ts.2 taker ∙ sole taker ts.0 taken ts.1 (λ j ne. sym (ts.2 j) ∙ one_taker j ne) in
    let all = passing p putter ps.0 (taken ++ left) ps.1 (λ j ne. ap (filter p) (sym (ps.2 j)) ∙ one_putter j ne) in
    ap (λ l. filter p l ++ filter p left) took ∙ (sym (filter-append p taken left) ∙ (sym all ∙ (ap (filter p) (sym (ps.2 putter)) ∙ own)))

-- of the jobs of one session alone, all are of it
all_of : (session : ℕ) (jobs : List Job) → All (λ (j : Job). j.session ≡ session) jobs → of_session session jobs ≡ jobs
all_of session [] all = refl
all_of session (j ∷ jobs) all =
    let head = All-head (λ (j : Job). j.session ≡ session) j jobs all in
    let rest = All-tail (λ (j : Job). j.session ≡ session) j jobs all in
    ap (λ b. cond b (j ∷ of_session session jobs) (of_session session jobs)) (eq-eqb j.session session head) ∙ ap (λ l. j ∷ l) (all_of session jobs rest)

pub in_order : LaneInOrder
in_order puts takes left session putter taker kept only_taker only_putter =
    lane puts takes left taker putter (λ (j : Job). eqb j.session session) kept only_taker only_putter.1 (all_of session (get_or puts putter []) only_putter.0)
