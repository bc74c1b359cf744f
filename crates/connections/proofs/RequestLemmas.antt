-- What the first bytes tell of the whole.
use Rattle.std.proofs.Common.{◌≡◌, ℕ, ◌≤◌, nat_le, Bool, true, false, List, [], ◌∷◌, ◌++◌, length, nat_eq, refl, sym, ◌∙◌, ap, arith, append-nil, append_assoc, Option, Some, None, if◌then◌else◌, ◌<◌, take, get_or, slice_set, remove, subst}
use Rattle.std.specs.List.{list_all, starts_with}
use Rattle.std.specs.Io.KnownBytes.{Keeps, Consumes, IsAtEnd, prepend_known}
use Rattle.std.proofs.lemmas.Bool.{false≢true}
use Rattle.std.proofs.lemmas.Grind.{common_steps}
use Rattle.connections.specs.Requests.{methods, begin_with, are_begun_by, is_request, may_become_request, front_of}
use Rattle.connections.specs.Guards.{let_through, without_request}
use Rattle.connections.specs.declared.guard.Front.{Front}
use Rattle.connections.specs.declared.guard.Front.TheVariants.{Undecided, Lines, Request}

-- more bytes behind change nothing where they begin with the word
starts-longer : (xs rest word : List ℕ) → starts_with nat_eq xs word ≡ true → starts_with nat_eq (xs ++ rest) word ≡ true
starts-longer xs rest [] h = refl
starts-longer [] rest (y ∷ word) h = absurd (false≢true h)
starts-longer (x ∷ xs) rest (y ∷ word) h = grind (arith, common_steps, starts-longer xs rest word)

-- nor where neither begins with the other
starts-never : (xs rest word : List ℕ) → starts_with nat_eq xs word ≡ false → starts_with nat_eq word xs ≡ false → starts_with nat_eq (xs ++ rest) word ≡ false
starts-never [] rest word h k = absurd (false≢true (sym k))
starts-never (x ∷ xs) rest [] h k = absurd (false≢true (sym h))
starts-never (x ∷ xs) rest (y ∷ word) h k = grind (arith, common_steps, starts-never xs rest word)

begin-longer : (words : List (List ℕ)) (xs rest : List ℕ) → begin_with words xs ≡ true → begin_with words (xs ++ rest) ≡ true
begin-longer [] xs rest h = h
begin-longer (word ∷ words) xs rest h = grind (arith, common_steps, starts-longer xs rest word, begin-longer words xs rest)

begin-never : (words : List (List ℕ)) (xs rest : List ℕ) → begin_with words xs ≡ false → are_begun_by words xs ≡ false → begin_with words (xs ++ rest) ≡ false
begin-never [] xs rest h k = refl
begin-never (word ∷ words) xs rest h k = grind (arith, common_steps, starts-never xs rest word, begin-never words xs rest)

-- what begins a word is no longer than the word
starts-shorter : (xs word : List ℕ) → starts_with nat_eq word xs ≡ true → length xs ≤ length word
starts-shorter [] word h = omega arith
starts-shorter (x ∷ xs) [] h = absurd (false≢true h)
starts-shorter (x ∷ xs) (y ∷ word) h = grind (arith, common_steps, starts-shorter xs word)

begun-shorter : (words : List (List ℕ)) (xs : List ℕ) (k : ℕ) → list_all (λ word. nat_le (length word) k) words ≡ true → are_begun_by words xs ≡ true → length xs ≤ k
begun-shorter [] xs k all h = absurd (false≢true h)
begun-shorter (word ∷ words) xs k all h = grind (arith, common_steps, starts-shorter xs word, begun-shorter words xs k)

-- by which tests the bytes are undecided
by-tests : (request may : Bool) → (if request then Request else (if may then Undecided else Lines)) ≡ Undecided → (request ≡ false) × (may ≡ true)
by-tests true may h = cc
by-tests false true h = (refl, refl)
by-tests false false h = cc

pub undecided-short : (held : List ℕ) → front_of held ≡ Undecided → length held ≤ 8
unfolding may_become_request
undecided-short held h = begun-shorter methods held 8 refl (by-tests (is_request held) (may_become_request held) h).1

-- the same, seen as undecided
pub as-undecided : (held : List ℕ) (front : Front) (old known : Option (List ℕ)) → front ≡ Undecided → Keeps old (let_through front (prepend_known held known)) → Keeps old (let_through Undecided (prepend_known held known))
as-undecided held front old known is kept = subst (λ f. Keeps old (let_through f (prepend_known held known))) is kept

-- nothing more came while they were undecided
pub keeps-end : (held taken : List ℕ) (old known new : Option (List ℕ)) → front_of held ≡ Undecided → taken ≡ [] → Keeps old (let_through Undecided (prepend_known held known)) → Consumes known new taken → IsAtEnd new → Keeps old (prepend_known held new)
keeps-end held taken None known new undecided none kept consumes end = tt
keeps-end held taken (Some x) None new undecided none kept consumes end = absurd kept
keeps-end held taken (Some x) (Some ys) None undecided none kept consumes end = absurd consumes
keeps-end held taken (Some x) (Some ys) (Some zs) undecided none kept consumes end =
    let lines : is_request held ≡ false = (by-tests (is_request held) (may_become_request held) undecided).0 in
    let all : held ++ ys ≡ held = ap (λ l. held ++ l) (consumes ∙ ap (λ l. l ++ zs) none ∙ end) ∙ append-nil held in
    let through : without_request held ≡ held = rw lines refl in
    ap (λ l. held ++ l) end ∙ append-nil held ∙ sym (ap without_request all ∙ through) ∙ kept

-- one byte more is held
keeps-more : (held taken : List ℕ) (byte : ℕ) (old known new : Option (List ℕ)) → taken ≡ byte ∷ [] → Keeps old (let_through Undecided (prepend_known held known)) → Consumes known new taken → Keeps old (let_through Undecided (prepend_known (held ++ byte ∷ []) new))
keeps-more held taken byte None known new one kept consumes = tt
keeps-more held taken byte (Some x) None new one kept consumes = absurd kept
keeps-more held taken byte (Some x) (Some ys) None one kept consumes = absurd consumes
keeps-more held taken byte (Some x) (Some ys) (Some zs) one kept consumes =
    ap without_request (append_assoc held (byte ∷ []) zs ∙ sym (ap (λ l. held ++ l) (consumes ∙ ap (λ l. l ++ zs) one))) ∙ kept

pub held-more : (held more taken : List ℕ) (byte : ℕ) (front : Front) (old known new : Option (List ℕ)) → front ≡ Undecided → taken ≡ byte ∷ [] → more ≡ held ++ byte ∷ [] → Keeps old (let_through front (prepend_known held known)) → Consumes known new taken → Keeps old (let_through front (prepend_known more new))
held-more held more taken byte front old known new is one grown kept consumes =
    let next = keeps-more held taken byte old known new one (as-undecided held front old known is kept) consumes in
    let here = subst (λ f. Keeps old (let_through f (prepend_known (held ++ byte ∷ []) new))) (sym is) next in
    subst (λ l. Keeps old (let_through front (prepend_known l new))) (sym grown) here

decided-known : (held ys x : List ℕ) (request may : Bool) → is_request held ≡ request → may_become_request held ≡ may → ((if request then Request else (if may then Undecided else Lines)) ≡ Undecided → ⊥) → without_request (held ++ ys) ≡ x → Keeps (Some x) (let_through (if request then Request else (if may then Undecided else Lines)) (Some (held ++ ys)))
unfolding is_request may_become_request
decided-known held ys x true may is_true is_may decided kept = let whole : is_request (held ++ ys) ≡ true = begin-longer methods held ys is_true in rw whole at kept
decided-known held ys x false true is_true is_may decided kept = absurd (decided refl)
decided-known held ys x false false is_true is_may decided kept = let whole : is_request (held ++ ys) ≡ false = begin-never methods held ys is_true is_may in rw whole at kept

-- it is known what they are
pub keeps-decided : (held : List ℕ) (front : Front) (old known : Option (List ℕ)) → front ≡ front_of held → (front ≡ Undecided → ⊥) → Keeps old (let_through Undecided (prepend_known held known)) → Keeps old (let_through front (prepend_known held known))
keeps-decided held front None known by decided kept = tt
keeps-decided held front (Some x) None by decided kept = absurd kept
keeps-decided held front (Some x) (Some ys) by decided kept =
    let known : Keeps (Some x) (let_through (front_of held) (Some (held ++ ys))) = decided-known held ys x (is_request held) (may_become_request held) refl refl (λ undecided. decided (by ∙ undecided)) kept in
    rw by known

-- the first of the bytes that are held is given
pub gives-first : (held rest buf : List ℕ) (byte : ℕ) (front : Front) (old known : Option (List ℕ)) → (front ≡ Undecided → ⊥) → (front ≡ Request → ⊥) → held ≡ byte ∷ rest → Keeps old (let_through front (prepend_known held known)) → buf ≡ byte ∷ [] → Consumes old (let_through front (prepend_known rest known)) buf
gives-first held rest buf byte Undecided old known decided lines first kept given = absurd (decided refl)
gives-first held rest buf byte Request old known decided lines first kept given = absurd (lines refl)
gives-first held rest buf byte Lines None known decided lines first kept given = tt
gives-first held rest buf byte Lines (Some x) None decided lines first kept given = absurd kept
gives-first held rest buf byte Lines (Some x) (Some ys) decided lines first kept given = sym kept ∙ ap (λ l. l ++ ys) first ∙ ap (λ l. l ++ (rest ++ ys)) (sym given)

-- one byte that was read
pub one-taken : (buf : List ℕ) (n : ℕ) → length buf ≡ 1 → n ≤ length buf → (n ≡ 0 → ⊥) → take n buf ≡ get_or buf 0 0 ∷ []
one-taken [] n len le some = absurd (some (omega (arith, le)))
one-taken (b ∷ []) n len le some = let one : n ≡ 1 = omega (arith, le, some) in rw one refl
one-taken (b ∷ x ∷ buf) n len le some = absurd (omega (arith, len))

-- the first byte of those that are held, and the rest
pub first-removed : (held rest : List ℕ) (d : ℕ) → 0 < length held → d ≡ get_or held 0 d → rest ≡ remove held 0 → held ≡ d ∷ rest
first-removed [] rest d some first removed = absurd (omega (arith, some))
first-removed (b ∷ held) rest d some first removed = grind (arith, common_steps)

-- the first byte of a buffer that was written
pub first-written : (buf : List ℕ) (b : ℕ) → 0 < length buf → take 1 (slice_set buf 0 b) ≡ b ∷ []
first-written [] b some = absurd (omega (arith, some))
first-written (x ∷ buf) b some = grind (arith, common_steps)
