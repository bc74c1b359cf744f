-- What a guard gives of the bytes that it holds, and what is written.
use Rattle.std.proofs.Common.{◌≡◌, ℕ, ◌+◌, ◌-◌, ◌≤◌, ◌==◌, Bool, true, false, List, [], ◌++◌, length, take, drop, Option, Some, None, Result, Ok, Err, is_ok, OnOk, refl, sym, ap, ◌∙◌, subst, arith, append_assoc, append-nil, length-drop, take-append-drop, take_all}
use Rattle.std.proofs.lemmas.Bool.{eq-eqb, eqb-true, false≢true}
use Rattle.std.proofs.lemmas.List.{drop-drop, nil_from_length}
use Rattle.std.specs.Io.KnownBytes.{Appends, Consumes, Keeps, ReadConsumes, prepend_known}
use Rattle.taf_codes.specs.declared.streams.Failed.{Failed}
use Rattle.railway_keys.specs.Admissions.{is_admitted}
use Rattle.railway_keys.specs.Guards.{Tells, given_by}
use Rattle.railway_keys.specs.declared.admission.Admission.{Admission}

-- so many of the bytes that are held are given
pub gives-held : (held : List ℕ) (given count : ℕ) (left : Option (List ℕ)) → Consumes (prepend_known (drop given held) left) (prepend_known (drop (given + count) held) left) (take count (drop given held))
gives-held held given count None = tt
gives-held held given count (Some left) =
    ap (λ l. l ++ left) (sym (take-append-drop count (drop given held)) ∙ ap (λ l. take count (drop given held) ++ l) (drop-drop count given held))
    ∙ append_assoc (take count (drop given held)) (drop (given + count) held) left

-- what an admission lets through
through : (admission : Admission) (known : Option (List ℕ)) → is_admitted admission ≡ true → given_by admission known ≡ known
through admission known admitted = rw admitted refl

pub gives : (admission : Admission) (held : List ℕ) (given count : ℕ) (left : Option (List ℕ)) (rest room : List ℕ) → is_admitted admission ≡ true → rest ≡ drop given held → take count room ≡ take count rest
    → Consumes (given_by admission (prepend_known (drop given held) left)) (given_by admission (prepend_known (drop (given + count) held) left)) (take count room)
gives admission held given count left rest room admitted is copied =
    let old = prepend_known (drop given held) left in
    let new = prepend_known (drop (given + count) held) left in
    let bytes : take count (drop given held) ≡ take count room = ap (take count) (sym is) ∙ sym copied in
    subst (λ o. Consumes o (given_by admission new) (take count room)) (sym (through admission old admitted))
    (subst (λ n. Consumes old n (take count room)) (sym (through admission new admitted))
    (subst (Consumes old new) bytes (gives-held held given count left)))

-- none is held
none-held : (held : List ℕ) (known : Option (List ℕ)) → held ≡ [] → prepend_known held known ≡ known
none-held held None none = refl
none-held held (Some left) none = ap (λ l. Some (l ++ left)) none

pub reads-through : (admission : Admission) (held : List ℕ) (old new : Option (List ℕ)) (r : Result ℕ Failed) (buf : List ℕ) → is_admitted admission ≡ true → held ≡ [] → ReadConsumes old new r buf
    → ReadConsumes (given_by admission (prepend_known held old)) (given_by admission (prepend_known held new)) r buf
reads-through admission held old new r buf admitted none reads =
    let known = λ (k : Option (List ℕ)). through admission (prepend_known held k) admitted ∙ none-held held k none in
    subst (λ o. ReadConsumes o (given_by admission (prepend_known held new)) r buf) (sym (known old))
    (subst (λ n. ReadConsumes old n r buf) (sym (known new)) reads)

-- whether bytes are left
pub none-left : (t : Bool) (rest held : List ℕ) → t ≡ (length rest == 0) → t ≡ true → rest ≡ held → held ≡ []
none-left t rest held test empty is = sym is ∙ nil_from_length rest (eqb-true (length rest) 0 (sym test ∙ empty))

pub some-left : (t : Bool) (rest : List ℕ) → t ≡ (length rest == 0) → t ≡ false → length rest ≡ 0 → ⊥
some-left t rest test filled none = false≢true (sym filled ∙ test ∙ eq-eqb (length rest) 0 none)

-- all of a text was written
appended : (a b c : Option (List ℕ)) (text : List ℕ) → Appends a b text → Keeps b c → Appends a c text
appended None b c text taken kept = tt
appended (Some x) None c text taken kept = absurd taken
appended (Some x) (Some y) None text taken kept = absurd kept
appended (Some x) (Some y) (Some z) text taken kept = kept ∙ taken

pub told-all : (wanted text : List ℕ) (a b c : Option (List ℕ)) (failed_before failed : ℕ) (r : Result (Unit {0}) Failed) → text ≡ wanted → is_ok r ≡ true → OnOk r (Appends a b text) → Keeps b c → Tells wanted a c failed_before failed
told-all wanted text a b c failed_before failed (Ok done) is ok taken kept = record {
  front = text;
  rest = [];
  parts = sym is ∙ sym (append-nil text);
  taken = appended a b c text taken kept;
  all = λ same. refl;
}
told-all wanted text a b c failed_before failed (Err e) is ok taken kept = absurd (false≢true ok)

-- what is left once some of it was taken
pub pushed : (bytes front rest : List ℕ) (n : ℕ) → n ≤ length rest → bytes ≡ front ++ rest → bytes ≡ (front ++ take n rest) ++ take (length rest - n) (drop n rest)
pushed bytes front rest n le e =
    let all : length (drop n rest) ≤ length rest - n = omega (arith, length-drop n rest) in
    e ∙ ap (λ l. front ++ l) (sym (take-append-drop n rest)) ∙ sym (append_assoc front (take n rest) (drop n rest)) ∙ ap (λ l. (front ++ take n rest) ++ l) (sym (take_all (length rest - n) (drop n rest) all))
