-- What an admission tells of the first line.
use Rattle.std.proofs.Common.{◌≡◌, ℕ, ◌+◌, ◌-◌, ◌≤◌, nat_le, Bool, true, false, List, [], ◌++◌, length, take, Option, Some, None, ◌⊎◌, inl, inr, refl, sym, ap, ◌∙◌, subst, arith, append-nil, if◌then◌else◌}
use Rattle.std.specs.Io.KnownBytes.{Consumes, prepend_known}
use Rattle.taf_codes.specs.declared.code.Railway.{Railway}
use Rattle.session_lines.specs.declared.meaning.Meaning.{Meaning}
use Rattle.session_lines.specs.declared.meaning.Meaning.TheVariants.{Blank, Hello, Wrong, Calls}
use Rattle.session_lines.specs.Meanings.{meaning}
use Rattle.railway_keys.specs.Admissions.{admission_at, admission_by, admission_of, is_admitted}
use Rattle.railway_keys.specs.FirstLines.{LineRead, line_read, whole_line, first_line}
use Rattle.railway_keys.specs.Fronts.{IsEnough}
use Rattle.railway_keys.specs.Guards.{BeginWithKey, IsBehindKey, IsGuarded, IsDecided, given_by}
use Rattle.railway_keys.specs.Hellos.{admitted, key_on, railway_by_key, railway_if}
use Rattle.railway_keys.specs.Keys.{is_key_of}
use Rattle.railway_keys.specs.declared.admission.Admission.{Admission}
use Rattle.railway_keys.specs.declared.admission.Admission.TheVariants.{Admitted, WrongKey, NoMemory, NoLine, NotAsked}
use Rattle.railway_keys.specs.declared.table.RailwayKey.{RailwayKey}
use Rattle.std.proofs.lemmas.Bool.{false≢true}
use Rattle.std.proofs.lemmas.List.{take_all}
use Rattle.railway_keys.proofs.FirstLineLemmas.{line_read-whole, take-held}

module _ (keys : List RailwayKey) where
  -- a railway comes only with its key
  key-of : (known : Bool) (railway own : Railway) → (if known then Some railway else None) ≡ Some own → (railway ≡ own) × (known ≡ true)
  key-of true railway own is = (cc, refl)
  key-of false railway own is = cc

  with-key : (railway own : Railway) (key : Option (List ℕ)) → railway_if keys railway key ≡ Some own → (railway ≡ own) × ((k : List ℕ) × ((key ≡ Some k) × (is_key_of keys own k ≡ true)))
  with-key railway own None is = cc
  with-key railway own (Some k) is =
      let both = key-of (is_key_of keys railway k) railway own is in
      (both.0, (k, (refl, subst (λ r. is_key_of keys r k ≡ true) both.0 both.1)))

  -- and only from its hello
  from-hello : (m : Meaning) (key : Option (List ℕ)) (own : Railway) → admitted keys m key ≡ Some own → (m ≡ Hello own) × ((k : List ℕ) × ((key ≡ Some k) × (is_key_of keys own k ≡ true)))
  from-hello Blank key own is = cc
  from-hello (Hello railway) key own is = let both = with-key railway own key is in (ap Hello both.0, both.1)
  from-hello (Wrong fault) key own is = cc
  from-hello (Calls call) key own is = cc

  at-railway : (found : Option Railway) (own : Railway) → admission_at found ≡ Admitted own → found ≡ Some own
  at-railway None own is = cc
  at-railway (Some railway) own is = cc

  without-line : (is_full : Bool) (own : Railway) → (if is_full then WrongKey else NoLine) ≡ Admitted own → ⊥
  without-line true own is = cc
  without-line false own is = cc

  by-line : (line : Option (List ℕ)) (count : ℕ) (own : Railway) → admission_by keys line count ≡ Admitted own → (text : List ℕ) × ((line ≡ Some text) × (railway_by_key keys text ≡ Some own))
  by-line None count own is = absurd (without-line (nat_le 65537 count) own is)
  by-line (Some text) count own is = (text, (refl, at-railway (railway_by_key keys text) own is))

  -- a key was asked for
  asked-at : (found : Option Railway) → admission_at found ≡ NotAsked → ⊥
  asked-at None is = cc
  asked-at (Some railway) is = cc

  asked-without : (is_full : Bool) → (if is_full then WrongKey else NoLine) ≡ NotAsked → ⊥
  asked-without true is = cc
  asked-without false is = cc

  asked : (line : Option (List ℕ)) (count : ℕ) → admission_by keys line count ≡ NotAsked → ⊥
  asked None count is = asked-without (nat_le 65537 count) is
  asked (Some text) count is = asked-at (railway_by_key keys text) is

  -- so an admission says with which line the bytes begin
  begin-with-key : (line : List ℕ) (bytes : List ℕ) (own : Railway) → first_line bytes ≡ Some line → railway_by_key keys line ≡ Some own → BeginWithKey keys bytes
  unfolding railway_by_key
  begin-with-key line bytes own first is =
      let both = from-hello (meaning None line) (key_on line) own is in
      record { line = line; railway = own; key = both.1.0; first = first; hello = both.0; with_key = both.1.1.0; known = both.1.1.1 }

  -- a whole line stays the first, whatever follows
  first-stays : (held more text : List ℕ) → whole_line (line_read held) ≡ Some text → first_line (held ++ more) ≡ Some text
  first-stays held more text is = ap whole_line (line_read-whole held more (is-whole (line_read held) text is)) ∙ is
    where
      whole-if : (whole : Bool) (t text : List ℕ) → (if whole then Some t else None) ≡ Some text → whole ≡ true
      whole-if true t text is = refl
      whole-if false t text is = cc

      is-whole : (line : LineRead) (text : List ℕ) → whole_line line ≡ Some text → line.is_whole ≡ true
      is-whole line text is = whole-if line.is_whole line.text text is

  -- what is given of a connection, by what was held of it
  given-bytes : (held left bytes : List ℕ) (admission : Admission) → bytes ≡ held ++ left → admission ≡ admission_by keys (whole_line (line_read held)) (length held) → IsGuarded keys (Some bytes) (given_by admission (Some (held ++ left)))
  given-bytes held left bytes (Admitted own) all is =
      let by = by-line (whole_line (line_read held)) (length held) own (sym is) in
      inr (sym all, begin-with-key by.0 bytes own (subst (λ b. first_line b ≡ Some by.0) (sym all) (first-stays held left by.0 by.1.0)) by.1.1)
  given-bytes held left bytes WrongKey all is = inl refl
  given-bytes held left bytes NoMemory all is = inl refl
  given-bytes held left bytes NoLine all is = inl refl
  given-bytes held left bytes NotAsked all is = absurd (asked (whole_line (line_read held)) (length held) (sym is))

  pub guarded : (held : List ℕ) (old new : Option (List ℕ)) (admission : Admission) → Consumes old new held → admission ≡ admission_by keys (whole_line (line_read held)) (length held) → IsGuarded keys old (given_by admission (prepend_known held new))
  guarded held None new admission consumes is = tt
  guarded held (Some bytes) None admission consumes is = absurd consumes
  guarded held (Some bytes) (Some left) admission consumes is = given-bytes held left bytes admission consumes is

  -- what was read of a connection that is admitted begins with its key
  begun-by : (held : List ℕ) (admission : Admission) → admission ≡ admission_by keys (whole_line (line_read held)) (length held) → is_admitted admission ≡ true → BeginWithKey keys held
  begun-by held (Admitted own) is admitted = let by = by-line (whole_line (line_read held)) (length held) own (sym is) in begin-with-key by.0 held own by.1.0 by.1.1
  begun-by held WrongKey is admitted = cc
  begun-by held NoMemory is admitted = cc
  begun-by held NoLine is admitted = cc
  begun-by held NotAsked is admitted = absurd (asked (whole_line (line_read held)) (length held) (sym is))

  begun-more : (held left : List ℕ) → BeginWithKey keys held → BeginWithKey keys (held ++ left)
  begun-more held left b = record { line = b.line; railway = b.railway; key = b.key; first = first-stays held left b.line b.first; hello = b.hello; with_key = b.with_key; known = b.known }

  -- and so does what is given of it
  behind-bytes : (held left : List ℕ) (admission : Admission) → (is_admitted admission ≡ true → BeginWithKey keys held) → IsBehindKey keys (given_by admission (Some (held ++ left)))
  behind-bytes held left (Admitted own) begun = inr (begun-more held left (begun refl))
  behind-bytes held left WrongKey begun = inl refl
  behind-bytes held left NoMemory begun = inl refl
  behind-bytes held left NoLine begun = inl refl
  behind-bytes held left NotAsked begun = inr (begun-more held left (begun refl))

  behind-unknown : (admission : Admission) → IsBehindKey keys (given_by admission None)
  behind-unknown (Admitted own) = tt
  behind-unknown WrongKey = inl refl
  behind-unknown NoMemory = inl refl
  behind-unknown NoLine = inl refl
  behind-unknown NotAsked = tt

  pub behind : (held : List ℕ) (left : Option (List ℕ)) (admission : Admission) → (is_admitted admission ≡ true → BeginWithKey keys held) → IsBehindKey keys (given_by admission (prepend_known held left))
  behind held None admission begun = behind-unknown admission
  behind held (Some left) admission begun = behind-bytes held left admission begun

  -- nothing is given
  pub guarded-none : (old : Option (List ℕ)) → IsGuarded keys old (Some [])
  guarded-none None = tt
  guarded-none (Some bytes) = inl refl

  by-whole : (line : LineRead) (m n : ℕ) → line.is_whole ≡ true → admission_by keys (whole_line line) m ≡ admission_by keys (whole_line line) n
  by-whole line m n whole = rw whole refl

  -- what was held is enough to decide by
  enough : (held left : List ℕ) → length held ≤ 65537 → IsEnough (line_read held).is_whole held (Some left) → admission_of keys (take 65537 (held ++ left)) ≡ admission_by keys (whole_line (line_read held)) (length held)
  enough held left few (inl whole) =
      let more = take (65537 - length held) left in
      ap (admission_of keys) (take-held held left few)
      ∙ ap (λ l. admission_by keys (whole_line l) (length (held ++ more))) (line_read-whole held more whole)
      ∙ by-whole (line_read held) (length (held ++ more)) (length held) whole
  enough held left few (inr (inl long)) =
      let none : 65537 - length held ≡ 0 = omega arith in
      ap (admission_of keys) (take-held held left few ∙ ap (λ n. held ++ take n left) none ∙ append-nil held)
  enough held left few (inr (inr end)) =
      ap (admission_of keys) (take-held held left few ∙ ap (λ l. held ++ take (65537 - length held) l) end ∙ ap (λ l. held ++ l) (take_all (65537 - length held) [] (omega arith)) ∙ append-nil held)

  pub decided : (held : List ℕ) (old new : Option (List ℕ)) (admission : Admission) (failed_before failed : ℕ) → length held ≤ 65537 → Consumes old new held → IsEnough (line_read held).is_whole held new
      → (admission ≡ admission_by keys (whole_line (line_read held)) (length held)) ⊎ (admission ≡ NoMemory) → IsDecided keys old admission failed_before failed
  decided held None new admission failed_before failed few consumes is_enough is = tt
  decided held (Some bytes) None admission failed_before failed few consumes is_enough is = absurd consumes
  decided held (Some bytes) (Some left) admission failed_before failed few consumes is_enough (inl is) = inl (is ∙ sym (enough held left few is_enough) ∙ ap (λ b. admission_of keys (take 65537 b)) (sym consumes))
  decided held (Some bytes) (Some left) admission failed_before failed few consumes is_enough (inr is) = inr (inl is)

  pub decided-memory : (old : Option (List ℕ)) (failed_before failed : ℕ) → IsDecided keys old NoMemory failed_before failed
  decided-memory None failed_before failed = tt
  decided-memory (Some bytes) failed_before failed = inr (inl refl)

  pub decided-failed : (old : Option (List ℕ)) (failed_before failed : ℕ) → failed ≡ failed_before + 1 → IsDecided keys old NoLine failed_before failed
  decided-failed None failed_before failed one = tt
  decided-failed (Some bytes) failed_before failed one = inr (inr (refl, one))

  -- the same by what is known of the line
  pub guarded-of : (held : List ℕ) (line : LineRead) (old new : Option (List ℕ)) (admission : Admission) → Consumes old new held → line ≡ line_read held
      → (admission ≡ admission_by keys (whole_line line) (length held)) ⊎ (admission ≡ NoMemory) → IsGuarded keys old (given_by admission (prepend_known held new))
  guarded-of held line old new admission consumes by (inl is) = guarded held old new admission consumes (is ∙ ap (λ l. admission_by keys (whole_line l) (length held)) by)
  guarded-of held line old new admission consumes by (inr is) = subst (λ a. IsGuarded keys old (given_by a (prepend_known held new))) (sym is) (guarded-none old)

  pub begun-of : (held : List ℕ) (line : LineRead) (admission : Admission) → line ≡ line_read held → (admission ≡ admission_by keys (whole_line line) (length held)) ⊎ (admission ≡ NoMemory) → is_admitted admission ≡ true → BeginWithKey keys held
  begun-of held line admission by (inl is) admitted = begun-by held admission (is ∙ ap (λ l. admission_by keys (whole_line l) (length held)) by) admitted
  begun-of held line admission by (inr is) admitted = absurd (false≢true (subst (λ a. is_admitted a ≡ true) is admitted))

  pub decided-of : (held : List ℕ) (line : LineRead) (old new : Option (List ℕ)) (admission : Admission) (failed_before failed : ℕ) → length held ≤ 65537 → Consumes old new held → line ≡ line_read held → IsEnough line.is_whole held new
      → (admission ≡ admission_by keys (whole_line line) (length held)) ⊎ (admission ≡ NoMemory) → IsDecided keys old admission failed_before failed
  decided-of held line old new admission failed_before failed few consumes by is_enough (inl is) =
      decided held old new admission failed_before failed few consumes (subst (λ (l : LineRead). IsEnough l.is_whole held new) by is_enough) (inl (is ∙ ap (λ l. admission_by keys (whole_line l) (length held)) by))
  decided-of held line old new admission failed_before failed few consumes by is_enough (inr is) =
      decided held old new admission failed_before failed few consumes (subst (λ (l : LineRead). IsEnough l.is_whole held new) by is_enough) (inr is)
