-- Paths and their parts.
use Rattle.board_paths.proofs.Common.{◌≡◌, ◌≢◌, ℕ, ◌+◌, ◌<◌, ◌==◌, ◌||◌, Bool, true, false, List, [], ◌∷◌, ◌++◌, length, take, drop, get_or, codes, Option, Some, None, if◌then◌else◌, refl, sym, ◌∙◌, ap, subst, arith, append_assoc, length-append, eqb, eqb-true, take-append_seam, drop-append_seam, and_parts, false≢true, Decides-eqb, common_steps, AllPass-from_list_all, slice_eq-Decides, IsUtf8-from_ascii, IsAscii-from_all, is_ascii_digit, is_ascii_uppercase, IsUtf8, pointwise, is_railway, are_code_letters, IsVehicleNumber, digits_of, number_of, text_of, length-text_of, text_is_read, IsAscii-letters, Resource, Entry, Page, Wagons, Legs, Wagon, WagonLegs, Health, Metrics, below, wagon_name, path_of, IsValid, PathsNameOneResource, WhatIsBelowIsTheRailways, Result, NumberFault, result_unwrap_or, IsSplitAt, IfNone, IfSome, MatchOption, Bor, take-append-drop}

-- where two lists begin with parts of one length, these are the same, and so is the rest
pub same_parts : (a b x y : List ℕ) → length a ≡ length b → a ++ x ≡ b ++ y → (a ≡ b) × (x ≡ y)
same_parts a b x y long e = (
  sym (take-append_seam a x) ∙ ap (λ (n : ℕ). take n (a ++ x)) long ∙ ap (λ (l : List ℕ). take (length b) l) e ∙ take-append_seam b y,
  sym (drop-append_seam a x) ∙ ap (λ (n : ℕ). drop n (a ++ x)) long ∙ ap (λ (l : List ℕ). drop (length b) l) e ∙ drop-append_seam b y,
)

-- what `==` finds to differ differs
pub differs : (xs ys : List ℕ) (r : Bool) → r ≡ pointwise eqb xs ys → r ≡ false → xs ≢ ys
differs xs ys r h off e = false≢true (sym off ∙ (slice_eq-Decides Decides-eqb xs ys r h).1 e)

-- ---- codes and numbers

pub length-railway : (code : List ℕ) → is_railway code ≡ true → length code ≡ 4
length-railway code h = eqb-true _ _ (and_parts (length code == 4) (are_code_letters code) h).0

code_letter_below : (byte : ℕ) → (is_ascii_uppercase byte || is_ascii_digit byte) ≡ true → byte < 128
code_letter_below byte h = grind (arith, common_steps)

-- the code of a railway and the text of a number are texts
pub IsUtf8-railway : (code : List ℕ) → is_railway code ≡ true → IsUtf8 code
IsUtf8-railway code h =
    let letters = (and_parts (length code == 4) (are_code_letters code) h).1 in
    IsUtf8-from_ascii code (IsAscii-from_all code (λ k d within. code_letter_below _ (AllPass-from_list_all _ code letters k d within)))

pub IsUtf8-number : (w : ℕ) → IsVehicleNumber w → IsUtf8 (text_of w)
IsUtf8-number w vehicle = IsUtf8-from_ascii (text_of w) (IsAscii-letters (digits_of w) vehicle.valid.digits)

-- numbers of one text are the same
pub number-text_of : (w v : ℕ) → IsVehicleNumber w → IsVehicleNumber v → text_of w ≡ text_of v → w ≡ v
number-text_of w v vw vv e =
    let read_w = text_is_read w vw in
    let read_v = text_is_read v vv in
    let same = ap number_of e in
    cc

-- ---- paths below a railway

pub length-below : (code name : List ℕ) → is_railway code ≡ true → length (below code name) ≡ 6 + length name
length-below code name h = let four : length code ≡ 4 = length-railway code h in simp length-append (omega arith)

pub length-wagon_name : (w : ℕ) (ending : List ℕ) → length (wagon_name w ending) ≡ 19 + length ending
length-wagon_name w ending = let twelve : length (text_of w) ≡ 12 = length-text_of w in simp length-append (omega arith)

-- two slashes and what is between them go with what is behind them
pub slashes_same : (code name l rest : List ℕ) → is_railway code ≡ true → length l ≡ 6 → below code name ≡ l ++ rest → (codes "/" ++ code ++ codes "/" ≡ l) × (name ≡ rest)
slashes_same code name l rest h six e =
    let four : length code ≡ 4 = length-railway code h in
    same_parts (codes "/" ++ code ++ codes "/") l name rest (simp length-append (omega arith)) e

-- a path below a railway is of one railway and has one name
pub below_same : (a b x y : List ℕ) → is_railway a ≡ true → is_railway b ≡ true → below a x ≡ below b y → (a ≡ b) × (x ≡ y)
below_same a b x y ra rb e =
    let four : length a ≡ 4 = length-railway a ra in
    let four' : length b ≡ 4 = length-railway b rb in
    let outer = slashes_same a x (codes "/" ++ b ++ codes "/") y ra (simp length-append (omega arith)) e in
    let inner = same_parts (codes "/" ++ a) (codes "/" ++ b) (codes "/") (codes "/") (simp length-append (omega arith)) outer.0 in
    ((same_parts (codes "/") (codes "/") a b refl inner.0).1, outer.1)

-- what is no longer than a slash and a code is below no railway
pub short_is_not_below : (code name path : List ℕ) → is_railway code ≡ true → length path < 6 → path ≢ below code name
short_is_not_below code name path h short e =
    let six = length-below code name h in
    let long : length path ≡ length (below code name) = ap length e in
    omega arith

-- nor is a path whose sixth letter is no slash
no_slash_is_not_below : (code name front rest : List ℕ) (letter : ℕ) → is_railway code ≡ true → length front ≡ 5 → letter ≢ 47 → front ++ letter ∷ [] ++ rest ≢ below code name
no_slash_is_not_below code name front rest letter h five other e =
    let four : length code ≡ 4 = length-railway code h in
    let outer = slashes_same code name (front ++ letter ∷ []) rest h (simp length-append (omega arith)) (sym e) in
    let inner = same_parts (codes "/" ++ code) front (codes "/") (letter ∷ []) (simp length-append (omega arith)) outer.0 in
    other (sym (ap (λ (l : List ℕ). get_or l 0 0) inner.1))

pub health_is_not_below : (code name : List ℕ) → is_railway code ≡ true → codes "/health" ≢ below code name
health_is_not_below code name h = no_slash_is_not_below code name (codes "/heal") (codes "h") 116 h refl (λ (e : 116 ≡ 47). omega arith)

pub metrics_is_not_below : (code name : List ℕ) → is_railway code ≡ true → codes "/metrics" ≢ below code name
metrics_is_not_below code name h = no_slash_is_not_below code name (codes "/metr") (codes "cs") 105 h refl (λ (e : 105 ≡ 47). omega arith)

-- ---- where no resource has a path

-- a resource that has none of these three paths is below a railway
pub none_of : (path : List ℕ) → path ≢ codes "/" → path ≢ codes "/health" → path ≢ codes "/metrics"
    → ((code name : List ℕ) → is_railway code ≡ true → below code name ≢ path) → (r : Resource) → IsValid r → path_of r ≢ path
none_of path entry health metrics other Entry v e = entry (sym e)
none_of path entry health metrics other Health v e = health (sym e)
none_of path entry health metrics other Metrics v e = metrics (sym e)
none_of path entry health metrics other (Page code) v e = other code [] v e
none_of path entry health metrics other (Wagons code) v e = other code (codes "wagons.json") v e
none_of path entry health metrics other (Legs code) v e = other code (codes "legs.json") v e
none_of path entry health metrics other (Wagon code w) v e = other code (wagon_name w (codes ".json")) v.0 e
none_of path entry health metrics other (WagonLegs code w) v e = other code (wagon_name w (codes "/legs.json")) v.0 e

-- and one below a railway that has none of these three names is a wagon's
pub none_below : (railway name : List ℕ) → is_railway railway ≡ true → name ≢ [] → name ≢ codes "wagons.json" → name ≢ codes "legs.json"
    → ((w : ℕ) → IsVehicleNumber w → wagon_name w (codes ".json") ≢ name)
    → ((w : ℕ) → IsVehicleNumber w → wagon_name w (codes "/legs.json") ≢ name)
    → (r : Resource) → IsValid r → path_of r ≢ below railway name
none_below railway name h page wagons legs wagon wagon_legs Entry v e = short_is_not_below railway name (codes "/") h (omega arith) e
none_below railway name h page wagons legs wagon wagon_legs Health v e = health_is_not_below railway name h e
none_below railway name h page wagons legs wagon wagon_legs Metrics v e = metrics_is_not_below railway name h e
none_below railway name h page wagons legs wagon wagon_legs (Page code) v e = page (sym (below_same code railway [] name v h e).1)
none_below railway name h page wagons legs wagon wagon_legs (Wagons code) v e =
    wagons (sym (below_same code railway (codes "wagons.json") name v h e).1)
none_below railway name h page wagons legs wagon wagon_legs (Legs code) v e = legs (sym (below_same code railway (codes "legs.json") name v h e).1)
none_below railway name h page wagons legs wagon wagon_legs (Wagon code w) v e =
    wagon w v.1 (below_same code railway (wagon_name w (codes ".json")) name v.0 h e).1
none_below railway name h page wagons legs wagon wagon_legs (WagonLegs code w) v e =
    wagon_legs w v.1 (below_same code railway (wagon_name w (codes "/legs.json")) name v.0 h e).1

-- the name of a wagon's resource in two parts
pub wagon_name_same : (w : ℕ) (ending front rest : List ℕ) → length front ≡ 19 → wagon_name w ending ≡ front ++ rest → (codes "wagons/" ++ text_of w ≡ front) × (ending ≡ rest)
wagon_name_same w ending front rest long e =
    let twelve : length (text_of w) ≡ 12 = length-text_of w in
    same_parts (codes "wagons/" ++ text_of w) front ending rest (simp length-append (omega arith)) e

-- a name shorter than the start of a wagon's names and a number is no wagon's
pub short_is_no_wagon : (w : ℕ) (ending name : List ℕ) → length name < 19 → wagon_name w ending ≢ name
short_is_no_wagon w ending name short e =
    let nineteen = length-wagon_name w ending in
    let long : length (wagon_name w ending) ≡ length name = ap length e in
    omega arith

-- what is split is its parts joined
pub split_joins : (xs front back : List ℕ) (mid : ℕ) → IsSplitAt xs mid front back → xs ≡ front ++ back
split_joins xs front back mid split = let whole = take-append-drop mid xs in cc

-- where there is none, what is said of none is all that is to be shown
pub if_none : {A : Type 0} (r : Option A) (P : Type 0) → P → IfNone r P
if_none None P h = h
if_none (Some x) P h = tt

-- ---- what the parts of a path say of the whole

pub slashes_found : (o : Option (List ℕ)) (letters front : List ℕ) → codes "/" ++ letters ++ codes "/" ≡ front
    → IfSome o (λ r. r ≡ letters) → IfSome o (λ r. codes "/" ++ r ++ codes "/" ≡ front)
slashes_found None letters front e h = tt
slashes_found (Some r) letters front e h = ap (λ (l : List ℕ). codes "/" ++ l ++ codes "/") h ∙ e

-- what is between the slashes is one code
between_same : (a b : List ℕ) → codes "/" ++ a ++ codes "/" ≡ codes "/" ++ b ++ codes "/" → a ≡ b
between_same a b e =
    let both : length (codes "/" ++ a ++ codes "/") ≡ length (codes "/" ++ b ++ codes "/") = ap length e in
    let counted = simp length-append at both in
    let long : length (codes "/" ++ a) ≡ length (codes "/" ++ b) = omega arith in
    (same_parts (codes "/") (codes "/") a b refl (same_parts (codes "/" ++ a) (codes "/" ++ b) (codes "/") (codes "/") long e).0).1

pub slashes_none : (o : Option (List ℕ)) (letters front : List ℕ) → codes "/" ++ letters ++ codes "/" ≡ front
    → IfNone o (is_railway letters ≢ true) → IfNone o ((code : List ℕ) → is_railway code ≡ true → codes "/" ++ code ++ codes "/" ≢ front)
slashes_none None letters front e h = λ code v f. h (subst (λ (l : List ℕ). is_railway l ≡ true) (between_same code letters (f ∙ sym e)) v)
slashes_none (Some r) letters front e h = tt

pub between_found : (o : Option (Bor (List ℕ))) (front rest : List ℕ) → front ≡ codes "/" ++ rest
    → MatchOption o ((l : List ℕ) → rest ≢ l ++ codes "/") (λ l. rest ≡ l.now ++ codes "/") → IfSome o (λ l. codes "/" ++ l.now ++ codes "/" ≡ front)
between_found None front rest e h = tt
between_found (Some l) front rest e h = sym (e ∙ ap (λ (r : List ℕ). codes "/" ++ r) h)

pub behind_found : (o : Option ℕ) (start digits front : List ℕ) → front ≡ start ++ digits
    → IfSome o (λ w. text_of w ≡ digits) → IfSome o (λ w. start ++ text_of w ≡ front)
behind_found None start digits front e h = tt
behind_found (Some w) start digits front e h = ap (λ (l : List ℕ). start ++ l) h ∙ sym e

-- what is behind one start is one text
pub behind_same : (start a b : List ℕ) → start ++ a ≡ start ++ b → a ≡ b
behind_same start a b e = (same_parts start start a b refl e).1

pub behind_none : (o : Option ℕ) (start digits front : List ℕ) → front ≡ start ++ digits
    → IfNone o ((w : ℕ) → IsVehicleNumber w → text_of w ≢ digits) → IfNone o ((w : ℕ) → IsVehicleNumber w → start ++ text_of w ≢ front)
behind_none None start digits front e h = λ w v f. h w v (behind_same start (text_of w) digits (f ∙ e))
behind_none (Some w) start digits front e h = tt

-- ---- the laws

-- how long the path is, by which resources of two kinds differ
abbrev path_len : Resource → ℕ
path_len Entry = 1
path_len (Page code) = 6
path_len (Wagons code) = 17
path_len (Legs code) = 15
path_len (Wagon code w) = 30
path_len (WagonLegs code w) = 35
path_len Health = 7
path_len Metrics = 8

length-path_of : (r : Resource) → IsValid r → length (path_of r) ≡ path_len r
length-path_of Entry v = refl
length-path_of (Page code) v = length-below code [] v
length-path_of (Wagons code) v = length-below code (codes "wagons.json") v
length-path_of (Legs code) v = length-below code (codes "legs.json") v
length-path_of (Wagon code w) v =
    length-below code (wagon_name w (codes ".json")) v.0 ∙ ap (λ (n : ℕ). 6 + n) (length-wagon_name w (codes ".json"))
length-path_of (WagonLegs code w) v =
    length-below code (wagon_name w (codes "/legs.json")) v.0 ∙ ap (λ (n : ℕ). 6 + n) (length-wagon_name w (codes "/legs.json"))
length-path_of Health v = refl
length-path_of Metrics v = refl

-- the railway's code in a path below it
code_at : List ℕ → List ℕ
code_at path = take 4 (drop 1 path)

code_at-below : (code name : List ℕ) → is_railway code ≡ true → code_at (below code name) ≡ code
unfolding code_at
code_at-below code name h =
    let four = length-railway code h in
    ap (λ (n : ℕ). take n (drop 1 (below code name))) (sym four)
    ∙ ap (λ (l : List ℕ). take (length code) l) (append_assoc code (codes "/") name)
    ∙ take-append_seam code (codes "/" ++ name)

-- the wagon in the path of what is shown of it
wagon_at : List ℕ → ℕ
wagon_at path = result_unwrap_or (number_of (take 12 (drop 13 path))) 0

wagon_at-below : (code : List ℕ) (w : ℕ) (ending : List ℕ) → is_railway code ≡ true → IsVehicleNumber w → wagon_at (below code (wagon_name w ending)) ≡ w
unfolding wagon_at
wagon_at-below code w ending h vehicle =
    let four : length code ≡ 4 = length-railway code h in
    let twelve : length (text_of w) ≡ 12 = length-text_of w in
    let front : List ℕ = codes "/" ++ code ++ codes "/" ++ codes "wagons/" in
    let back : List ℕ = text_of w ++ ending in
    let parts : below code (wagon_name w ending) ≡ front ++ back =
    ap (λ (l : List ℕ). codes "/" ++ code ++ codes "/" ++ l) (append_assoc (codes "wagons/") (text_of w) ending)
    ∙ sym (append_assoc (codes "/" ++ code ++ codes "/") (codes "wagons/") back) in
    let long : 13 ≡ length front = simp length-append (omega arith) in
    let text : take 12 (drop 13 (below code (wagon_name w ending))) ≡ text_of w =
    ap (λ (l : List ℕ). take 12 (drop 13 l)) parts
    ∙ ap (λ (n : ℕ). take 12 (drop n (front ++ back))) long
    ∙ ap (λ (l : List ℕ). take 12 l) (drop-append_seam front back)
    ∙ ap (λ (n : ℕ). take n back) (sym twelve)
    ∙ take-append_seam (text_of w) ending in
    ap (λ (l : List ℕ). result_unwrap_or (number_of l) 0) text
    ∙ ap (λ (r : Result ℕ NumberFault). result_unwrap_or r 0) (text_is_read w vehicle)

-- the resource whose path of this length this is
abbrev rebuilt : ℕ → List ℕ → Resource
rebuilt n path =
    if n == 1 then Entry
    else if n == 6 then Page (code_at path)
    else if n == 17 then Wagons (code_at path)
    else if n == 15 then Legs (code_at path)
    else if n == 30 then Wagon (code_at path) (wagon_at path)
    else if n == 35 then WagonLegs (code_at path) (wagon_at path)
    else if n == 7 then Health
    else Metrics

rebuilt-path_of : (r : Resource) → IsValid r → rebuilt (path_len r) (path_of r) ≡ r
rebuilt-path_of Entry v = refl
rebuilt-path_of (Page code) v = ap Page (code_at-below code [] v)
rebuilt-path_of (Wagons code) v = ap Wagons (code_at-below code (codes "wagons.json") v)
rebuilt-path_of (Legs code) v = ap Legs (code_at-below code (codes "legs.json") v)
rebuilt-path_of (Wagon code w) v =
    let railway = code_at-below code (wagon_name w (codes ".json")) v.0 in
    let wagon = wagon_at-below code w (codes ".json") v.0 v.1 in
    cc
rebuilt-path_of (WagonLegs code w) v =
    let railway = code_at-below code (wagon_name w (codes "/legs.json")) v.0 in
    let wagon = wagon_at-below code w (codes "/legs.json") v.0 v.1 in
    cc
rebuilt-path_of Health v = refl
rebuilt-path_of Metrics v = refl

pub paths_name_one_resource : PathsNameOneResource
paths_name_one_resource r s vr vs e =
    let long = sym (length-path_of r vr) ∙ ap length e ∙ length-path_of s vs in
    sym (rebuilt-path_of r vr)
    ∙ ap (λ (n : ℕ). rebuilt n (path_of r)) long
    ∙ ap (λ (path : List ℕ). rebuilt (path_len s) path) e
    ∙ rebuilt-path_of s vs

pub what_is_below_is_the_railways : WhatIsBelowIsTheRailways
what_is_below_is_the_railways Entry railway name v h e = absurd (short_is_not_below railway name (codes "/") h (omega arith) e)
what_is_below_is_the_railways Health railway name v h e = absurd (health_is_not_below railway name h e)
what_is_below_is_the_railways Metrics railway name v h e = absurd (metrics_is_not_below railway name h e)
what_is_below_is_the_railways (Page code) railway name v h e = ap Some (below_same code railway [] name v h e).0
what_is_below_is_the_railways (Wagons code) railway name v h e = ap Some (below_same code railway (codes "wagons.json") name v h e).0
what_is_below_is_the_railways (Legs code) railway name v h e = ap Some (below_same code railway (codes "legs.json") name v h e).0
what_is_below_is_the_railways (Wagon code w) railway name v h e =
    ap Some (below_same code railway (wagon_name w (codes ".json")) name v.0 h e).0
what_is_below_is_the_railways (WagonLegs code w) railway name v h e =
    ap Some (below_same code railway (wagon_name w (codes "/legs.json")) name v.0 h e).0
