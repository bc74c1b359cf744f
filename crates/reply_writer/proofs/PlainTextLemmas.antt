-- The texts that are written are plain.
use Rattle.reply_writer.proofs.Common.{◌≡◌, ℕ, List, [], ◌∷◌, Bool, true, false, Result, Ok, Err, refl, ap, ◌∙◌, subst, arith, take, drop, map, length, take-append-drop, if◌then◌else◌, ◌||◌, ◌==◌, codes, is_ascii_digit, is_ascii_uppercase, list_all, and_parts, and_from, nat_tests, list_all-append, bytes_eq-Decides, number_of, has_twelve_digits, moment_of, has_form, is_moment, digit_as_zero, is_railway, is_place, is_name, is_unit_code, has_unit_form, are_letters_then_digits, are_code_letters, are_name_letters, ends_in_check_digit, movement_name, body_name, field_name, stage_name, status_name, why_name, is_plain_letter, is_plain, Field, BodyName, MovementName, Stage, Status, Why}
use Rattle.taf_messages.specs.declared.field.Field.TheVariants as fields
use Rattle.taf_messages.specs.declared.kind.BodyName.TheVariants as bodies
use Rattle.taf_messages.specs.declared.kind.MovementName.TheVariants as movements
use Rattle.taf_messages.specs.declared.record.Stage.TheVariants as stages
use Rattle.taf_messages.specs.declared.record.Status.TheVariants as statuses
use Rattle.taf_messages.specs.declared.reply.Why.TheVariants as whys

-- ---- letters

digit_is_plain : (x : ℕ) → is_ascii_digit x ≡ true → is_plain_letter x ≡ true
digit_is_plain x h = grind (arith, nat_tests)

capital_is_plain : (x : ℕ) → is_ascii_uppercase x ≡ true → is_plain_letter x ≡ true
capital_is_plain x h = grind (arith, nat_tests)

code_letter_is_plain : (x : ℕ) → (is_ascii_uppercase x || is_ascii_digit x) ≡ true → is_plain_letter x ≡ true
code_letter_is_plain x h = grind (arith, nat_tests)

name_letter_is_plain : (x : ℕ) → (is_ascii_uppercase x || is_ascii_digit x || (x == 45)) ≡ true → is_plain_letter x ≡ true
name_letter_is_plain x h = grind (arith, nat_tests)

-- a letter is plain where it is so with `0` in place of a digit
shown_is_plain : (x : ℕ) → is_plain_letter (digit_as_zero x) ≡ true → is_plain_letter x ≡ true
shown_is_plain x h = grind (arith, nat_tests)

-- ---- texts

weaker : (test : ℕ → Bool) → ((x : ℕ) → test x ≡ true → is_plain_letter x ≡ true) → (text : List ℕ) → list_all test text ≡ true → is_plain text ≡ true
weaker test each [] h = refl
weaker test each (x ∷ xs) h =
    let p = and_parts (test x) (list_all test xs) h in
    and_from (is_plain_letter x) (is_plain xs) (each x p.0) (weaker test each xs p.1)

pub railway_is_plain : (text : List ℕ) → is_railway text ≡ true → is_plain text ≡ true
railway_is_plain text h = weaker _ code_letter_is_plain text (and_parts (length text == 4) (are_code_letters text) h).1

letters_then_digits : (count : ℕ) (text : List ℕ) → are_letters_then_digits count text ≡ true → is_plain text ≡ true
letters_then_digits count text h =
    let p = and_parts (list_all is_ascii_uppercase (take count text)) (list_all is_ascii_digit (drop count text)) h in
    let both = and_from _ _ (weaker is_ascii_uppercase capital_is_plain (take count text) p.0) (weaker is_ascii_digit digit_is_plain (drop count text) p.1) in
    subst (λ t. is_plain t ≡ true) (take-append-drop count text) (list_all-append is_plain_letter (take count text) (drop count text) ∙ both)

pub place_is_plain : (text : List ℕ) → is_place text ≡ true → is_plain text ≡ true
place_is_plain text h = letters_then_digits 2 text (and_parts (length text == 7) (are_letters_then_digits 2 text) h).1

pub unit_is_plain : (text : List ℕ) → is_unit_code text ≡ true → is_plain text ≡ true
unit_is_plain text h =
    let form = (and_parts (has_unit_form text) (ends_in_check_digit text) h).0 in
    letters_then_digits 4 text (and_parts (length text == 11) (are_letters_then_digits 4 text) form).1

pub name_is_plain : (text : List ℕ) → is_name text ≡ true → is_plain text ≡ true
name_is_plain text h = weaker _ name_letter_is_plain text (and_parts _ (are_name_letters text) h).1

chosen : {A B : Type 0} (b : Bool) (r : Result A B) (e : B) (a : A) → (if b then r else Err e) ≡ Ok a → b ≡ true
chosen true r e a h = refl
chosen false r e a h = absurd cc

-- what is read as a vehicle number is plain
pub number_is_plain : (text : List ℕ) (n : ℕ) → number_of text ≡ Ok n → is_plain text ≡ true
number_is_plain text n h =
    weaker is_ascii_digit digit_is_plain text (and_parts (length text == 12) (list_all is_ascii_digit text) (chosen (has_twelve_digits text) _ _ n h)).1

as_shown : (text : List ℕ) → is_plain (map digit_as_zero text) ≡ true → is_plain text ≡ true
as_shown [] h = refl
as_shown (x ∷ xs) h =
    let p = and_parts (is_plain_letter (digit_as_zero x)) (is_plain (map digit_as_zero xs)) h in
    and_from (is_plain_letter x) (is_plain xs) (shown_is_plain x p.0) (as_shown xs p.1)

-- and what is read as a moment
pub moment_is_plain : (text : List ℕ) (n : ℕ) → moment_of text ≡ Ok n → is_plain text ≡ true
moment_is_plain text n h =
    let form : has_form text ≡ true = (and_parts (has_form text) _ (and_parts _ _ (and_parts _ _ (chosen (is_moment text) _ _ n h)).0).0).0 in
    let same : map digit_as_zero text ≡ codes "0000-00-00T00:00Z" = (bytes_eq-Decides (map digit_as_zero text) (codes "0000-00-00T00:00Z")).0 form in
    as_shown text (ap is_plain same)

-- ---- names

pub stage_is_plain : (stage : Stage) → is_plain (stage_name stage) ≡ true
stage_is_plain stages.Planned = refl
stage_is_plain stages.Released = refl
stage_is_plain stages.Running = refl
stage_is_plain stages.InYard = refl
stage_is_plain stages.Offered = refl
stage_is_plain stages.Arrived = refl
stage_is_plain stages.Delivered = refl

pub status_is_plain : (status : Status) → is_plain (status_name status) ≡ true
status_is_plain statuses.Loading = refl
status_is_plain statuses.LoadedOnJourney = refl
status_is_plain statuses.EmptyOnJourney = refl
status_is_plain statuses.Unloading = refl
status_is_plain statuses.FleetControl = refl

pub why_is_plain : (why : Why) → is_plain (why_name why) ≡ true
why_is_plain whys.UnknownWagon = refl
why_is_plain whys.UnknownConsignment = refl
why_is_plain whys.UnknownOffer = refl
why_is_plain whys.UnknownUnit = refl
why_is_plain whys.ConsignmentTaken = refl
why_is_plain whys.WagonBusy = refl
why_is_plain whys.UnitBusy = refl
why_is_plain whys.WrongStage = refl
why_is_plain whys.NotYours = refl
why_is_plain whys.WrongPlace = refl
why_is_plain whys.WrongNext = refl
why_is_plain whys.TooManyLegs = refl
why_is_plain whys.NoSuchLeg = refl
why_is_plain whys.LegStarted = refl
why_is_plain whys.NotLastLeg = refl
why_is_plain whys.OfferClosed = refl
why_is_plain whys.ListsDiffer = refl
why_is_plain whys.BeyondCalendar = refl
why_is_plain whys.NumberReused = refl
why_is_plain whys.AckAhead = refl

pub movement_is_plain : (movement : MovementName) → is_plain (movement_name movement) ≡ true
movement_is_plain movements.Release = refl
movement_is_plain movements.Departure = refl
movement_is_plain movements.YardArrival = refl
movement_is_plain movements.YardDeparture = refl
movement_is_plain movements.Exception = refl
movement_is_plain movements.Estimate = refl
movement_is_plain movements.Arrival = refl
movement_is_plain movements.Delivery = refl

pub body_is_plain : (body : BodyName) → is_plain (body_name body) ≡ true
body_is_plain (bodies.Movement movement) = movement_is_plain movement
body_is_plain bodies.Plan = refl
body_is_plain bodies.EtiAsk = refl
body_is_plain bodies.LegTime = refl
body_is_plain bodies.Offer = refl
body_is_plain bodies.Answer = refl
body_is_plain bodies.Withdraw = refl
body_is_plain bodies.Reroute = refl

pub field_is_plain : (field : Field) → is_plain (field_name field) ≡ true
field_is_plain fields.From = refl
field_is_plain fields.No = refl
field_is_plain fields.Consignment = refl
field_is_plain fields.Load = refl
field_is_plain fields.Commit = refl
field_is_plain fields.Wagons = refl
field_is_plain fields.Legs = refl
field_is_plain fields.Units = refl
field_is_plain fields.Wagon = refl
field_is_plain fields.At = refl
field_is_plain fields.Place = refl
field_is_plain fields.Delay = refl
field_is_plain fields.Leg = refl
field_is_plain fields.Minutes = refl
field_is_plain fields.Train = refl
field_is_plain fields.To = refl
field_is_plain fields.Offerer = refl
field_is_plain fields.Offer = refl
field_is_plain fields.Received = refl
field_is_plain fields.Refused = refl
field_is_plain fields.Manager = refl
field_is_plain fields.Limit = refl
field_is_plain fields.Item = refl
field_is_plain fields.Unit = refl
field_is_plain fields.Ru = refl
field_is_plain fields.Origin = refl
field_is_plain fields.Target = refl
