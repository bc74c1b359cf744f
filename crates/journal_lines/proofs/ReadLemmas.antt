-- The line of a call is read as the call.
use Rattle.journal_lines.proofs.Common.{◌≡◌, ℕ, true, false, List, [], ◌∷◌, ◌++◌, drop, refl, ap, ◌∙◌, Option, Some, None, Result, Ok, Err, codes}
use Rattle.std.proofs.Common.{append_assoc}
use Rattle.journal.specs.Lines.{is_nil}
use Rattle.json.specs.Print.{quoted}
unfoldable use Rattle.json.specs.Print.{escape_byte}
use Rattle.serde_json.specs.Data.{Data, string, object, Members, member}
use Rattle.serde_json.specs.Written.{compact_text, members_text}
use Rattle.trip_plan.specs.Trip.{Trip}
use Rattle.trip_plan.specs.declared.parts.UnitLoad.{UnitLoad}
use Rattle.json_tokens.specs.Texts.{Fields, members, fields}
use Rattle.json_tokens.proofs.PlainTextLemmas.{escape_plain}
use Rattle.json_tokens.proofs.ReadLemmas.{read-compact_text, is_ordered, is_below_all}
use Rattle.taf_messages.specs.declared.fault.RecordFault.{RecordFault}
use Rattle.taf_messages.specs.declared.kind.Kind.{Kind}
use Rattle.taf_messages.specs.declared.kind.Kind.TheVariants as kinds
use Rattle.taf_messages.specs.declared.kind.BodyName.TheVariants as names
use Rattle.taf_messages.specs.declared.kind.MovementName.TheVariants as movements
use Rattle.taf_messages.specs.declared.movement.MovementKind.{MovementKind}
use Rattle.taf_messages.specs.declared.movement.MovementKind.TheVariants.{Release, Departure, YardArrival, YardDeparture, Exception, Estimate, Arrival, Delivery}
use Rattle.taf_messages.specs.declared.message.TrainAnswer.{TrainAnswer}
use Rattle.taf_messages.specs.declared.message.Body.{Body}
use Rattle.taf_messages.specs.declared.message.Body.TheVariants as body
use Rattle.taf_messages.specs.declared.call.Call.{Call}
use Rattle.taf_messages.specs.declared.call.Call.TheVariants as calls
use Rattle.call_reader.specs.Reading.{◌>>=◌, kind_of, call_read}
unfoldable use Rattle.call_reader.specs.Reading.{plan_of, movement_kind_of, movement_of, offer_of, answer_of, body_of, message_of, call_of_kind, call_of}
use Rattle.reply_writer.specs.Laws.{IsReadAs, IsCall}
unfoldable use Rattle.reply_writer.specs.CallShapes.{call_fields, deviation_fields}
unfoldable use Rattle.reply_writer.specs.Shapes.{body_fields, first_plan_fields, last_plan_fields, movement_fields, offer_fields, answer_fields, leg_time_fields}
use Rattle.reply_writer.proofs.CallLemmas.{call_is_read, call_ordered, call_spelt}
use Rattle.reply_writer.proofs.Utf8Lemmas.{HasTexts, utf8-compact_text, small-HasTexts}
use Rattle.journal_lines.specs.Sums.{are_sum_digits}
use Rattle.journal_lines.specs.CallLines.{call_text, line_data, line_with, digits_in_front}
use Rattle.journal_lines.proofs.DigitLemmas.{digits_are_plain, utf8-digits}

-- ---- the key of the sum stands before all others

movement_below : (by : List ℕ) (number w at : ℕ) (what : MovementKind) → is_below_all (codes "_sum") (members (body_fields by number (body.Movement (record { wagon = w; at = at; what = what })))) ≡ true
unfolding body_fields movement_fields
movement_below by number w at Release = refl
movement_below by number w at Departure = refl
movement_below by number w at (YardArrival place) = refl
movement_below by number w at (YardDeparture place) = refl
movement_below by number w at (Exception delay) = refl
movement_below by number w at Estimate = refl
movement_below by number w at Arrival = refl
movement_below by number w at Delivery = refl

plan_below : (by : List ℕ) (number : ℕ) (p : Trip) (us : List UnitLoad) → p.units ≡ us → is_below_all (codes "_sum") (members (body_fields by number (body.Plan p))) ≡ true
unfolding body_fields first_plan_fields last_plan_fields
plan_below by number p [] h = rw h refl
plan_below by number p (u ∷ us) h = rw h refl

answer_below : (by : List ℕ) (number : ℕ) (a : TrainAnswer) (manager : Option (List ℕ)) → a.manager ≡ manager → is_below_all (codes "_sum") (members (body_fields by number (body.Answer a))) ≡ true
unfolding body_fields answer_fields
answer_below by number a None h = rw h refl
answer_below by number a (Some manager) h = rw h refl

body_below : (by : List ℕ) (number : ℕ) (b : Body) → is_below_all (codes "_sum") (members (body_fields by number b)) ≡ true
unfolding body_fields offer_fields leg_time_fields
body_below by number (body.Plan p) = plan_below by number p p.units refl
body_below by number (body.Movement m) = movement_below by number m.wagon m.at m.what
body_below by number (body.EtiAsk w) = refl
body_below by number (body.LegTime w leg minutes) = refl
body_below by number (body.Offer o) = refl
body_below by number (body.Answer a) = answer_below by number a a.manager refl
body_below by number (body.Withdraw at offer) = refl
body_below by number (body.Reroute w route) = refl

call_below : (call : Call) → is_below_all (codes "_sum") (members (call_fields call)) ≡ true
unfolding call_fields deviation_fields
call_below (calls.Send m) = body_below m.by m.no m.body
call_below (calls.Ask by wagon) = refl
call_below (calls.AskUnit by unit) = refl
call_below (calls.Deviation by consignment) = refl
call_below (calls.Fetch by limit) = refl
call_below (calls.Ack by item) = refl

line_ordered : (digits : List ℕ) (call : Call) → is_ordered (line_data digits call) 127 ≡ true
line_ordered digits call = rw (call_below call) (call_ordered 124 call)

-- ---- a reader passes over it

then_same : (r : Result Kind RecordFault) (f g : Kind → Result Call RecordFault) → ((kind : Kind) → f kind ≡ g kind) → (r >>= f) ≡ (r >>= g)
then_same (Ok kind) f g h = h kind
then_same (Err e) f g h = refl

passed_over : (kind : Kind) (sum : Data) (ms : Members) → call_of_kind kind (object (member (codes "_sum") sum ms)) ≡ call_of_kind kind (object ms)
unfolding plan_of movement_kind_of movement_of offer_of answer_of body_of message_of call_of_kind
passed_over (kinds.Send names.Plan) sum ms = refl
passed_over (kinds.Send (names.Movement movements.Release)) sum ms = refl
passed_over (kinds.Send (names.Movement movements.Departure)) sum ms = refl
passed_over (kinds.Send (names.Movement movements.YardArrival)) sum ms = refl
passed_over (kinds.Send (names.Movement movements.YardDeparture)) sum ms = refl
passed_over (kinds.Send (names.Movement movements.Exception)) sum ms = refl
passed_over (kinds.Send (names.Movement movements.Estimate)) sum ms = refl
passed_over (kinds.Send (names.Movement movements.Arrival)) sum ms = refl
passed_over (kinds.Send (names.Movement movements.Delivery)) sum ms = refl
passed_over (kinds.Send names.EtiAsk) sum ms = refl
passed_over (kinds.Send names.LegTime) sum ms = refl
passed_over (kinds.Send names.Offer) sum ms = refl
passed_over (kinds.Send names.Answer) sum ms = refl
passed_over (kinds.Send names.Withdraw) sum ms = refl
passed_over (kinds.Send names.Reroute) sum ms = refl
passed_over kinds.Ask sum ms = refl
passed_over kinds.AskUnit sum ms = refl
passed_over kinds.Deviation sum ms = refl
passed_over kinds.Fetch sum ms = refl
passed_over kinds.Ack sum ms = refl

same_call : (sum : Data) (ms : Members) → call_of (object (member (codes "_sum") sum ms)) ≡ call_of (object ms)
unfolding call_of
same_call sum ms = then_same (kind_of (object ms)) _ _ (λ kind. passed_over kind sum ms)

pub line_is_read : (digits : List ℕ) (call : Call) → are_sum_digits digits ≡ true → IsCall call → IsReadAs (line_with digits call) call
line_is_read digits call sum h =
    let d = line_data digits call in
    let spelt : HasTexts d = (refl, utf8-digits digits sum, call_spelt call h) in
    (utf8-compact_text d spelt, ap call_read (read-compact_text d (line_ordered digits call) (small-HasTexts d spelt)) ∙ same_call (string digits) (members (call_fields call)) ∙ call_is_read call h)

-- ---- the bytes of a line

after_comma : (fs : Fields) → is_nil fs ≡ false → members_text true (members fs) ≡ 44 ∷ drop 1 (compact_text (fields fs))
after_comma [] h = absurd (cc)
after_comma (f ∷ fs) h = refl

body_fields-some : (by : List ℕ) (number : ℕ) (b : Body) → is_nil (body_fields by number b) ≡ false
unfolding body_fields first_plan_fields movement_fields offer_fields answer_fields leg_time_fields
body_fields-some by number (body.Plan p) = refl
body_fields-some by number (body.Movement m) = refl
body_fields-some by number (body.EtiAsk w) = refl
body_fields-some by number (body.LegTime w leg minutes) = refl
body_fields-some by number (body.Offer o) = refl
body_fields-some by number (body.Answer a) = refl
body_fields-some by number (body.Withdraw at offer) = refl
body_fields-some by number (body.Reroute w route) = refl

call_fields-some : (call : Call) → is_nil (call_fields call) ≡ false
unfolding call_fields deviation_fields
call_fields-some (calls.Send m) = body_fields-some m.by m.no m.body
call_fields-some (calls.Ask by wagon) = refl
call_fields-some (calls.AskUnit by unit) = refl
call_fields-some (calls.Deviation by consignment) = refl
call_fields-some (calls.Fetch by limit) = refl
call_fields-some (calls.Ack by item) = refl

-- the text of a call with digits in front is its line with these digits
pub line_with-is : (digits : List ℕ) (call : Call) → are_sum_digits digits ≡ true → line_with digits call ≡ digits_in_front digits (call_text call)
unfolding escape_byte
line_with-is digits call sum =
    let ms = members (call_fields call) in
    ap (λ (s : List ℕ). 123 ∷ (quoted (codes "_sum") ++ 58 ∷ ((34 ∷ (s ++ 34 ∷ [])) ++ members_text true ms))) (escape_plain digits (digits_are_plain digits sum))
    ∙ ap (λ (t : List ℕ). 123 ∷ (quoted (codes "_sum") ++ 58 ∷ ((34 ∷ (digits ++ 34 ∷ [])) ++ t))) (after_comma (call_fields call) (call_fields-some call))
    ∙ ap (λ (t : List ℕ). 123 ∷ (quoted (codes "_sum") ++ 58 ∷ 34 ∷ t)) (append_assoc digits (34 ∷ []) (44 ∷ drop 1 (call_text call)))
