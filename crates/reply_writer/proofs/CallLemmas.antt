-- The text of a call is read as the call.
use Rattle.reply_writer.proofs.Common.{◌≡◌, ℕ, suc, List, true, Some, Result, Ok, Err, is_some, refl, ap, ◌∙◌, arith, if◌then◌else◌, codes, Data, get, as_object, compact_text, call_read, is_railway, kind_named, wagon_text, text, whole, is_ordered, read-compact_text, IsUtf8-are_ascii, RecordFault, BadJson}
use Rattle.call_reader.specs.Values as value_of
use Rattle.call_reader.specs.Reading.{◌>>=◌, field_of, call_of_kind, kind_of, call_of}
use Rattle.taf_messages.specs.declared.field.Field.TheVariants as field
use Rattle.taf_messages.specs.declared.kind.Kind.{Kind}
use Rattle.taf_messages.specs.declared.kind.Kind.TheVariants as kinds
use Rattle.taf_messages.specs.declared.call.Call.{Call}
use Rattle.taf_messages.specs.declared.call.Call.TheVariants as calls
use Rattle.reply_writer.specs.CallShapes.{call_fields, deviation_fields, call_data}
use Rattle.reply_writer.specs.Laws.{IsReadAs, IsCall}
use Rattle.reply_writer.proofs.FieldLemmas.{railway_read, consignment_read, unit_read, wagon_read, number_read, good_field}
use Rattle.reply_writer.proofs.MessageLemmas.{message_read}
use Rattle.reply_writer.proofs.ShapeLemmas.{message_ordered}
use Rattle.reply_writer.proofs.SpeltLemmas.{message_spelt}
use Rattle.reply_writer.proofs.Utf8Lemmas.{HasTexts, small-HasTexts, utf8-compact_text, utf8-railway, utf8-name, utf8-unit, utf8-wagon}

-- what is read after a value that was read
after : {A B : Type 0} (r : Result A RecordFault) (x : A) (f : A → Result B RecordFault) (y : Result B RecordFault) → r ≡ Ok x → f x ≡ y → (r >>= f) ≡ y
after r x f y p q = ap (λ s. s >>= f) p ∙ q

-- a tree of this kind
asked : (d : Data) (kind : Kind) (call : Call) → is_some (as_object d) ≡ true → kind_of d ≡ Ok kind → call_of_kind kind d ≡ Ok call → call_of d ≡ Ok call
unfolding call_of
asked d kind call object is says =
    ap (λ t. if t then (kind_of d >>= λ k. call_of_kind k d) else Err BadJson) object ∙ after _ kind _ _ is says

-- the railway that calls
from : (d : Data) (by : List ℕ) → get (codes "from") d ≡ Some (text by) → is_railway by ≡ true → field_of value_of.railway field.From d ≡ Ok by
from d by p h = good_field value_of.railway field.From d (text by) by p (railway_read by h)

-- a call's record is read as the call
pub call_is_read : (call : Call) → IsCall call → call_of (call_data call) ≡ Ok call
unfolding call_fields deviation_fields call_of_kind kind_named
call_is_read (calls.Send m) h = message_read m h
call_is_read (calls.Ask by wagon) h =
    let d = call_data (calls.Ask by wagon) in
    asked d kinds.Ask (calls.Ask by wagon) refl refl
    (after _ by _ _ (from d by refl h.0) (after _ wagon _ _ (good_field value_of.wagon field.Wagon d (wagon_text wagon) wagon refl (wagon_read wagon h.1)) refl))
call_is_read (calls.AskUnit by unit) h =
    let d = call_data (calls.AskUnit by unit) in
    asked d kinds.AskUnit (calls.AskUnit by unit) refl refl
    (after _ by _ _ (from d by refl h.0) (after _ unit _ _ (good_field value_of.unit field.Unit d (text unit) unit refl (unit_read unit h.1)) refl))
call_is_read (calls.Deviation by consignment) h =
    let d = call_data (calls.Deviation by consignment) in
    asked d kinds.Deviation (calls.Deviation by consignment) refl refl
    (after _ by _ _ (from d by refl h.0) (after _ consignment _ _ (good_field value_of.consignment field.Consignment d (text consignment) consignment refl (consignment_read consignment h.1)) refl))
call_is_read (calls.Fetch by limit) h =
    let d = call_data (calls.Fetch by limit) in
    asked d kinds.Fetch (calls.Fetch by limit) refl refl
    (after _ by _ _ (from d by refl h.0) (after _ limit _ _ (good_field (value_of.number 1 50) field.Limit d (whole limit) limit refl (number_read 1 50 limit h.1)) refl))
call_is_read (calls.Ack by item) h =
    let d = call_data (calls.Ack by item) in
    asked d kinds.Ack (calls.Ack by item) refl refl
    (after _ by _ _ (from d by refl h.0) (after _ item _ _ (good_field (value_of.number 0 999_999_999_999) field.Item d (whole item) item refl (number_read 0 999_999_999_999 item h.1)) refl))

-- its keys are in byte order, and it nests seven deep at most
pub call_ordered : (n : ℕ) (call : Call) → is_ordered (call_data call) (suc (suc (suc n))) ≡ true
unfolding call_fields deviation_fields
call_ordered n (calls.Send m) = message_ordered n m
call_ordered n (calls.Ask by wagon) = refl
call_ordered n (calls.AskUnit by unit) = refl
call_ordered n (calls.Deviation by consignment) = refl
call_ordered n (calls.Fetch by limit) = refl
call_ordered n (calls.Ack by item) = refl

-- its texts are UTF-8
pub call_spelt : (call : Call) → IsCall call → HasTexts (call_data call)
unfolding call_fields deviation_fields
call_spelt (calls.Send m) h = message_spelt m h
call_spelt (calls.Ask by wagon) h = (refl, utf8-railway by h.0, (refl, IsUtf8-are_ascii _ refl, (refl, utf8-wagon wagon h.1, tt)))
call_spelt (calls.AskUnit by unit) h = (refl, utf8-railway by h.0, (refl, IsUtf8-are_ascii _ refl, (refl, utf8-unit unit h.1, tt)))
call_spelt (calls.Deviation by consignment) h = (refl, utf8-name consignment h.1, (refl, utf8-railway by h.0, (refl, IsUtf8-are_ascii _ refl, tt)))
call_spelt (calls.Fetch by limit) h = (refl, utf8-railway by h.0, (refl, IsUtf8-are_ascii _ refl, (refl, omega (arith, h.1.most), tt)))
call_spelt (calls.Ack by item) h = (refl, utf8-railway by h.0, (refl, omega (arith, h.1.most), (refl, IsUtf8-are_ascii _ refl, tt)))

-- so its text is read as the call
pub call_text_is_read : (call : Call) → IsCall call → IsReadAs (compact_text (call_data call)) call
call_text_is_read call h =
    let d = call_data call in
    let spelt = call_spelt call h in
    (utf8-compact_text d spelt, ap call_read (read-compact_text d (call_ordered 124 call) (small-HasTexts d spelt)) ∙ call_is_read call h)
