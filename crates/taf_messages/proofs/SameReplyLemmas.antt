-- `==` finds exactly the equal calls, items, records and replies.
use Rattle.std.proofs.Common.{◌≡◌, Bool, true, refl, ap, rules}
use Rattle.std.specs.Prelude.{◌==◌, bytes_eq, nat_eq}
use Rattle.std.specs.Option.{option_eq}
use Rattle.std.specs.Cmp.Lexicographic.{pointwise}
use denote.Enum.Bare.{same_true}
use Rattle.std.specs.Cmp.{booleans_Decides}
use Rattle.std.specs.Bool.{beq}
use Rattle.taf_codes.specs.Equality.{IsEquality, texts, numbers, options_equal, lists_equal, both}
use Rattle.trip_plan.specs.SameContent.{wagons}
use Rattle.trip_plan.specs.declared.parts.Load.{Load}
use Rattle.trip_plan.specs.contracts.parts.Load as load_of
use Rattle.trip_plan.specs.contracts.parts.LoadPartialEq.TheImpl as LoadEq
use Rattle.taf_messages.specs.declared.record.Stage.{Stage}
use Rattle.taf_messages.specs.contracts.record.Stage as stage_of
use Rattle.taf_messages.specs.contracts.record.StagePartialEq.TheImpl as StageEq
use Rattle.taf_messages.specs.declared.record.Status.{Status}
use Rattle.taf_messages.specs.contracts.record.Status as status_of
use Rattle.taf_messages.specs.contracts.record.StatusPartialEq.TheImpl as StatusEq
use Rattle.taf_messages.specs.declared.reply.Why.{Why}
use Rattle.taf_messages.specs.contracts.reply.Why as why_of
use Rattle.taf_messages.specs.contracts.reply.WhyPartialEq.TheImpl as WhyEq
use Rattle.taf_messages.specs.declared.event.RecordEventKind.{RecordEventKind}
use Rattle.taf_messages.specs.declared.event.RecordEventKind.TheVariants as event_kind
use Rattle.taf_messages.specs.contracts.event.RecordEventKindPartialEq.TheImpl as RecordEventKindEq
use Rattle.taf_messages.specs.declared.event.RecordEvent.{RecordEvent}
use Rattle.taf_messages.specs.contracts.event.RecordEventPartialEq.TheImpl as RecordEventEq
use Rattle.taf_messages.specs.declared.record.EstimateAt.{EstimateAt}
use Rattle.taf_messages.specs.contracts.record.EstimateAtPartialEq.TheImpl as EstimateAtEq
use Rattle.taf_messages.specs.declared.record.Record.{Record}
use Rattle.taf_messages.specs.contracts.record.RecordPartialEq.TheImpl as RecordEq
use Rattle.taf_messages.specs.declared.item.SubNotice.{SubNotice}
use Rattle.taf_messages.specs.contracts.item.SubNoticePartialEq.TheImpl as SubNoticeEq
use Rattle.taf_messages.specs.declared.item.ItemBody.{ItemBody}
use Rattle.taf_messages.specs.declared.item.ItemBody.TheVariants as item
use Rattle.taf_messages.specs.contracts.item.ItemBodyPartialEq.TheImpl as ItemBodyEq
use Rattle.taf_messages.specs.declared.item.Item.{Item}
use Rattle.taf_messages.specs.contracts.item.ItemPartialEq.TheImpl as ItemEq
use Rattle.taf_messages.specs.contracts.item.ItemEq.TheImpl.Laws as ItemLaws
use Rattle.taf_messages.specs.declared.reply.Refusal.{Refusal}
use Rattle.taf_messages.specs.contracts.reply.RefusalPartialEq.TheImpl as RefusalEq
use Rattle.taf_messages.specs.declared.reply.Reply.{Reply}
use Rattle.taf_messages.specs.declared.reply.Reply.TheVariants as reply
use Rattle.taf_messages.specs.contracts.reply.ReplyPartialEq.TheImpl as ReplyEq
use Rattle.taf_messages.specs.contracts.reply.ReplyEq.TheImpl.Laws as ReplyLaws
use Rattle.taf_messages.specs.declared.call.Call.{Call}
use Rattle.taf_messages.specs.declared.call.Call.TheVariants as call
use Rattle.taf_messages.specs.contracts.call.CallPartialEq.TheImpl as CallEq
use Rattle.taf_messages.specs.contracts.call.CallEq.TheImpl.Laws as CallLaws
use Rattle.taf_messages.proofs.SameLemmas.{kind_equal, messages}

stage_equal : (a b : Stage) → StageEq.ghosts.eq a b ≡ true → a ≡ b
stage_equal a b h = same_true stage_of.the_type (search rules) a b h

status_equal : (a b : Status) → StatusEq.ghosts.eq a b ≡ true → a ≡ b
status_equal a b h = same_true status_of.the_type (search rules) a b h

load_equal : (a b : Load) → LoadEq.ghosts.eq a b ≡ true → a ≡ b
load_equal a b h = same_true load_of.the_type (search rules) a b h

why_equal : (a b : Why) → WhyEq.ghosts.eq a b ≡ true → a ≡ b
why_equal a b h = same_true why_of.the_type (search rules) a b h

bool_equal : (a b : Bool) → beq a b ≡ true → a ≡ b
bool_equal a b h = (booleans_Decides a b).0 h

event_kind_equal : (a b : RecordEventKind) → RecordEventKindEq.ghosts.eq a b ≡ true → a ≡ b
event_kind_equal event_kind.Planned event_kind.Planned h = refl
event_kind_equal (event_kind.Moved m) (event_kind.Moved n) h = ap event_kind.Moved (kind_equal m n h)
event_kind_equal event_kind.EstimateAsked event_kind.EstimateAsked h = refl
event_kind_equal (event_kind.LegTimed leg minutes) (event_kind.LegTimed other also) h =
    let parts = both (leg == other) _ h in
    let e = numbers.equal leg other parts.0 in
    let f = numbers.equal minutes also parts.1 in cc
event_kind_equal (event_kind.Offered place) (event_kind.Offered other) h = ap event_kind.Offered (texts.equal place other h)
event_kind_equal (event_kind.Answered received) (event_kind.Answered other) h = ap event_kind.Answered (bool_equal received other h)
event_kind_equal event_kind.Withdrawn event_kind.Withdrawn h = refl
event_kind_equal (event_kind.Rerouted leg) (event_kind.Rerouted other) h = let e = numbers.equal leg other h in cc
event_kind_equal _ _ h = cc

event_equal : (a b : RecordEvent) → RecordEventEq.ghosts.eq a b ≡ true → a ≡ b
event_equal a b h =
    let p1 = both (a.no == b.no) _ h in
    let p2 = both (bytes_eq a.by b.by) _ p1.1 in
    let p3 = both (option_eq nat_eq a.at b.at) _ p2.1 in
    let number = numbers.equal _ _ p1.0 in
    let by = texts.equal _ _ p2.0 in
    let at = options_equal nat_eq numbers.equal a.at b.at p3.0 in
    let what = event_kind_equal a.what b.what p3.1 in
    λ i. record { no = number i; by = by i; at = at i; what = what i }

estimate_equal : (a b : EstimateAt) → EstimateAtEq.ghosts.eq a b ≡ true → a ≡ b
estimate_equal a b h =
    let parts = both (a.leg == b.leg) _ h in
    let leg = numbers.equal _ _ parts.0 in
    let at = numbers.equal _ _ parts.1 in
    λ i. record { leg = leg i; at = at i }

record_equal : (a b : Record) → RecordEq.ghosts.eq a b ≡ true → a ≡ b
record_equal a b h =
    let p1 = both (a.wagon == b.wagon) _ h in
    let p2 = both (bytes_eq a.lead b.lead) _ p1.1 in
    let p3 = both (bytes_eq a.consignment b.consignment) _ p2.1 in
    let p4 = both (LoadEq.ghosts.eq a.load b.load) _ p3.1 in
    let p5 = both (a.commit == b.commit) _ p4.1 in
    let p6 = both (StageEq.ghosts.eq a.stage b.stage) _ p5.1 in
    let p7 = both (StatusEq.ghosts.eq a.status b.status) _ p6.1 in
    let p8 = both (a.leg == b.leg) _ p7.1 in
    let p9 = both (option_eq bytes_eq a.place b.place) _ p8.1 in
    let p10 = both (option_eq bytes_eq a.responsible b.responsible) _ p9.1 in
    let p11 = both (pointwise EstimateAtEq.ghosts.eq a.estimates b.estimates) _ p10.1 in
    let p12 = both (option_eq nat_eq a.eta b.eta) _ p11.1 in
    let p13 = both (beq a.late b.late) _ p12.1 in
    let p14 = both (pointwise RecordEventEq.ghosts.eq a.events b.events) _ p13.1 in
    let e1 = numbers.equal _ _ p1.0 in
    let e2 = texts.equal _ _ p2.0 in
    let e3 = texts.equal _ _ p3.0 in
    let e4 = load_equal _ _ p4.0 in
    let e5 = numbers.equal _ _ p5.0 in
    let e6 = stage_equal _ _ p6.0 in
    let e7 = status_equal _ _ p7.0 in
    let e8 = numbers.equal _ _ p8.0 in
    let e9 = options_equal bytes_eq texts.equal a.place b.place p9.0 in
    let e10 = options_equal bytes_eq texts.equal a.responsible b.responsible p10.0 in
    let e11 = lists_equal EstimateAtEq.ghosts.eq estimate_equal a.estimates b.estimates p11.0 in
    let e12 = options_equal nat_eq numbers.equal a.eta b.eta p12.0 in
    let e13 = bool_equal a.late b.late p13.0 in
    let e14 = lists_equal RecordEventEq.ghosts.eq event_equal a.events b.events p14.0 in
    let e15 = lists_equal bytes_eq texts.equal a.units b.units p14.1 in
    λ i. record {
      wagon = e1 i;
      lead = e2 i;
      consignment = e3 i;
      load = e4 i;
      commit = e5 i;
      stage = e6 i;
      status = e7 i;
      leg = e8 i;
      place = e9 i;
      responsible = e10 i;
      estimates = e11 i;
      eta = e12 i;
      late = e13 i;
      events = e14 i;
      units = e15 i;
    }

sub_equal : (a b : SubNotice) → SubNoticeEq.ghosts.eq a b ≡ true → a ≡ b
sub_equal a b h =
    let p1 = both (a.at == b.at) _ h in
    let p2 = both (bytes_eq a.from b.from) _ p1.1 in
    let p3 = both (a.offer == b.offer) _ p2.1 in
    let p4 = both (bytes_eq a.offerer b.offerer) _ p3.1 in
    let e1 = numbers.equal _ _ p1.0 in
    let e2 = texts.equal _ _ p2.0 in
    let e3 = numbers.equal _ _ p3.0 in
    let e4 = texts.equal _ _ p4.0 in
    let e5 = wagons.equal a.wagons b.wagons p4.1 in
    λ i. record { at = e1 i; from = e2 i; offer = e3 i; offerer = e4 i; wagons = e5 i }

item_body_equal : (a b : ItemBody) → ItemBodyEq.ghosts.eq a b ≡ true → a ≡ b
item_body_equal (item.Notice m) (item.Notice n) h = ap item.Notice (messages.equal m n h)
item_body_equal (item.Sub s) (item.Sub t) h = ap item.Sub (sub_equal s t h)
item_body_equal (item.Eti w leg at) (item.Eti v other bt) h =
    let p1 = both (w == v) _ h in
    let p2 = both (leg == other) _ p1.1 in
    let e1 = numbers.equal _ _ p1.0 in
    let e2 = numbers.equal _ _ p2.0 in
    let e3 = numbers.equal _ _ p2.1 in
    λ i. item.Eti (e1 i) (e2 i) (e3 i)
item_body_equal (item.Eta w at) (item.Eta v bt) h =
    let p1 = both (w == v) _ h in
    let e1 = numbers.equal _ _ p1.0 in
    let e2 = numbers.equal _ _ p1.1 in
    λ i. item.Eta (e1 i) (e2 i)
item_body_equal (item.AlertBegins w late) (item.AlertBegins v other) h =
    let p1 = both (w == v) _ h in
    let e1 = numbers.equal _ _ p1.0 in
    let e2 = numbers.equal _ _ p1.1 in
    λ i. item.AlertBegins (e1 i) (e2 i)
item_body_equal (item.AlertEnds w) (item.AlertEnds v) h = let e = numbers.equal w v h in cc
item_body_equal _ _ h = cc

item_equal : (a b : Item) → ItemEq.ghosts.eq a b ≡ true → a ≡ b
item_equal a b h =
    let parts = both (a.number == b.number) _ h in
    let e = numbers.equal _ _ parts.0 in
    let f = item_body_equal a.body b.body parts.1 in
    λ i. record { number = e i; body = f i }

pub items : IsEquality ItemEq.ghosts.eq
items = record { equal = item_equal; itself = ItemLaws.laws-law.refl }

refusal_equal : (a b : Refusal) → RefusalEq.ghosts.eq a b ≡ true → a ≡ b
refusal_equal a b h =
    let p1 = both (option_eq nat_eq a.no b.no) _ h in
    let p2 = both (WhyEq.ghosts.eq a.why b.why) _ p1.1 in
    let p3 = both (option_eq nat_eq a.wagon b.wagon) _ p2.1 in
    let e1 = options_equal nat_eq numbers.equal a.no b.no p1.0 in
    let e2 = why_equal a.why b.why p2.0 in
    let e3 = options_equal nat_eq numbers.equal a.wagon b.wagon p3.0 in
    let e4 = options_equal nat_eq numbers.equal a.last b.last p3.1 in
    λ i. record { no = e1 i; why = e2 i; wagon = e3 i; last = e4 i }

reply_equal : (a b : Reply) → ReplyEq.ghosts.eq a b ≡ true → a ≡ b
reply_equal (reply.Accepted n) (reply.Accepted k) h = let e = numbers.equal n k h in cc
reply_equal (reply.Refused r) (reply.Refused s) h = ap reply.Refused (refusal_equal r s h)
reply_equal (reply.One r) (reply.One s) h = ap reply.One (record_equal r s h)
reply_equal (reply.Many rs) (reply.Many ss) h = ap reply.Many (lists_equal RecordEq.ghosts.eq record_equal rs ss h)
reply_equal (reply.Items is) (reply.Items js) h = ap reply.Items (lists_equal ItemEq.ghosts.eq item_equal is js h)
reply_equal (reply.Acknowledged n) (reply.Acknowledged k) h = let e = numbers.equal n k h in cc
reply_equal _ _ h = cc

pub replies : IsEquality ReplyEq.ghosts.eq
replies = record { equal = reply_equal; itself = ReplyLaws.laws-law.refl }

call_equal : (a b : Call) → CallEq.ghosts.eq a b ≡ true → a ≡ b
call_equal (call.Send m) (call.Send n) h = ap call.Send (messages.equal m n h)
call_equal (call.Ask by w) (call.Ask also v) h =
    let parts = both (bytes_eq by also) _ h in
    let e = texts.equal by also parts.0 in
    let f = numbers.equal w v parts.1 in
    λ i. call.Ask (e i) (f i)
call_equal (call.AskUnit by u) (call.AskUnit also v) h =
    let parts = both (bytes_eq by also) _ h in
    let e = texts.equal by also parts.0 in
    let f = texts.equal u v parts.1 in
    λ i. call.AskUnit (e i) (f i)
call_equal (call.Deviation by c) (call.Deviation also d) h =
    let parts = both (bytes_eq by also) _ h in
    let e = texts.equal by also parts.0 in
    let f = texts.equal c d parts.1 in
    λ i. call.Deviation (e i) (f i)
call_equal (call.Fetch by l) (call.Fetch also k) h =
    let parts = both (bytes_eq by also) _ h in
    let e = texts.equal by also parts.0 in
    let f = numbers.equal l k parts.1 in
    λ i. call.Fetch (e i) (f i)
call_equal (call.Ack by n) (call.Ack also k) h =
    let parts = both (bytes_eq by also) _ h in
    let e = texts.equal by also parts.0 in
    let f = numbers.equal n k parts.1 in
    λ i. call.Ack (e i) (f i)
call_equal _ _ h = cc

pub calls : IsEquality CallEq.ghosts.eq
calls = record { equal = call_equal; itself = CallLaws.laws-law.refl }
