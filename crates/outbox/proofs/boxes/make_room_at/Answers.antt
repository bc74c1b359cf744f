use Rattle.outbox.proofs.Common.{◌∙◌, ◌≤◌, ◌<◌, ◌^◌, sym, ap, subst, OnOk, is_some, option_copied_mut, keys-with_value_at, last_of, outbox_state_in, room_in}
use Rattle.outbox.proofs.KeyLemmas.{kept_stays, no_box_made, room_stays, found, put_there, now_found}
use Rattle.outbox.proofs.boxes.make_room_at.Goals as goal

pub returns-clause-kept : goal.returns-clause-kept
returns-clause-kept c =
    let boxes = c.args.boxes.now in
    let box = c.make_room.new.self in
    let value = sym c.get_index_mut.ensures.value ∙ ap option_copied_mut c.in-Some.is in
    let put = put_there boxes c.args.place c.args.railway _ c.get_index_mut.ensures.unique c.requires value box in
    let had = found boxes c.args.place c.args.railway _ c.get_index_mut.ensures.unique c.requires value in
    kept_stays boxes.entries _ c.args.railway box put (c.make_room.ensures.kept ∙ sym (ap outbox_state_in had))

pub returns-clause-places : goal.returns-clause-places
returns-clause-places c = keys-with_value_at c.args.boxes.now c.args.place c.make_room.new.self

pub returns-clause-boxes : goal.returns-clause-boxes
returns-clause-boxes c =
    let boxes = c.args.boxes.now in
    let box = c.make_room.new.self in
    let value = sym c.get_index_mut.ensures.value ∙ ap option_copied_mut c.in-Some.is in
    let put = put_there boxes c.args.place c.args.railway _ c.get_index_mut.ensures.unique c.requires value box in
    let had = found boxes c.args.place c.args.railway _ c.get_index_mut.ensures.unique c.requires value in
    no_box_made boxes.entries _ c.args.railway box put (ap is_some had)

pub returns-clause-stay_roomy : goal.returns-clause-stay_roomy
returns-clause-stay_roomy c =
    let boxes = c.args.boxes.now in
    let box = c.make_room.new.self in
    let value = sym c.get_index_mut.ensures.value ∙ ap option_copied_mut c.in-Some.is in
    let put = put_there boxes c.args.place c.args.railway _ c.get_index_mut.ensures.unique c.requires value box in
    let had = found boxes c.args.place c.args.railway _ c.get_index_mut.ensures.unique c.requires value in
    room_stays boxes.entries _ c.args.railway box put (subst (λ b. room_in b ≤ box.room) (sym had) c.make_room.ensures.stay)

pub returns-clause-room : goal.returns-clause-room
returns-clause-room c =
    let boxes = c.args.boxes.now in
    let box = c.make_room.new.self in
    let value = sym c.get_index_mut.ensures.value ∙ ap option_copied_mut c.in-Some.is in
    let put = put_there boxes c.args.place c.args.railway _ c.get_index_mut.ensures.unique c.requires value box in
    subst (λ b. OnOk c.make_room.result (c.args.count ≤ room_in b)) (sym (now_found boxes.entries _ c.args.railway box put)) c.make_room.ensures.room

pub returns-clause-few : goal.returns-clause-few
returns-clause-few c =
    let boxes = c.args.boxes.now in
    let box = c.make_room.new.self in
    let value = sym c.get_index_mut.ensures.value ∙ ap option_copied_mut c.in-Some.is in
    let put = put_there boxes c.args.place c.args.railway _ c.get_index_mut.ensures.unique c.requires value box in
    subst (λ b. OnOk c.make_room.result (last_of (outbox_state_in b) < 2 ^ 62)) (sym (now_found boxes.entries _ c.args.railway box put)) c.make_room.ensures.few
