use Rattle.outbox.proofs.Common.{◌∙◌, ◌+◌, ◌<◌, ◌^◌, sym, ap, subst, is_some, option_copied_mut, last_of, outbox_state_in, room_in}
use Rattle.outbox.proofs.KeyLemmas.{no_box_made, found, put_there, kept_with, room_less, no_place}
use Rattle.outbox.proofs.boxes.put_at.Goals as goal

pub put-requires-clause-room : goal.put-requires-clause-room
put-requires-clause-room c =
    let value = sym c.get_index_mut.ensures.value ∙ ap option_copied_mut c.in-Some.is in
    let had = found c.args.boxes.now c.args.place c.args.railway _ c.get_index_mut.ensures.unique c.requires.at value in
    subst (λ b. 0 < room_in b) had c.requires.room

pub put-requires-clause-few : goal.put-requires-clause-few
put-requires-clause-few c =
    let value = sym c.get_index_mut.ensures.value ∙ ap option_copied_mut c.in-Some.is in
    let had = found c.args.boxes.now c.args.place c.args.railway _ c.get_index_mut.ensures.unique c.requires.at value in
    subst (λ b. last_of (outbox_state_in b) + 1 < 2 ^ 63) had c.requires.few

pub unreachable-requires : goal.unreachable-requires
unreachable-requires c = no_place c.args.boxes.now c.args.place c.args.railway c.requires.at (sym c.get_index_mut.ensures.value ∙ ap option_copied_mut c.in-None.is)

pub returns-clause-number : goal.returns-clause-number
returns-clause-number c =
    let value = sym c.get_index_mut.ensures.value ∙ ap option_copied_mut c.in-Some.is in
    let had = found c.args.boxes.now c.args.place c.args.railway _ c.get_index_mut.ensures.unique c.requires.at value in
    ap (λ n. n + 1) (c.last-number.ensures.value ∙ sym (ap (λ b. last_of (outbox_state_in b)) had))

pub returns-clause-kept : goal.returns-clause-kept
returns-clause-kept c =
    let boxes = c.args.boxes.now in
    let box = c.put.new.self in
    let value = sym c.get_index_mut.ensures.value ∙ ap option_copied_mut c.in-Some.is in
    let put = put_there boxes c.args.place c.args.railway _ c.get_index_mut.ensures.unique c.requires.at value box in
    let had = found boxes c.args.place c.args.railway _ c.get_index_mut.ensures.unique c.requires.at value in
    kept_with boxes.entries _ c.args.railway _ box put had c.args.body c.put.ensures.kept

pub returns-clause-room : goal.returns-clause-room
returns-clause-room c =
    let boxes = c.args.boxes.now in
    let box = c.put.new.self in
    let value = sym c.get_index_mut.ensures.value ∙ ap option_copied_mut c.in-Some.is in
    let put = put_there boxes c.args.place c.args.railway _ c.get_index_mut.ensures.unique c.requires.at value box in
    let had = found boxes c.args.place c.args.railway _ c.get_index_mut.ensures.unique c.requires.at value in
    room_less boxes.entries _ c.args.railway _ box put had c.put.ensures.room

pub returns-clause-stay_open : goal.returns-clause-stay_open
returns-clause-stay_open c =
    let boxes = c.args.boxes.now in
    let box = c.put.new.self in
    let value = sym c.get_index_mut.ensures.value ∙ ap option_copied_mut c.in-Some.is in
    let put = put_there boxes c.args.place c.args.railway _ c.get_index_mut.ensures.unique c.requires.at value box in
    let had = found boxes c.args.place c.args.railway _ c.get_index_mut.ensures.unique c.requires.at value in
    no_box_made boxes.entries _ c.args.railway box put (ap is_some had)
