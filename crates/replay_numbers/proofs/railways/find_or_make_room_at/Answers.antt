use Rattle.replay_numbers.proofs.Common.{◌≡◌, ◌∙◌, sym, ap, subst, None, true, IfOk, option_copied_mut, keys-with_value_at}
use Rattle.replay_numbers.proofs.SentLemmas.{position_at, room_at, positions_stay, rooms_stay}
use Rattle.replay_numbers.proofs.PlaceLemmas.{found, put_there, now_found}
use Rattle.replay_numbers.proofs.railways.find_or_make_room_at.Goals as goal

pub returns-clause-positions : goal.returns-clause-positions
returns-clause-positions c =
    let railways = c.args.railways.now in
    let sent = c.find_or_make_room.new.self in
    let value = sym c.get_index_mut.ensures.value ∙ ap option_copied_mut c.in-Some.is in
    let had = found railways c.args.place c.args.by _ c.get_index_mut.ensures.unique c.requires value in
    let put = put_there railways c.args.place c.args.by _ c.get_index_mut.ensures.unique c.requires value sent in
    positions_stay railways.entries _ c.args.by sent put (λ n. c.find_or_make_room.ensures.positions n ∙ ap (λ s. position_at s n) (sym had))

pub returns-clause-stay_roomy : goal.returns-clause-stay_roomy
returns-clause-stay_roomy c =
    let railways = c.args.railways.now in
    let sent = c.find_or_make_room.new.self in
    let value = sym c.get_index_mut.ensures.value ∙ ap option_copied_mut c.in-Some.is in
    let had = found railways c.args.place c.args.by _ c.get_index_mut.ensures.unique c.requires value in
    let put = put_there railways c.args.place c.args.by _ c.get_index_mut.ensures.unique c.requires value sent in
    rooms_stay railways.entries _ c.args.by sent put (λ n roomy. c.find_or_make_room.ensures.stay_roomy n (ap (λ s. room_at s n) (sym had) ∙ roomy))

pub returns-clause-places : goal.returns-clause-places
returns-clause-places c = keys-with_value_at c.args.railways.now c.args.place c.find_or_make_room.new.self

pub returns-clause-found : goal.returns-clause-found
returns-clause-found c =
    let value = sym c.get_index_mut.ensures.value ∙ ap option_copied_mut c.in-Some.is in
    let had = found c.args.railways.now c.args.place c.args.by _ c.get_index_mut.ensures.unique c.requires value in
    subst (λ s. IfOk c.find_or_make_room.result (λ found. found ≡ position_at s c.args.number)) (sym had) c.find_or_make_room.ensures.found

pub returns-clause-room : goal.returns-clause-room
returns-clause-room c =
    let railways = c.args.railways.now in
    let sent = c.find_or_make_room.new.self in
    let value = sym c.get_index_mut.ensures.value ∙ ap option_copied_mut c.in-Some.is in
    let put = put_there railways c.args.place c.args.by _ c.get_index_mut.ensures.unique c.requires value sent in
    subst (λ s. IfOk c.find_or_make_room.result (λ found. found ≡ None → room_at s c.args.number ≡ true)) (sym (now_found railways.entries _ c.args.by sent put)) c.find_or_make_room.ensures.room

pub returns-clause-succeeds : goal.returns-clause-succeeds
returns-clause-succeeds c = λ roomy.
    let value = sym c.get_index_mut.ensures.value ∙ ap option_copied_mut c.in-Some.is in
    let had = found c.args.railways.now c.args.place c.args.by _ c.get_index_mut.ensures.unique c.requires value in
    c.find_or_make_room.ensures.succeeds (ap (λ s. room_at s c.args.number) (sym had) ∙ roomy)
