use Rattle.replay_numbers.proofs.Common.{◌∙◌, sym, ap, Some, cond, ◌==◌, option_copied_mut}
use Rattle.replay_numbers.proofs.SentLemmas.{position_at, position_put}
use Rattle.replay_numbers.proofs.PlaceLemmas.{found, put_there}
use Rattle.replay_numbers.proofs.railways.note_at.Goals as goal

pub returns : goal.returns
returns c =
    let railways = c.args.railways.now in
    let value = sym c.get_index_mut.ensures.value ∙ ap option_copied_mut c.in-Some.is in
    let had = found railways c.args.place c.args.by _ c.get_index_mut.ensures.unique c.requires.at value in
    let put = put_there railways c.args.place c.args.by _ c.get_index_mut.ensures.unique c.requires.at value c.put.new.self in
    position_put railways.entries _ c.args.by c.put.new.self put c.args.number c.args.position
    (λ n. c.put.ensures n ∙ ap (λ s. cond (c.args.number == n) (Some c.args.position) (position_at s n)) (sym had))
