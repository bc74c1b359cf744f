use Rattle.json_tokens.proofs.Common.{◌-◌, rules, length, take_rest, Placed-ends}
use Rattle.json_tokens.proofs.buffer.place_words.Goals as goal

pub returns : goal.returns
returns g c =
    let text = c.args.text.now in
    Placed-ends text g.row.N (search rules) c.requires.covered.0 c.requires.covered.1 c.place_word-first_end.ensures
    (rw (take_rest text (length text - g.row.N)) at c.place_word.ensures)
