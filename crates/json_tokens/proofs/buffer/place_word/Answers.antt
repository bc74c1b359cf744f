use Rattle.json_tokens.proofs.Common.{◌≡◌, length, take, arith, length-take-le, take_more_put_chunk, length-put_chunk}
use Rattle.json_tokens.proofs.buffer.place_word.Goals as goal

pub returns : goal.returns
returns g c =
    let word = take g.row.N c.args.text.now in
    let long : length word ≡ g.row.N = length-take-le g.row.N c.args.text.now c.requires.0 in
    record {
      bytes = take_more_put_chunk c.args.at c.args.buf.now word _ (omega arith) c.requires.1;
      moved = omega arith;
      len = length-put_chunk c.args.at c.args.buf.now word;
    }
