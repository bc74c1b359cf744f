use Rattle.session_serving.proofs.Common.{rules, arith, ◌∙◌, ◌-◌}
use Rattle.session_serving.proofs.CutLemmas.{kept_long, is_max_kept, length-take-most}
use Rattle.session_serving.proofs.lines.keep.Goals as goal

pub returns-else-bytes-room-clause-items : goal.returns-else-bytes-room-clause-items
returns-else-bytes-room-clause-items c = c.append-else-bytes-room.ensures.items ∙ kept_long c.args.line.now.items c.args.bytes.now _ (search (arith, rules)) (search (arith, rules))

pub append-requires-else-bytes-room-clause-room : goal.append-requires-else-bytes-room-clause-room
append-requires-else-bytes-room-clause-room c =
    let l = c.len-room.ensures in
    let f = c.requires.fits.0 in
    omega (arith, l, f, is_max_kept, length-take-most (65537 - c.len-room.result) c.args.bytes.now)
