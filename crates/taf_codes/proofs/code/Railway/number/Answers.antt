use Rattle.taf_codes.proofs.Common.{rules, le_bytes_4}
use Rattle.taf_codes.proofs.code.Railway.number.Goals as goal

pub returns-clause-back : goal.returns-clause-back
returns-clause-back c =
    let back = le_bytes_4 c.self.inside.letters _ (search rules) (search rules) c.from_le_bytes.ensures in
    let is = c.self.view_is in
    cc
