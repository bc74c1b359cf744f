use Rattle.std.proofs.Common.{◌∙◌, sym, subst, arith, rules}
use Rattle.std.proofs.lemmas.Str.Pattern.{split_once_first, split_parts}
use Rattle.railway_keys.specs.KeyFiles.{IsFaultOf, lines_of, table_of, with_line}
use Rattle.railway_keys.proofs.FileLemmas.{by-last, first-fault, line-refused, line-taken}
use Rattle.railway_keys.proofs.table.KeyTable.take_text.Goals as goal

pub returns-in-Err : goal.returns-in-Err
returns-in-Err c =
    let l = c.loop-line in
    let cut = rw c.in-Some.is at (split_once_first 10 l.rest.now c.split_once.result c.split_once.ensures.cases (omega arith)) in
    subst (λ made. IsFaultOf made c.in-Err.fault) (sym l.invariant.made)
    (first-fault l.number (with_line l.self c.in-Some.line.now) (table_of l.self l.number (lines_of l.rest.now)) c.in-Err.fault c.take_line.new.self c.in-Err.ensures
    (λ f is. line-refused l.self l.number l.rest.now c.in-Some.line.now c.in-Some.others.now f cut.0 cut.1 cut.2 is))

pub loop-line-preserved : goal.loop-line-preserved
loop-line-preserved c =
    let l = c.loop-line in
    let cut = rw c.in-Some.is at (split_once_first 10 l.rest.now c.split_once.result c.split_once.ensures.cases (omega arith)) in
    record {
      text = search rules;
      made = l.invariant.made ∙ line-taken l.self l.number l.rest.now c.in-Some.line.now c.in-Some.others.now c.take_line.new.self cut.0 cut.1 cut.2 c.in-Ok.ensures;
      few = search rules;
    }

pub returns : goal.returns
returns c =
    let l = c.loop-line in
    let none = rw c.in_default.is at (split_parts 10 l.rest.now c.split_once.result c.split_once.ensures.cases (omega arith)) in
    let by = by-last l.self l.number l.rest.now c.take_line-2.result c.take_line-2.new.self none c.take_line-2.ensures in
    rw l.invariant.made by
