use Rattle.reply_writer.proofs.Common.{ℕ, List, OnOk, subst, AddsData, list_of, wagon_text}
use Rattle.reply_writer.proofs.put.WagonsJson.put.Goals as goal

pub returns-clause-ok : goal.returns-clause-ok
returns-clause-ok c =
    subst (λ (wagons : List ℕ). OnOk c.put.result (AddsData c.args.out.now c.put.new.out (list_of wagon_text wagons))) c.as_slice.ensures.value c.put.ensures.ok
