use Rattle.hub_items.proofs.Common.{append_assoc, journey_after, notice_receivers, state_before}
use Rattle.hub_items.proofs.NoticeLemmas.{notices_made}
use Rattle.hub_items.proofs.item_list.put_all.Goals as goal

pub returns : goal.returns
returns c =
    let s = state_before c.args.from in
    let m = c.args.from.message.now in
    rw (c.in_ok-put_of_wagons.ensures, c.in_ok-put_notices.ensures, c.requires.notice, c.requires.empty, notices_made m (notice_receivers s (journey_after s m) m.by m.body)) (simp append_assoc)
