use Rattle.hub_core.proofs.Common.{rules, Entry, ℕ, Railway, position_of, outbox_state_of, state_of, table_state, Represents}
use Rattle.hub_core.proofs.HistoryLemmas.{kept_more, leads_on}
use Rattle.hub_core.proofs.state.append_entry.Goals as goal

pub returns : goal.returns
returns c =
    let b = c.args.state.now in
    let old = c.requires.ready.0 in
    let e : Entry = record { call = c.args.call; reply = c.args.reply } in
    let firsts = λ (by : Railway) (n : ℕ). leads_on b.history.entries e (position_of b.seen by n) ((state_of b.history.entries).first_send by n) (old.firsts by n) in
    let kept : Represents c.push_reserved.new.self.entries (table_state b.tables) (position_of b.seen) (outbox_state_of b.outboxes) = rw (c.push_reserved.ensures, c.in_ok-reserve.ensures.entries)
    (kept_more old c.requires.ready.1 e c.requires.limits c.requires.answered (state_of b.history.entries) c.requires.quiet old.tables firsts old.boxes old.offers) in
    search (rules, kept)
