use Rattle.journaled_hub.proofs.HistoryLemmas.{histories_come_back, replies_stay, replies_outlive}
use Rattle.journaled_hub.proofs.laws.reopened_hub.Goals as goal

pub returns-clause-history : goal.returns-clause-history
returns-clause-history c = histories_come_back c.journal_lines_are_calls.ensures.lines

pub returns-clause-replies : goal.returns-clause-replies
returns-clause-replies c = replies_stay

pub returns-clause-crash : goal.returns-clause-crash
returns-clause-crash c = replies_outlive c.journal_lines_are_calls.ensures.lines
