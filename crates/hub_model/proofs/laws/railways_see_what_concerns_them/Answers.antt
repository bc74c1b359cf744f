use Rattle.hub_model.proofs.NeedToKnowLemmas.{records_are_for_the_trip, messages_get_verdicts, items_go_to_the_concerned, estimates_stay_on_the_trip, items_have_sources, outsiders_learn_whether_known}
use Rattle.hub_model.proofs.OwnReplyLemmas.{replies_show_their_own}
use Rattle.hub_model.proofs.RefusalLemmas.{refusals_tell_the_stage}
use Rattle.hub_model.proofs.laws.railways_see_what_concerns_them.Goals as goal

pub returns : goal.returns
returns c = record { records = records_are_for_the_trip; replies = replies_show_their_own; messages = messages_get_verdicts; items = items_go_to_the_concerned; estimates = estimates_stay_on_the_trip; outboxes = items_have_sources; outsiders = outsiders_learn_whether_known; refusals = refusals_tell_the_stage }
