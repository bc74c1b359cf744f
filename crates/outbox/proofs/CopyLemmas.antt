-- What is cloned is equal to its source.
use Rattle.outbox.proofs.Common.{rules, ◌≡◌, ap, ItemBody}
use Rattle.taf_messages.specs.declared.item.ItemBody.TheVariants as body
use Rattle.taf_messages.specs.contracts.item.ItemBodyClone.TheImpl as ItemBodyClone

pub body_copied : (a b : ItemBody) → ItemBodyClone.ghosts.is_clone a b → b ≡ a
body_copied (body.Notice m) (body.Notice n) h = ap body.Notice h
body_copied (body.Sub s) (body.Sub t) h = search rules
body_copied (body.Eti wagon leg at) (body.Eti v k t) h = cc
body_copied (body.Eta wagon at) (body.Eta v t) h = cc
body_copied (body.AlertBegins wagon late) (body.AlertBegins v l) h = cc
body_copied (body.AlertEnds wagon) (body.AlertEnds v) h = cc
body_copied _ _ h = absurd h
