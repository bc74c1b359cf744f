use Rattle.json_tokens.proofs.Common.{rules, sym, ◌∙◌, bytes_eq-Decides}
use Rattle.json_tokens.proofs.ScanLemmas.{small_members, scanned_more, scanned_all}
use Rattle.json_tokens.proofs.scan.scan_members.Goals as goal

pub returns-in-None-clause-small : goal.returns-in-None-clause-small
returns-in-None-clause-small c =
    λ _. small_members _ c.loop-i.members.items (c.in-Some-key.name, c.in-Some-value.value) c.in_ok-push.ensures.items c.loop-i.invariant.0 c.in-Some-value.ensures.small

pub returns-in-None-clause-all : goal.returns-in-None-clause-all
returns-in-None-clause-all c =
    λ is. scanned_all c.args.text.now c.loop-i.rest.now c.in-Some-key.said.now c.in-Some-value.behind.now c.loop-i.members.items _ (c.in-Some-key.name, c.in-Some-value.value)
    c.loop-i.invariant.1 c.in-Some-key.ensures c.in-Some-value.ensures.all ((bytes_eq-Decides _ _).0 (sym c.eq.ensures ∙ is)) c.in_ok-push.ensures.items

pub loop-i-preserved : goal.loop-i-preserved
loop-i-preserved c = (
  small_members _ c.loop-i.members.items (c.in-Some-key.name, c.in-Some-value.value) c.in_ok-push.ensures.items c.loop-i.invariant.0 c.in-Some-value.ensures.small,
  scanned_more c.args.text.now c.loop-i.rest.now c.in-Some-key.said.now c.in-Some-value.behind.now c.in-Some-after.more.now c.loop-i.members.items _ (c.in-Some-key.name, c.in-Some-value.value)
      c.loop-i.invariant.1 c.in-Some-key.ensures c.in-Some-value.ensures.all c.in-Some-after.ensures c.in_ok-push.ensures.items,
  search rules,
)
