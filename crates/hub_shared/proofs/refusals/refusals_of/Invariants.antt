use Rattle.std.proofs.Common.{◌≡◌, filter_map, take, drop}
use Rattle.hub_model.specs.declared.entry.Entry.{Entry}
use Rattle.hub_shared.specs.Looks.{why_of}
use Rattle.hub_shared.proofs.refusals.refusals_of.Given as goal

-- the refusals among the calls so far
abbrev pub invariant-loop-i : goal.invariant-loop-i
invariant-loop-i l = l.whys.items ≡ filter_map (λ (e : Entry). why_of e.reply) (take l.i (drop l.from l.hub))
