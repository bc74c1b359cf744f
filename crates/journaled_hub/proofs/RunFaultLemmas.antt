-- Why a run ends.
use Rattle.std.proofs.Common.{◌≡◌, ℕ, ◌+◌, ◌<◌, ◌≤◌, ◌^◌, Bool, false, arith, sym, subst, ◌∙◌}
use Rattle.hub_replay.specs.Running.{ExplainsFault}
use Rattle.hub_replay.specs.declared.fault.RunFault.{RunFault}
use Rattle.hub_replay.specs.declared.fault.RunFault.TheVariants.{Read}
use Rattle.hub_replay.proofs.RunLemmas.{late}
use Rattle.journaled_hub.specs.declared.fault.JournaledRunFault.{JournaledRunFault}
use Rattle.journaled_hub.specs.declared.fault.JournaledRunFault.TheVariants.{Run, Journal}
use Rattle.journaled_hub.specs.RunFaults.{IsFaultOfTurn, ExplainsJournaledFault}

-- lines were not answered, and nothing failed before
pub turn_explains : (f : JournaledRunFault) (failed : Bool) (r₀ r₁ w₀ w w₁ n : ℕ) → IsFaultOfTurn f failed w w₁ → r₁ ≡ r₀ → w ≡ w₀ → n ≤ 2 ^ 40 → ExplainsJournaledFault f failed r₀ r₁ w₀ w₁ n
turn_explains (Run fault) failed r₀ r₁ w₀ w w₁ n h read same few = (h.0, late fault r₀ r₁ w₀ w w₁ n h.1 read same few)
turn_explains Journal failed r₀ r₁ w₀ w w₁ n h read same few = (h.0, read, h.1 ∙ same, few)

-- a read failed, and nothing before
pub read_explains : (fault : RunFault) (failed : Bool) (r₀ r r₁ w₀ w₁ n : ℕ) → fault ≡ Read → failed ≡ false → r₁ ≡ r + 1 → r ≡ r₀ → w₁ ≡ w₀ → n < 2 ^ 40 → ExplainsJournaledFault (Run fault) failed r₀ r₁ w₀ w₁ n
read_explains fault failed r₀ r r₁ w₀ w₁ n is sound more read same few =
    let explains : ExplainsFault Read r₀ r₁ w₀ w₁ n = (omega (arith, more, read), same, few) in
    (sound, subst (λ (f : RunFault). ExplainsFault f r₀ r₁ w₀ w₁ n) (sym is) explains)
