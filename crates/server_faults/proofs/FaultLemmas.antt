-- Which fault of settling a server reports.
use Rattle.std.proofs.Common.{◌≡◌, ap}
use Rattle.hub_shared.specs.declared.settling.SettleFault.{SettleFault}
use Rattle.hub_shared.specs.declared.settling.SettleFault.TheVariants as of_settling
use Rattle.server_faults.specs.declared.fault.ServerFault.{ServerFault}
use Rattle.server_faults.specs.declared.fault.ServerFault.TheVariants.{NotSettled, Journal}
use Rattle.server_faults.specs.Faults.{fault_of_settling}

-- in which respect it did not settle
why_of : ServerFault → SettleFault
why_of (NotSettled why) = why
why_of fault = of_settling.Memory

pub why_is : (f why : SettleFault) → fault_of_settling f ≡ NotSettled why → f ≡ why
unfolding why_of
why_is of_settling.Memory why is = cc is
why_is (of_settling.CountDiffers a b) why is = ap why_of is
why_is (of_settling.Foreign a b) why is = ap why_of is
why_is (of_settling.Earlier a b) why is = ap why_of is
why_is (of_settling.Twice a) why is = ap why_of is
why_is (of_settling.OutOfOrder a b) why is = ap why_of is

pub no_journal : (why : SettleFault) → Journal ≡ NotSettled why → ⊥
no_journal why is = cc is
