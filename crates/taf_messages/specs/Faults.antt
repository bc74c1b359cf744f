-- The faults of records.
use Rattle.trip_plan.specs.declared.fault.PlanFault.{PlanFault}
use Rattle.trip_plan.specs.declared.fault.PlanFault.TheVariants as plan
use Rattle.taf_messages.specs.declared.fault.RecordFault.{RecordFault}
use Rattle.taf_messages.specs.declared.fault.RecordFault.TheVariants.{BadPlan, Memory}

-- the fault of a record whose plan or route has one
abbrev pub fault_of_plan : PlanFault → RecordFault
fault_of_plan (plan.BadPlan code) = BadPlan code
fault_of_plan plan.Memory = Memory
