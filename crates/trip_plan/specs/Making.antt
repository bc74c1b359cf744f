-- What the parts of a plan say.
use Rattle.trip_plan.specs.declared.plan.PlanParts.{PlanParts}
use Rattle.trip_plan.specs.Trip.{Trip}

-- the trip that the parts are of
abbrev pub trip_of : PlanParts → Trip
trip_of p = record {
  lead = p.lead;
  consignment = p.consignment;
  load = p.load;
  commit = p.commit;
  wagons = p.wagons.items;
  legs = p.legs.items;
  units = p.units.items;
}
