-- Legs that are lent, or owned.
use Rattle.std.specs.Prelude.{List}
use Rattle.trip_plan.specs.declared.parts.Leg.{Leg}
use Rattle.eti_chain.specs.declared.held_legs.HeldLegs.{HeldLegs}
use Rattle.eti_chain.specs.declared.held_legs.HeldLegs.TheVariants.{Lent, Own}

-- the legs of a wagon, whoever owns them
abbrev pub legs_in : HeldLegs → List Leg
legs_in (Lent legs) = legs.now
legs_in (Own legs) = legs
