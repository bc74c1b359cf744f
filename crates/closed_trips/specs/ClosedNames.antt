-- The names of closed trips; all other names stay.
use Rattle.std.specs.Prelude.{ℕ, nat_eq, not, List, bytes_eq}
use Rattle.std.specs.List.{list_any}
use Rattle.hub_model.specs.Common.{Railway, UnitCode, ConsignmentId, same_name}
use Rattle.carry_over.specs.Names.{Names}

-- the names of closed trips
pub record ClosedNames : Type 0 where
  pub wagons : List ℕ
  pub consignments : List ConsignmentId
  pub units : List UnitCode
  pub messages : List (Railway × ℕ)

-- all names but these
abbrev pub names_but : ClosedNames → Names
names_but closed = record {
  wagon = λ w. not (list_any (nat_eq w) closed.wagons);
  consignment = λ c. not (list_any (bytes_eq c) closed.consignments);
  unit = λ u. not (list_any (bytes_eq u) closed.units);
  message = λ by n. not (list_any (λ name. same_name by n name.0 name.1) closed.messages);
}
