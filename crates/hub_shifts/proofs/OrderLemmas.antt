-- The jobs of a session in its lane.
use Rattle.hub_shifts.proofs.Common.{each_in_order, SessionState, WorkerState, LanesInOrder}

pub lanes_in_order : LanesInOrder
lanes_in_order streams workers s shift some =
    each_in_order (λ (x : SessionState). x.put) (λ (w : WorkerState). w.taken) workers shift.served shift.worked s.left.items shift.by_lanes.kept some
    (λ k x low. (shift.by_lanes.of_sessions k x low).own_jobs)
