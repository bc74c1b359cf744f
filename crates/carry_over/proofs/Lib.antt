mod SideLemmas
mod SameLemmas
mod StepLemmas
mod ReplyLemmas
mod FleetLemmas
mod CarriedLemmas
mod AcknowledgedLemmas
