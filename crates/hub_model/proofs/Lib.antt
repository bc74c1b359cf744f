pub mod Common
pub mod ExampleWords
pub mod Examples
pub mod MoreExamples
mod ReplyExamples
mod FullExamples
mod RouteExamples
mod UnitExamples
mod OutsiderExamples
pub mod HistoryLemmas
pub mod NamedWagonLemmas
pub mod NoFaultLemmas
pub mod SoundnessLemmas
pub mod JourneyLengthLemmas
pub mod AdmittedLemmas
pub mod GrowthLemmas
pub mod ItemCountLemmas
pub mod PositionLemmas
pub mod AcknowledgementLemmas
pub mod OfferOrderLemmas
pub mod CalendarLemmas
pub mod StepLemmas
pub mod ListLemmas
pub mod SendLemmas
pub mod JourneyLemmas
pub mod WagonEventLemmas
pub mod ReceiverLemmas
pub mod ResponsibleEventLemmas
pub mod ConsentLemmas
pub mod InvolvedLemmas
pub mod NeedToKnowLemmas
pub mod RefusalLemmas
pub mod OfferOpeningLemmas
pub mod FleetLemmas
pub mod LookupLemmas
pub mod DependencyLemmas
pub mod FaultLemmas
pub mod FrameLemmas
pub mod ApartLemmas
pub mod UnitFrameLemmas
pub mod OwnReplyLemmas
pub mod RunnerLemmas
pub mod SenderLemmas
pub mod EitherOrderLemmas
pub mod AlikeLemmas
