pub mod TextLemmas
pub mod FaultLemmas
pub mod MeetingLemmas
pub mod LostLemmas
pub mod LossLemmas
pub mod Looping
