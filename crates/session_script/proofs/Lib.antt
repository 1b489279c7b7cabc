pub mod BegunCircuits
pub mod Chains
pub mod KeptPlaces
pub mod KeptHeads
pub mod KeptCircuits
pub mod KeptLanes
pub mod KeptLemmas
pub mod KeptBounds
pub mod PieceLemmas
pub mod SectionLaws
mod AcceptedScripts
mod Faults
mod RefusedScripts
