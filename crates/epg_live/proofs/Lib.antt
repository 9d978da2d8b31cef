pub mod StopFacts
mod OpenFacts
mod RanFacts
mod DescribedFacts
pub mod MetFacts
pub mod DecidedFacts
mod ControlFacts
mod ShapeFacts
mod TypedFacts
mod ReportFacts
pub mod LeavesFacts
pub mod LiveRunFacts
pub mod ViewFacts
