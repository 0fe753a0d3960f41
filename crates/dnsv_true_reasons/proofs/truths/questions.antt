pub mod CutTruth
pub mod FactsThere
pub mod KnownMoves
pub mod PartTruth
pub mod QuestionTruth
pub mod SourceTruth
pub mod TypedTruth
