pub mod LineTruth
pub mod QuestionLaw
pub mod TrustLaw
pub mod questions
pub mod ways
pub mod zones
