-- What is told of a verdict: its lines, that each follows, and what is refused in their place.
pub mod ExplanationLemmas
pub mod QuietLemmas
pub mod ReportLemmas
pub mod WholeLemmas
