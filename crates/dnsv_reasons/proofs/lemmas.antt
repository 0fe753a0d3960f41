-- What the laws of what fails rest on.
pub mod AnchorLemmas
pub mod FaultLemmas
pub mod OnceLemmas
pub mod OneFailures
pub mod OneLine
pub mod OnePlace
pub mod TextLemmas
pub mod alike
pub mod facts
pub mod kept
pub mod questions
