-- Each explanation checks.
pub mod DenyLemmas
pub mod DerivedLemmas
pub mod ExplanationLemmas
pub mod FormLemmas
pub mod ShownLemmas
pub mod SpellLemmas
pub mod StepLemmas
pub mod TellLemmas
pub mod UnsignedLemmas
