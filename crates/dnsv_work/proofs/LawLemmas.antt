-- Every file is shown, listed or refused, and one thing is known of signatures.
pub mod Answers
pub mod Listed
pub mod OneKnown
