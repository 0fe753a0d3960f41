pub mod LineLemmas
pub mod QuestionFileLaws
pub mod QuestionLemmas
