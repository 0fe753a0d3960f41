pub mod lemmas
mod QuestionHashLemmas
