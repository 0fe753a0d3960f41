pub mod CommandLineLemmas
