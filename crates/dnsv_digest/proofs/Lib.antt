pub mod DigestLemmas
