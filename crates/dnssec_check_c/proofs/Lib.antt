mod AskedLemmas
mod EndLemmas
