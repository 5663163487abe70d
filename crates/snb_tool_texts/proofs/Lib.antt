pub mod FinalLemmas
