pub mod Gaining
pub mod Laws
pub mod SortedLemmas
