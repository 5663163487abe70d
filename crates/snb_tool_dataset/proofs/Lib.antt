pub mod DatasetLemmas
pub mod ExpectLemmas
pub mod Laws
