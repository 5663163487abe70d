pub mod Laws
pub mod PartLemmas
pub mod SameLemmas
pub mod SlotLemmas
pub mod TableLemmas
