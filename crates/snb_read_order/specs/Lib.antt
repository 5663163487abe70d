pub mod Laws
pub mod TopK
