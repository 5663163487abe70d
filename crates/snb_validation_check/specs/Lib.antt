pub mod CaseTakers
pub mod Laws
