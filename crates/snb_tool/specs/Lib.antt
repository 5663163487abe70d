pub mod Connectors
pub mod Laws
pub mod LineLaws
pub mod CaseLaws
pub mod Shorts
pub mod WholeLaws
