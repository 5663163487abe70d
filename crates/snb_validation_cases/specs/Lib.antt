pub mod Values
pub mod Parameters
pub mod Replies
pub mod Cases
pub mod CaseFile
pub mod Laws
pub mod Takes
