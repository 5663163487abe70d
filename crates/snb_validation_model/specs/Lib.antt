pub mod CaseTexts
pub mod CasesFile
pub mod CheckTexts
pub mod Checks
pub mod Expected
pub mod Steps
