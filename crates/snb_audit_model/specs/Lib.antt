pub mod AuditVerdicts
pub mod Audited
pub mod LogFiles
pub mod Miscounts
pub mod VerdictTexts
