pub mod Verdicts
pub mod Audits
pub mod VerdictLaws
pub mod Judging
