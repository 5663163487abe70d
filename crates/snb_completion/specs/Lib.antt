pub mod Progress
pub mod TimesLaws
pub mod Waiting
