pub mod MiscountFacts
pub mod TallyFacts
