pub mod DayFacts
pub mod MomentFacts
pub mod SpellingFacts
pub mod TextFacts
