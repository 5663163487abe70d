mod CaseFacts
mod CountFacts
mod DatasetFacts
mod GrammarFacts
mod HeardFacts
mod LackingFacts
mod LaneFacts
mod LawFacts
mod OrderFacts
mod ParamFacts
mod ParamListFacts
mod PastFacts
mod StreamFacts
pub mod Laws
pub mod FileSinkFacts
