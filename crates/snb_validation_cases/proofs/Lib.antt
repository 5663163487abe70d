mod ValueFacts
mod ReplyFacts
mod OneFacts
mod KindFacts
mod AskFacts
mod CaseFacts
mod LawFacts
mod TakeFacts
