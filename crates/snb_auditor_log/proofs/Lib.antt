mod LogFacts
mod VerdictFacts
mod Clean
