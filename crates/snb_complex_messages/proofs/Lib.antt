mod Heads
mod LikeLemmas
mod Moves
mod ReplyLemmas
mod SentLemmas
