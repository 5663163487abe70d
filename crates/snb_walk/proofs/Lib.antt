mod Answering
mod Going
mod OneWalks
mod Shortness
mod SomeWalks
