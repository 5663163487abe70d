mod Answering
mod Images
