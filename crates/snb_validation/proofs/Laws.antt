-- What other crates may cite of this one: a reply has no float, and nests five deep.
pub use Rattle.snb_validation.proofs.ReplyFacts.{reply_low, reply_plain}
