-- What other crates may cite of this one: events of one worker.
pub use Rattle.snb_board.proofs.Events.{events_of-append}
