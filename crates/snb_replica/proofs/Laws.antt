-- Laws of histories and their fronts.
pub use Rattle.snb_replica.proofs.Fronts.{front_within}
