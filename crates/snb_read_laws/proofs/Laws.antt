-- What other crates may cite of this one: that an answer has its columns, and that there is a list of the persons near a person, and
-- no second one, and rows for them.
pub use Rattle.snb_read_laws.proofs.EachRead.{columns_of_answer}
pub use Rattle.snb_read_laws.proofs.Near.{near_held, some_within}
pub use Rattle.snb_read_laws.proofs.OneWithin.{Rises, one_within, same_rising}
pub use Rattle.snb_read_laws.proofs.SomeAnswers.{some_zip}
pub use Rattle.snb_read_laws.proofs.SomeNamed.{some_namesake}
pub use Rattle.snb_read_laws.proofs.Ties.{by_total, stay_total}
