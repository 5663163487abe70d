-- What other crates may cite of this one: facts about walks that give the nodes of a list, about the
-- numbers of reads, and about values by a query's place.
pub use Rattle.snb_schema.proofs.Apart.{each_read, one_kind, passed_on, table_exact}
pub use Rattle.snb_schema.proofs.FrequencyFacts.{uncut}
pub use Rattle.snb_schema.proofs.KindFacts.{numbered_is, numbered_some, one_number}
pub use Rattle.snb_schema.proofs.PlaceFacts.{AreApart, complex_apart, each_same, frequent_complex, none_given, of_one, same_values}
pub use Rattle.snb_schema.proofs.Walks.{walked_all, walked_to}
