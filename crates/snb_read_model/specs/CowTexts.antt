-- What a text of an answer is seen as.
use Rattle.std.specs.Prelude.{ℕ, List}
use Rattle.snb_read_model.specs.declared.cow_text.Source.{Source}
use Rattle.snb_read_model.specs.declared.cow_text.Source.TheVariants.{Lent, Own}

-- its bytes, whosever it is
abbrev pub bytes_of : Source → List ℕ
bytes_of (Lent text) = text.now
bytes_of (Own text) = text
