-- What a line is written from.
use Rattle.snb_schema.specs.declared.column.Value.{Value}
use Rattle.snb_schema.specs.declared.column.Value.TheVariants as value
use Rattle.snb_input_fields.specs.declared.write.Cell.{Cell}
use Rattle.snb_input_fields.specs.declared.write.Cell.TheVariants.{Digits, SmallDigits, NoId, Letters, Texts, Ids, Pairs}

-- the value that is lent
abbrev pub value_of : Cell → Value
value_of (Digits n) = value.Digits n
value_of (SmallDigits n) = value.SmallDigits n
value_of NoId = value.NoId
value_of (Letters text) = value.Letters text.now
value_of (Texts texts) = value.Texts texts.now
value_of (Ids ids) = value.Ids ids.now
value_of (Pairs pairs) = value.Pairs pairs.now
