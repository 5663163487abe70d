use Rattle.std.proofs.Common.{refl}
use Rattle.snb_schema.specs.declared.column.Column.TheVariants.{Number, Small, Date}
use Rattle.snb_schema.specs.declared.column.Value.TheVariants.{Digits, Letters, SmallDigits}
use Rattle.snb_tool_words.proofs.ReadLemmas.{found_spells, only_date, only_number, only_small}
use Rattle.snb_tool_words.proofs.reads.is_spelled.Goals as goal

pub returns-in-Number : goal.returns-in-Number
returns-in-Number c = rw (c.in-Number.is, c.is_some.ensures) (found_spells (Number c.in-Number.most) c.args.word.now Digits _ (rw c.as_bytes-word.ensures.value at c.read_number.ensures) (only_number c.in-Number.most c.args.word.now))

pub returns-in-Small : goal.returns-in-Small
returns-in-Small c = rw (c.in-Small.is, c.is_some-in-Small.ensures) (found_spells (Small c.in-Small.most) c.args.word.now SmallDigits _ (rw (c.as_bytes-word.ensures.value, c.from.ensures) at c.read_number-in-Small.ensures) (only_small c.in-Small.most c.args.word.now))

pub returns-in-Date : goal.returns-in-Date
returns-in-Date c = rw (c.in-Date.is, c.is_some-in-Date.ensures) (found_spells Date c.args.word.now Digits _ (rw c.as_bytes-word.ensures.value at c.read_date.ensures) (only_date c.args.word.now))

pub returns-in-Words : goal.returns-in-Words
returns-in-Words c = rw c.in-Words.is (λ _. (Letters c.args.word.now, refl), λ _. refl)
