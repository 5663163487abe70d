-- Rows that are lent.
use Rattle.snb_schema.specs.declared.row.LentRow.{LentRow}
use Rattle.snb_schema.specs.declared.row.LentRow.TheVariants as lent
use Rattle.snb_schema.specs.declared.row.Row.{Row}
use Rattle.snb_schema.specs.declared.row.Row.TheVariants as row

-- the row that is lent
abbrev pub lent_row : LentRow → Row
lent_row (lent.Place place) = row.Place place.now
lent_row (lent.TagClass named) = row.TagClass named.now
lent_row (lent.Tag named) = row.Tag named.now
lent_row (lent.Organisation organisation) = row.Organisation organisation.now
lent_row (lent.Person person) = row.Person person.now
lent_row (lent.Forum forum) = row.Forum forum.now
lent_row (lent.Post post) = row.Post post.now
lent_row (lent.Comment comment) = row.Comment comment.now
lent_row (lent.Link table from to) = row.Link table from to
lent_row (lent.Dated table from to date) = row.Dated table from to date
lent_row (lent.Yeared table from to year) = row.Yeared table from to year
lent_row (lent.Word table person text) = row.Word table person text.now
