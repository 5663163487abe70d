use Rattle.std.proofs.Common.{ap, length, arith}
use Rattle.snb_graph_tables.proofs.PartLemmas.{joined_count}
use Rattle.snb_graph_tables.proofs.Laws.{rows_is}
use Rattle.snb_graph_tables.proofs.tables.Tables.rows.Goals as goal

pub returns : goal.returns
returns c = omega (arith, ap length (rows_is c.self.view_is), joined_count c.self.inside.places.rows c.self.inside.tag_classes.rows c.self.inside.tags.rows c.self.inside.organisations.rows c.self.inside.persons.rows c.self.inside.forums.rows c.self.inside.posts.rows c.self.inside.comments.rows c.self.inside.edges.rows c.self.inside.words.rows)
