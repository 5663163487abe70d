use Rattle.std.proofs.Common.{◌↔◌, ℕ, true, false}
use Rattle.std.specs.List.{Contains}
use Rattle.snb_schema.specs.declared.table.Table.TheVariants as table
use Rattle.snb_graph_adjacency.specs.declared.link.Walk.TheVariants.{Friends}
use Rattle.snb_graph_adjacency.specs.Links.{Tells}
use Rattle.snb_graph_adjacency.specs.Whole.{HasEdge}
use Rattle.snb_graph_adjacency.proofs.WholeLemmas.{pairs_by, told_single, two_added}
use Rattle.snb_graph_adjacency.proofs.whole.friends.Goals as goal

are : (c : goal.In_ok-add_edges-2) (of id date : ℕ) → Contains c.add_edges-2.new.links.items (of, (id, date)) ↔ Tells c.args.tables.now.rows Friends of id date
are c of id date = two_added (HasEdge c.args.tables.now.rows table.PersonKnowsPerson false) (HasEdge c.args.tables.now.rows table.PersonKnowsPerson true) c.new-links.result.items c.add_edges.new.links.items c.add_edges-2.new.links.items c.new-links.ensures.items c.in_ok-add_edges.ensures c.in_ok-add_edges-2.ensures of id date

pub of-requires : goal.of-requires
of-requires c = told_single c.args.tables.now.rows c.known.ensures Friends c.add_edges-2.new.links.items (are c)

pub returns : goal.returns
returns c = pairs_by (Tells c.args.tables.now.rows Friends) c.add_edges-2.new.links.items c.of.result (λ of id date. two_added (HasEdge c.args.tables.now.rows table.PersonKnowsPerson false) (HasEdge c.args.tables.now.rows table.PersonKnowsPerson true) c.new-links.result.items c.add_edges.new.links.items c.add_edges-2.new.links.items c.new-links.ensures.items c.in_ok-add_edges.ensures c.in_ok-add_edges-2.ensures of id date) c.of.ensures
