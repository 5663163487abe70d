use Rattle.std.proofs.Common.{◌≡◌, ap, refl}
use Rattle.std.specs.Option.{is_some, option_copied}
use Rattle.snb_schema.specs.declared.row.Row.TheVariants as row
use Rattle.snb_schema.specs.declared.table.Kind.TheVariants as kinds
use Rattle.snb_schema.specs.RowKeys.{node_key}
use Rattle.snb_graph_tables.specs.Parts.{parts}
use Rattle.snb_graph_tables.proofs.SlotLemmas.{key_in_part, found_in_part}
use Rattle.snb_graph_tables.proofs.Laws.{rows_is}
use Rattle.snb_graph_tables.proofs.tables.Tables.forum.Goals as goal

pub returns-clause-held : goal.returns-clause-held
returns-clause-held c = key_in_part (parts c.self.inside) 5 c.args.self.now.rows (node_key kinds.Forum c.args.id) (is_some c.find.result) (rows_is c.self.view_is) c.self.invariant refl c.find.ensures.held

pub returns-clause-found : goal.returns-clause-found
returns-clause-found c = found_in_part (parts c.self.inside) 5 c.args.self.now.rows (option_copied c.find.result) row.Forum _ (λ n. n.id ≡ c.args.id) (rows_is c.self.view_is) c.find.ensures.found (λ n fit. ap (λ k. k.1) fit.0)
