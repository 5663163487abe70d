use Rattle.std.proofs.Common.{◌≡◌, ◌↔◌, ap, refl, subst, Contains, IfSome, IsTrue}
use Rattle.std.specs.Option.{is_some, option_copied}
use Rattle.snb_schema.specs.declared.row.Row.TheVariants as row
use Rattle.snb_schema.specs.declared.table.Kind.TheVariants as kinds
use Rattle.snb_schema.specs.RowKeys.{node_key}
use Rattle.snb_graph_model.specs.Graphs.{HasKey}
use Rattle.snb_graph_tables.specs.Parts.{parts}
use Rattle.snb_graph_tables.proofs.SlotLemmas.{key_in_part, found_in_part}
use Rattle.snb_graph_tables.proofs.Laws.{rows_is}
use Rattle.snb_graph_tables.proofs.tables.Tables.tag_class.Goals as goal

pub returns-in-Some-clause-held : goal.returns-in-Some-clause-held
returns-in-Some-clause-held c =
    subst (λ o. IsTrue (is_some o) ↔ HasKey c.args.self.now.rows (node_key kinds.TagClass c.args.id)) c.in-Some.is
    (key_in_part (parts c.self.inside) 1 c.args.self.now.rows (node_key kinds.TagClass c.args.id) (is_some c.find.result) (rows_is c.self.view_is) c.self.invariant refl c.find.ensures.held)

pub returns-in-None-clause-held : goal.returns-in-None-clause-held
returns-in-None-clause-held c =
    subst (λ o. IsTrue (is_some o) ↔ HasKey c.args.self.now.rows (node_key kinds.TagClass c.args.id)) c.in-None.is
    (key_in_part (parts c.self.inside) 1 c.args.self.now.rows (node_key kinds.TagClass c.args.id) (is_some c.find.result) (rows_is c.self.view_is) c.self.invariant refl c.find.ensures.held)

pub returns-in-Some-clause-found : goal.returns-in-Some-clause-found
returns-in-Some-clause-found c =
    subst (λ o. IfSome (option_copied o) (λ v. (v.named.id ≡ c.args.id) × Contains c.args.self.now.rows (row.TagClass v.named))) c.in-Some.is
    (found_in_part (parts c.self.inside) 1 c.args.self.now.rows (option_copied c.find.result) (λ v. row.TagClass v.named) _ (λ v. v.named.id ≡ c.args.id) (rows_is c.self.view_is) c.find.ensures.found (λ v fit. ap (λ k. k.1) fit.0))
