use Rattle.std.proofs.Common.{refl}
use Rattle.snb_loader.proofs.GrammarFacts.{table_lawful, tables_fit}
use Rattle.snb_loader.proofs.HeardFacts.{graph_hears, graph_turned}
use Rattle.snb_loader.proofs.tables.tables_are_lawful.Goals as goal

pub returns-clause-lawful : goal.returns-clause-lawful
returns-clause-lawful c = table_lawful c.one_row.ensures c.one_column.ensures.right c.one_column.ensures.one

pub returns-clause-right : goal.returns-clause-right
returns-clause-right c = record {
  lawful = table_lawful c.one_row.ensures c.one_column.ensures.right c.one_column.ensures.one;
  fits = tables_fit c.rows_of_fields_fit.ensures;
  hears = graph_hears;
  turned = graph_turned;
  ended = λ s file done mine h. refl;
}
