use Rattle.snb_csv.proofs.FileFacts
use Rattle.snb_csv.proofs.files_law.one_table_reading.Goals as goal

pub returns : goal.returns
returns c = FileFacts.one_table_reading c.one_row.ensures c.one_column.ensures.right
