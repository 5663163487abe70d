use Rattle.snb_csv.proofs.FileFacts
use Rattle.snb_csv.proofs.files_law.table_files.Goals as goal

pub returns : goal.returns
returns c = FileFacts.table_files
