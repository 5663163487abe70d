use Rattle.snb_streams.proofs.FileFacts
use Rattle.snb_streams.proofs.files_law.params_files.Goals as goal

pub returns : goal.returns
returns c = FileFacts.params_files
