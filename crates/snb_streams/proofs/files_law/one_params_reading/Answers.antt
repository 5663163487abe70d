use Rattle.snb_streams.proofs.FileFacts
use Rattle.snb_streams.proofs.files_law.one_params_reading.Goals as goal

pub returns : goal.returns
returns c = FileFacts.one_params_reading c.one_query.ensures.one c.one_query.ensures.none
