use Rattle.snb_streams.proofs.FileFacts
use Rattle.snb_streams.proofs.files_law.one_stream_reading.Goals as goal

pub returns : goal.returns
returns c = FileFacts.one_stream_reading c.one_value.ensures.list c.one_fault.ensures.none
