use Rattle.snb_input_files.specs.Format.{format_in}
use Rattle.snb_input_files.proofs.Taking.{files_one}
use Rattle.snb_input_files.proofs.law.one_saying.Goals as goal

pub returns : goal.returns
returns g c = λ begun. files_one (format_in g.G.Grammar.language g.P.FileSink.stage begun) (c.requires.lawful begun)
