use Rattle.snb_input_files.specs.Format.{format_in}
use Rattle.snb_input_files.proofs.LawFacts.{stage_one, stage_or_not}
use Rattle.snb_input_files.proofs.law.one_refusal.Goals as goal

pub returns-clause-one : goal.returns-clause-one
returns-clause-one g c = λ begun. stage_one (format_in g.G.Grammar.language g.P.FileSink.stage begun) (c.requires.lawful begun)

pub returns-clause-or_not : goal.returns-clause-or_not
returns-clause-or_not g c = λ begun. stage_or_not (format_in g.G.Grammar.language g.P.FileSink.stage begun) (c.requires.lawful begun)
