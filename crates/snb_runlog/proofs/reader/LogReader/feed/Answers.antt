use Rattle.snb_input_lines.specs.Feeding.{new_lines}
use Rattle.snb_runlog.proofs.ReaderFacts.{fed_knows}
use Rattle.snb_runlog.proofs.reader.LogReader.feed.Goals as goal

pub invariant_of-self : goal.invariant_of-self
invariant_of-self c =
    fed_knows c.feed.result (new_lines c.self.inside.lines c.args.piece.now) c.self.inside.lines c.feed.new.self c.args.into.now.items c.feed.new.into.items c.args.into.now c.feed.new.into
    c.feed.ensures.kept c.feed.ensures.was_good c.feed.ensures.ok c.feed.ensures.bad c.feed.ensures.memory c.self.invariant
