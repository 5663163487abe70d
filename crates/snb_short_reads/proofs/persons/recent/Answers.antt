use Rattle.std.proofs.Common.{rules}
use Rattle.snb_read_lookups.proofs.Laws.{shows}
use Rattle.snb_short_reads.proofs.persons.recent.Goals as goal

pub unreachable-requires : goal.unreachable-requires
unreachable-requires c =
    let (x, is) = shows c.args.graph.now c.known.ensures c.sound_graphs.ensures.numbers c.args.message.0 c.requires.found.held in
    let none = c.in_default.ensures in
    cc

pub returns : goal.returns
returns c = record {
  message = record { id = c.args.message.0; date = c.in-Some.field-0-0; content = c.in-Some.content.now };
  held = c.in-Some.ensures.only;
  root = c.root-post.result;
  from = c.root-post.ensures.root;
  author = c.known-author.result.now;
  wrote = record { id = c.author_id.result; created = c.author_id.ensures.only; held = c.known-author.ensures.only };
  is = search rules;
}
