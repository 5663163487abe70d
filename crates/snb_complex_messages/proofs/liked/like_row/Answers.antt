use Rattle.std.proofs.Common.{rules}
use Rattle.snb_read_lookups.proofs.Laws.{shows}
use Rattle.snb_complex_messages.proofs.liked.like_row.Goals as goal

pub unreachable-requires : goal.unreachable-requires
unreachable-requires c =
    let (x, is) = shows c.args.graph.now c.known.ensures c.sound_graphs.ensures.numbers c.args.like.now.message c.requires.message.held in
    let none = c.in_default.ensures in
    cc

pub returns : goal.returns
returns c = record {
  person = c.known-person.result.now;
  held = c.known-person.ensures.only;
  message = record { id = c.args.like.now.message; date = c.in-Some.field-0-0; content = c.in-Some.content.now };
  sent = c.in-Some.ensures.only;
  is = search rules;
}
