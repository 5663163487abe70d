use Rattle.std.proofs.Common.{refl, inl, inr}
use Rattle.snb_schema.specs.declared.row.Row.TheVariants as row
use Rattle.snb_schema.specs.declared.table.Table.TheVariants as table
use Rattle.snb_read_lookups.proofs.Laws.{comment_written, post_written}
use Rattle.snb_read_lookups.proofs.lookups.author_id.Goals as goal

pub returns-in-Some : goal.returns-in-Some
returns-in-Some c = post_written c.args.graph.now c.known.ensures c.sound_graphs.ensures.kinds c.requires.sound.held c.args.message c.in-Some.person c.in-Some.ensures.found

pub unreachable-requires : goal.unreachable-requires
unreachable-requires c =
    let a = c.sound_graphs.ensures.author c.args.graph.now c.known.ensures c.requires.sound c.args.message c.requires.held in
    elim a.wrote [
      | inl link ↦ (let e = c.in_default.ensures.held.1 (record { it = row.Link table.PostHasCreatorPerson c.args.message a.author; held = link; keyed = refl }) in cc)
      | inr link ↦ (let e = c.in-None.ensures.held.1 (record { it = row.Link table.CommentHasCreatorPerson c.args.message a.author; held = link; keyed = refl }) in cc)
    ]

pub returns : goal.returns
returns c = comment_written c.args.graph.now c.known.ensures c.sound_graphs.ensures.kinds c.requires.sound.held c.args.message c.in-Some-one.creator c.in-Some-one.ensures.found
