use Rattle.std.proofs.Common.{ℕ, List, sym, subst, inl, inr}
use Rattle.snb_graph_model.proofs.Laws.{no_message}
use Rattle.snb_read_lookups.proofs.Laws.{found_comment, found_post}
use Rattle.snb_read_lookups.specs.Lookups.{IsOnlyMessage}
use Rattle.snb_read_lookups.proofs.lookups.shown.Goals as goal

pub returns-in-Some : goal.returns-in-Some
returns-in-Some c =
    subst (λ (text : List ℕ). IsOnlyMessage c.args.graph.now c.args.id c.in-Some.post.now.creation_date text) (sym c.post_content.ensures)
    (found_post c.args.graph.now c.known.ensures c.sound_graphs.ensures.numbers c.args.id c.in-Some.post.now c.in-Some.ensures.found)

pub returns-in-Some-comment : goal.returns-in-Some-comment
returns-in-Some-comment c = found_comment c.args.graph.now c.known.ensures c.sound_graphs.ensures.numbers c.args.id c.in-Some-comment.comment.now c.in-Some-comment.ensures.found

pub returns-in-None : goal.returns-in-None
returns-in-None c =
    no_message c.args.graph.now c.args.id (λ h. elim h [ inl p ↦ (let e = c.in_default.ensures.held.1 p in cc) | inr q ↦ (let e = c.in-None.ensures.held.1 q in cc) ])
