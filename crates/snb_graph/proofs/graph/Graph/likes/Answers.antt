use Rattle.std.proofs.Common.{refl}
use mathlib.Core.Bool.{false≢true}
use Rattle.snb_graph_links.specs.Pairs.{rest}
use Rattle.snb_graph.proofs.WalkLemmas.{comment_likes, comment_likes_walk, post_likes, post_likes_walk}
use Rattle.snb_graph.proofs.graph.Graph.likes.Goals as goal

pub returns-in-Some-clause-post : goal.returns-in-Some-clause-post
returns-in-Some-clause-post c has =
    rw (← c.self.view_is) (post_likes_walk c.self.inside.tables.rows c.self.inside.links c.self.invariant.indexed c.args.message (rest c.pairs.result) c.pairs.ensures)

pub returns-in-Some-clause-comment : goal.returns-in-Some-clause-comment
returns-in-Some-clause-comment c none = absurd (none (rw (← c.self.view_is) (c.in-Some.ensures.held.0 refl)))

pub returns-in-Some-clause-held : goal.returns-in-Some-clause-held
returns-in-Some-clause-held c held =
    rw (← c.self.view_is) (post_likes c.self.inside.tables.rows c.args.message _ c.self.invariant.indexed.graph (rw (← c.self.view_is) at held) (c.in-Some.ensures.held.0 refl)
    (post_likes_walk c.self.inside.tables.rows c.self.inside.links c.self.invariant.indexed c.args.message (rest c.pairs.result) c.pairs.ensures))

pub returns-in-None-clause-post : goal.returns-in-None-clause-post
returns-in-None-clause-post c has = absurd (false≢true (c.in-None.ensures.held.1 (rw (← c.self.view_is) at has)))

pub returns-in-None-clause-comment : goal.returns-in-None-clause-comment
returns-in-None-clause-comment c none =
    rw (← c.self.view_is) (comment_likes_walk c.self.inside.tables.rows c.self.inside.links c.self.invariant.indexed c.args.message (rest c.pairs-in-None.result) c.pairs-in-None.ensures)

pub returns-in-None-clause-held : goal.returns-in-None-clause-held
returns-in-None-clause-held c held =
    rw (← c.self.view_is) (comment_likes c.self.inside.tables.rows c.args.message _ (rw (← c.self.view_is) at held) (λ has. false≢true (c.in-None.ensures.held.1 has))
    (comment_likes_walk c.self.inside.tables.rows c.self.inside.links c.self.invariant.indexed c.args.message (rest c.pairs-in-None.result) c.pairs-in-None.ensures))
