use Rattle.snb_graph_adjacency.proofs.LinkLemmas.{comment_likes_alone, frozen_at, friends_alone, gained_at, messages_alone, new_at, post_likes_alone, replies_alone, study_alone, work_alone, same_at}
use Rattle.snb_graph_adjacency.specs.declared.link.Walk.TheVariants.{Friends, Messages, Replies, PostLikes, CommentLikes, Work, Study}
use Rattle.snb_graph_adjacency.proofs.indexes.Indexes.add.Goals as goal
use Rattle.std.proofs.lemmas.Result.{on_err_weaker, on_ok_weaker}

pub add-requires : goal.add-requires
add-requires c = new_at c.args.self.now c.args.link Friends c.in-Friends.is c.requires

pub returns-in-Friends-clause-ok : goal.returns-in-Friends-clause-ok
returns-in-Friends-clause-ok c = on_ok_weaker c.add.result (λ added. gained_at c.args.self.now _ c.args.link Friends c.in-Friends.is added (friends_alone c.args.self.now c.add.new.self)) c.add.ensures.ok

pub returns-in-Friends-clause-err : goal.returns-in-Friends-clause-err
returns-in-Friends-clause-err c = on_err_weaker c.add.result (λ same. same_at c.args.self.now _ Friends same (friends_alone c.args.self.now c.add.new.self)) c.add.ensures.err

pub returns-in-Friends-clause-frozen : goal.returns-in-Friends-clause-frozen
returns-in-Friends-clause-frozen c = frozen_at c.args.self.now _ Friends c.add.ensures.frozen (friends_alone c.args.self.now c.add.new.self)

pub add-requires-in-Messages : goal.add-requires-in-Messages
add-requires-in-Messages c = new_at c.args.self.now c.args.link Messages c.in-Messages.is c.requires

pub returns-in-Messages-clause-ok : goal.returns-in-Messages-clause-ok
returns-in-Messages-clause-ok c = on_ok_weaker c.add-in-Messages.result (λ added. gained_at c.args.self.now _ c.args.link Messages c.in-Messages.is added (messages_alone c.args.self.now c.add-in-Messages.new.self)) c.add-in-Messages.ensures.ok

pub returns-in-Messages-clause-err : goal.returns-in-Messages-clause-err
returns-in-Messages-clause-err c = on_err_weaker c.add-in-Messages.result (λ same. same_at c.args.self.now _ Messages same (messages_alone c.args.self.now c.add-in-Messages.new.self)) c.add-in-Messages.ensures.err

pub returns-in-Messages-clause-frozen : goal.returns-in-Messages-clause-frozen
returns-in-Messages-clause-frozen c = frozen_at c.args.self.now _ Messages c.add-in-Messages.ensures.frozen (messages_alone c.args.self.now c.add-in-Messages.new.self)

pub add-requires-in-Replies : goal.add-requires-in-Replies
add-requires-in-Replies c = new_at c.args.self.now c.args.link Replies c.in-Replies.is c.requires

pub returns-in-Replies-clause-ok : goal.returns-in-Replies-clause-ok
returns-in-Replies-clause-ok c = on_ok_weaker c.add-in-Replies.result (λ added. gained_at c.args.self.now _ c.args.link Replies c.in-Replies.is added (replies_alone c.args.self.now c.add-in-Replies.new.self)) c.add-in-Replies.ensures.ok

pub returns-in-Replies-clause-err : goal.returns-in-Replies-clause-err
returns-in-Replies-clause-err c = on_err_weaker c.add-in-Replies.result (λ same. same_at c.args.self.now _ Replies same (replies_alone c.args.self.now c.add-in-Replies.new.self)) c.add-in-Replies.ensures.err

pub returns-in-Replies-clause-frozen : goal.returns-in-Replies-clause-frozen
returns-in-Replies-clause-frozen c = frozen_at c.args.self.now _ Replies c.add-in-Replies.ensures.frozen (replies_alone c.args.self.now c.add-in-Replies.new.self)

pub add-requires-in-PostLikes : goal.add-requires-in-PostLikes
add-requires-in-PostLikes c = new_at c.args.self.now c.args.link PostLikes c.in-PostLikes.is c.requires

pub returns-in-PostLikes-clause-ok : goal.returns-in-PostLikes-clause-ok
returns-in-PostLikes-clause-ok c = on_ok_weaker c.add-in-PostLikes.result (λ added. gained_at c.args.self.now _ c.args.link PostLikes c.in-PostLikes.is added (post_likes_alone c.args.self.now c.add-in-PostLikes.new.self)) c.add-in-PostLikes.ensures.ok

pub returns-in-PostLikes-clause-err : goal.returns-in-PostLikes-clause-err
returns-in-PostLikes-clause-err c = on_err_weaker c.add-in-PostLikes.result (λ same. same_at c.args.self.now _ PostLikes same (post_likes_alone c.args.self.now c.add-in-PostLikes.new.self)) c.add-in-PostLikes.ensures.err

pub returns-in-PostLikes-clause-frozen : goal.returns-in-PostLikes-clause-frozen
returns-in-PostLikes-clause-frozen c = frozen_at c.args.self.now _ PostLikes c.add-in-PostLikes.ensures.frozen (post_likes_alone c.args.self.now c.add-in-PostLikes.new.self)

pub add-requires-in-CommentLikes : goal.add-requires-in-CommentLikes
add-requires-in-CommentLikes c = new_at c.args.self.now c.args.link CommentLikes c.in-CommentLikes.is c.requires

pub returns-in-CommentLikes-clause-ok : goal.returns-in-CommentLikes-clause-ok
returns-in-CommentLikes-clause-ok c = on_ok_weaker c.add-in-CommentLikes.result (λ added. gained_at c.args.self.now _ c.args.link CommentLikes c.in-CommentLikes.is added (comment_likes_alone c.args.self.now c.add-in-CommentLikes.new.self)) c.add-in-CommentLikes.ensures.ok

pub returns-in-CommentLikes-clause-err : goal.returns-in-CommentLikes-clause-err
returns-in-CommentLikes-clause-err c = on_err_weaker c.add-in-CommentLikes.result (λ same. same_at c.args.self.now _ CommentLikes same (comment_likes_alone c.args.self.now c.add-in-CommentLikes.new.self)) c.add-in-CommentLikes.ensures.err

pub returns-in-CommentLikes-clause-frozen : goal.returns-in-CommentLikes-clause-frozen
returns-in-CommentLikes-clause-frozen c = frozen_at c.args.self.now _ CommentLikes c.add-in-CommentLikes.ensures.frozen (comment_likes_alone c.args.self.now c.add-in-CommentLikes.new.self)

pub add-requires-in-Work : goal.add-requires-in-Work
add-requires-in-Work c = new_at c.args.self.now c.args.link Work c.in-Work.is c.requires

pub returns-in-Work-clause-ok : goal.returns-in-Work-clause-ok
returns-in-Work-clause-ok c = on_ok_weaker c.add-in-Work.result (λ added. gained_at c.args.self.now _ c.args.link Work c.in-Work.is added (work_alone c.args.self.now c.add-in-Work.new.self)) c.add-in-Work.ensures.ok

pub returns-in-Work-clause-err : goal.returns-in-Work-clause-err
returns-in-Work-clause-err c = on_err_weaker c.add-in-Work.result (λ same. same_at c.args.self.now _ Work same (work_alone c.args.self.now c.add-in-Work.new.self)) c.add-in-Work.ensures.err

pub returns-in-Work-clause-frozen : goal.returns-in-Work-clause-frozen
returns-in-Work-clause-frozen c = frozen_at c.args.self.now _ Work c.add-in-Work.ensures.frozen (work_alone c.args.self.now c.add-in-Work.new.self)

pub add-requires-in-Study : goal.add-requires-in-Study
add-requires-in-Study c = new_at c.args.self.now c.args.link Study c.in-Study.is c.requires

pub returns-in-Study-clause-ok : goal.returns-in-Study-clause-ok
returns-in-Study-clause-ok c = on_ok_weaker c.add-in-Study.result (λ added. gained_at c.args.self.now _ c.args.link Study c.in-Study.is added (study_alone c.args.self.now c.add-in-Study.new.self)) c.add-in-Study.ensures.ok

pub returns-in-Study-clause-err : goal.returns-in-Study-clause-err
returns-in-Study-clause-err c = on_err_weaker c.add-in-Study.result (λ same. same_at c.args.self.now _ Study same (study_alone c.args.self.now c.add-in-Study.new.self)) c.add-in-Study.ensures.err

pub returns-in-Study-clause-frozen : goal.returns-in-Study-clause-frozen
returns-in-Study-clause-frozen c = frozen_at c.args.self.now _ Study c.add-in-Study.ensures.frozen (study_alone c.args.self.now c.add-in-Study.new.self)
