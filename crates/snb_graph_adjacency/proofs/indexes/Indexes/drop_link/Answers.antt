use Rattle.snb_graph_adjacency.proofs.LinkLemmas.{comment_likes_alone, friends_alone, frozen_at, lost_at, messages_alone, own_at, post_likes_alone, replies_alone, study_alone, work_alone}
use Rattle.snb_graph_adjacency.specs.declared.link.Walk.TheVariants.{Friends, Messages, Replies, PostLikes, CommentLikes, Work, Study}
use Rattle.snb_graph_adjacency.proofs.indexes.Indexes.drop_link.Goals as goal

pub drop_pair-requires : goal.drop_pair-requires
drop_pair-requires c = own_at c.args.self.now c.args.link Friends c.in-Friends.is c.requires

pub returns-in-Friends-clause-gone : goal.returns-in-Friends-clause-gone
returns-in-Friends-clause-gone c = lost_at c.args.self.now _ c.args.link Friends c.in-Friends.is c.drop_pair.ensures.gone (friends_alone c.args.self.now c.drop_pair.new.self)

pub returns-in-Friends-clause-frozen : goal.returns-in-Friends-clause-frozen
returns-in-Friends-clause-frozen c = frozen_at c.args.self.now _ Friends c.drop_pair.ensures.frozen (friends_alone c.args.self.now c.drop_pair.new.self)

pub drop_pair-requires-in-Messages : goal.drop_pair-requires-in-Messages
drop_pair-requires-in-Messages c = own_at c.args.self.now c.args.link Messages c.in-Messages.is c.requires

pub returns-in-Messages-clause-gone : goal.returns-in-Messages-clause-gone
returns-in-Messages-clause-gone c = lost_at c.args.self.now _ c.args.link Messages c.in-Messages.is c.drop_pair-in-Messages.ensures.gone (messages_alone c.args.self.now c.drop_pair-in-Messages.new.self)

pub returns-in-Messages-clause-frozen : goal.returns-in-Messages-clause-frozen
returns-in-Messages-clause-frozen c = frozen_at c.args.self.now _ Messages c.drop_pair-in-Messages.ensures.frozen (messages_alone c.args.self.now c.drop_pair-in-Messages.new.self)

pub drop_pair-requires-in-Replies : goal.drop_pair-requires-in-Replies
drop_pair-requires-in-Replies c = own_at c.args.self.now c.args.link Replies c.in-Replies.is c.requires

pub returns-in-Replies-clause-gone : goal.returns-in-Replies-clause-gone
returns-in-Replies-clause-gone c = lost_at c.args.self.now _ c.args.link Replies c.in-Replies.is c.drop_pair-in-Replies.ensures.gone (replies_alone c.args.self.now c.drop_pair-in-Replies.new.self)

pub returns-in-Replies-clause-frozen : goal.returns-in-Replies-clause-frozen
returns-in-Replies-clause-frozen c = frozen_at c.args.self.now _ Replies c.drop_pair-in-Replies.ensures.frozen (replies_alone c.args.self.now c.drop_pair-in-Replies.new.self)

pub drop_pair-requires-in-PostLikes : goal.drop_pair-requires-in-PostLikes
drop_pair-requires-in-PostLikes c = own_at c.args.self.now c.args.link PostLikes c.in-PostLikes.is c.requires

pub returns-in-PostLikes-clause-gone : goal.returns-in-PostLikes-clause-gone
returns-in-PostLikes-clause-gone c = lost_at c.args.self.now _ c.args.link PostLikes c.in-PostLikes.is c.drop_pair-in-PostLikes.ensures.gone (post_likes_alone c.args.self.now c.drop_pair-in-PostLikes.new.self)

pub returns-in-PostLikes-clause-frozen : goal.returns-in-PostLikes-clause-frozen
returns-in-PostLikes-clause-frozen c = frozen_at c.args.self.now _ PostLikes c.drop_pair-in-PostLikes.ensures.frozen (post_likes_alone c.args.self.now c.drop_pair-in-PostLikes.new.self)

pub drop_pair-requires-in-CommentLikes : goal.drop_pair-requires-in-CommentLikes
drop_pair-requires-in-CommentLikes c = own_at c.args.self.now c.args.link CommentLikes c.in-CommentLikes.is c.requires

pub returns-in-CommentLikes-clause-gone : goal.returns-in-CommentLikes-clause-gone
returns-in-CommentLikes-clause-gone c = lost_at c.args.self.now _ c.args.link CommentLikes c.in-CommentLikes.is c.drop_pair-in-CommentLikes.ensures.gone (comment_likes_alone c.args.self.now c.drop_pair-in-CommentLikes.new.self)

pub returns-in-CommentLikes-clause-frozen : goal.returns-in-CommentLikes-clause-frozen
returns-in-CommentLikes-clause-frozen c = frozen_at c.args.self.now _ CommentLikes c.drop_pair-in-CommentLikes.ensures.frozen (comment_likes_alone c.args.self.now c.drop_pair-in-CommentLikes.new.self)

pub drop_pair-requires-in-Work : goal.drop_pair-requires-in-Work
drop_pair-requires-in-Work c = own_at c.args.self.now c.args.link Work c.in-Work.is c.requires

pub returns-in-Work-clause-gone : goal.returns-in-Work-clause-gone
returns-in-Work-clause-gone c = lost_at c.args.self.now _ c.args.link Work c.in-Work.is c.drop_pair-in-Work.ensures.gone (work_alone c.args.self.now c.drop_pair-in-Work.new.self)

pub returns-in-Work-clause-frozen : goal.returns-in-Work-clause-frozen
returns-in-Work-clause-frozen c = frozen_at c.args.self.now _ Work c.drop_pair-in-Work.ensures.frozen (work_alone c.args.self.now c.drop_pair-in-Work.new.self)

pub drop_pair-requires-in-Study : goal.drop_pair-requires-in-Study
drop_pair-requires-in-Study c = own_at c.args.self.now c.args.link Study c.in-Study.is c.requires

pub returns-in-Study-clause-gone : goal.returns-in-Study-clause-gone
returns-in-Study-clause-gone c = lost_at c.args.self.now _ c.args.link Study c.in-Study.is c.drop_pair-in-Study.ensures.gone (study_alone c.args.self.now c.drop_pair-in-Study.new.self)

pub returns-in-Study-clause-frozen : goal.returns-in-Study-clause-frozen
returns-in-Study-clause-frozen c = frozen_at c.args.self.now _ Study c.drop_pair-in-Study.ensures.frozen (study_alone c.args.self.now c.drop_pair-in-Study.new.self)
