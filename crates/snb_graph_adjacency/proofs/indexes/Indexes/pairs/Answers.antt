use Rattle.snb_graph_adjacency.proofs.indexes.Indexes.pairs.Goals as goal

pub returns-in-Friends : goal.returns-in-Friends
returns-in-Friends c = rw c.in-Friends.is c.pairs.ensures

pub returns-in-Messages : goal.returns-in-Messages
returns-in-Messages c = rw c.in-Messages.is c.pairs-in-Messages.ensures

pub returns-in-Replies : goal.returns-in-Replies
returns-in-Replies c = rw c.in-Replies.is c.pairs-in-Replies.ensures

pub returns-in-PostLikes : goal.returns-in-PostLikes
returns-in-PostLikes c = rw c.in-PostLikes.is c.pairs-in-PostLikes.ensures

pub returns-in-CommentLikes : goal.returns-in-CommentLikes
returns-in-CommentLikes c = rw c.in-CommentLikes.is c.pairs-in-CommentLikes.ensures

pub returns-in-Work : goal.returns-in-Work
returns-in-Work c = rw c.in-Work.is c.pairs-in-Work.ensures

pub returns-in-Study : goal.returns-in-Study
returns-in-Study c = rw c.in-Study.is c.pairs-in-Study.ensures
