use Rattle.std.proofs.Common.{refl}
use Rattle.snb_schema.specs.declared.row.Row.TheVariants as row
use Rattle.snb_schema.specs.declared.table.Kind.TheVariants as kinds
use Rattle.snb_graph_tables.proofs.SameLemmas.{node_held, word_among}
use Rattle.snb_graph_tables.proofs.tables.Tables.same_row.Goals as goal

pub returns-in-Place : goal.returns-in-Place
returns-in-Place c =
    node_held kinds.Place row.Place (λ x. x.id) c.args.self.now.rows c.args.row.now c.place.result c.in-Place.place c.is_held.result (λ a b e. cc) (λ x. refl)
    c.known.ensures c.in-Place.is c.place.ensures.found c.place.ensures.held c.is_held.ensures

pub returns-in-TagClass : goal.returns-in-TagClass
returns-in-TagClass c =
    node_held kinds.TagClass row.TagClass (λ x. x.id) c.args.self.now.rows c.args.row.now c.tag_class.result c.in-TagClass.named c.is_held-in-TagClass.result (λ a b e. cc) (λ x. refl)
    c.known.ensures c.in-TagClass.is c.tag_class.ensures.found c.tag_class.ensures.held c.is_held-in-TagClass.ensures

pub returns-in-Tag : goal.returns-in-Tag
returns-in-Tag c =
    node_held kinds.Tag row.Tag (λ x. x.id) c.args.self.now.rows c.args.row.now c.tag.result c.in-Tag.named c.is_held-in-Tag.result (λ a b e. cc) (λ x. refl)
    c.known.ensures c.in-Tag.is c.tag.ensures.found c.tag.ensures.held c.is_held-in-Tag.ensures

pub returns-in-Organisation : goal.returns-in-Organisation
returns-in-Organisation c =
    node_held kinds.Organisation row.Organisation (λ x. x.id) c.args.self.now.rows c.args.row.now c.organisation.result c.in-Organisation.organisation c.is_held-in-Organisation.result (λ a b e. cc) (λ x. refl)
    c.known.ensures c.in-Organisation.is c.organisation.ensures.found c.organisation.ensures.held c.is_held-in-Organisation.ensures

pub returns-in-Person : goal.returns-in-Person
returns-in-Person c =
    node_held kinds.Person row.Person (λ x. x.id) c.args.self.now.rows c.args.row.now c.person.result c.in-Person.person c.is_held-in-Person.result (λ a b e. cc) (λ x. refl)
    c.known.ensures c.in-Person.is c.person.ensures.found c.person.ensures.held c.is_held-in-Person.ensures

pub returns-in-Forum : goal.returns-in-Forum
returns-in-Forum c =
    node_held kinds.Forum row.Forum (λ x. x.id) c.args.self.now.rows c.args.row.now c.forum.result c.in-Forum.forum c.is_held-in-Forum.result (λ a b e. cc) (λ x. refl)
    c.known.ensures c.in-Forum.is c.forum.ensures.found c.forum.ensures.held c.is_held-in-Forum.ensures

pub returns-in-Post : goal.returns-in-Post
returns-in-Post c =
    node_held kinds.Post row.Post (λ x. x.id) c.args.self.now.rows c.args.row.now c.post.result c.in-Post.post c.is_held-in-Post.result (λ a b e. cc) (λ x. refl)
    c.known.ensures c.in-Post.is c.post.ensures.found c.post.ensures.held c.is_held-in-Post.ensures

pub returns-in-Comment : goal.returns-in-Comment
returns-in-Comment c =
    node_held kinds.Comment row.Comment (λ x. x.id) c.args.self.now.rows c.args.row.now c.comment.result c.in-Comment.comment c.is_held-in-Comment.result (λ a b e. cc) (λ x. refl)
    c.known.ensures c.in-Comment.is c.comment.ensures.found c.comment.ensures.held c.is_held-in-Comment.ensures

pub returns-in-Word : goal.returns-in-Word
returns-in-Word c =
    rw c.in-Word.is
    (word_among c.args.self.now.rows c.in-Word.table c.in-Word.person c.in-Word.text c.words.result c.has_text.result c.known.ensures (let fit = rw c.in-Word.is at c.requires in fit.shaped) c.words.ensures c.has_text.ensures)
