use Rattle.std.proofs.Common.{refl, [], ◌∷◌, ap}
use Rattle.std.specs.Result.{result_and}
use Rattle.snb_graph_rows.specs.Rows.{Stock}
use Rattle.snb_graph_tables.specs.Parts.{frozen_parts, parts}
use Rattle.snb_graph_tables.proofs.PartLemmas.{frozen_all, frozen_first, frozen_more, joined_among}
use Rattle.snb_graph_tables.proofs.tables.Tables.freeze.Goals as goal

pub invariant_of-self : goal.invariant_of-self
invariant_of-self c = rw (c.freeze.ensures.rows, c.freeze-2.ensures.rows, c.freeze-3.ensures.rows, c.freeze-4.ensures.rows, c.freeze-5.ensures.rows, c.freeze-6.ensures.rows, c.freeze-7.ensures.rows, c.freeze-8.ensures.rows, c.freeze-9.ensures.rows, c.freeze-10.ensures.rows) c.self.invariant

pub returns-clause-rows : goal.returns-clause-rows
returns-clause-rows c = rw (c.freeze.ensures.rows, c.freeze-2.ensures.rows, c.freeze-3.ensures.rows, c.freeze-4.ensures.rows, c.freeze-5.ensures.rows, c.freeze-6.ensures.rows, c.freeze-7.ensures.rows, c.freeze-8.ensures.rows, c.freeze-9.ensures.rows, c.freeze-10.ensures.rows, ← c.self.view_is) refl

pub returns-clause-more : goal.returns-clause-more
returns-clause-more c = rw (← c.self.view_is) (joined_among (frozen_parts c.self.inside) (c.freeze.new.self.frozen ∷ c.freeze-2.new.self.frozen ∷ c.freeze-3.new.self.frozen ∷ c.freeze-4.new.self.frozen ∷ c.freeze-5.new.self.frozen ∷ c.freeze-6.new.self.frozen ∷ c.freeze-7.new.self.frozen ∷ c.freeze-8.new.self.frozen ∷ c.freeze-9.new.self.frozen ∷ c.freeze-10.new.self.frozen ∷ []) (c.freeze.ensures.more, (c.freeze-2.ensures.more, (c.freeze-3.ensures.more, (c.freeze-4.ensures.more, (c.freeze-5.ensures.more, (c.freeze-6.ensures.more, (c.freeze-7.ensures.more, (c.freeze-8.ensures.more, (c.freeze-9.ensures.more, (c.freeze-10.ensures.more, tt)))))))))))

pub returns-clause-ok : goal.returns-clause-ok
returns-clause-ok c =
    let first = frozen_first c.freeze.result _ _ c.freeze.ensures.ok in
    let more1 = frozen_more (c.freeze.result) c.freeze-2.result (c.freeze.new.self.frozen ∷ []) (c.self.inside.places.rows ∷ []) _ _ first c.freeze-2.ensures.ok in
    let more2 = frozen_more (result_and (c.freeze.result) c.freeze-2.result) c.freeze-3.result (c.freeze.new.self.frozen ∷ c.freeze-2.new.self.frozen ∷ []) (c.self.inside.places.rows ∷ c.self.inside.tag_classes.rows ∷ []) _ _ more1 c.freeze-3.ensures.ok in
    let more3 = frozen_more (result_and (result_and (c.freeze.result) c.freeze-2.result) c.freeze-3.result) c.freeze-4.result (c.freeze.new.self.frozen ∷ c.freeze-2.new.self.frozen ∷ c.freeze-3.new.self.frozen ∷ []) (c.self.inside.places.rows ∷ c.self.inside.tag_classes.rows ∷ c.self.inside.tags.rows ∷ []) _ _ more2 c.freeze-4.ensures.ok in
    let more4 = frozen_more (result_and (result_and (result_and (c.freeze.result) c.freeze-2.result) c.freeze-3.result) c.freeze-4.result) c.freeze-5.result (c.freeze.new.self.frozen ∷ c.freeze-2.new.self.frozen ∷ c.freeze-3.new.self.frozen ∷ c.freeze-4.new.self.frozen ∷ []) (c.self.inside.places.rows ∷ c.self.inside.tag_classes.rows ∷ c.self.inside.tags.rows ∷ c.self.inside.organisations.rows ∷ []) _ _ more3 c.freeze-5.ensures.ok in
    let more5 = frozen_more (result_and (result_and (result_and (result_and (c.freeze.result) c.freeze-2.result) c.freeze-3.result) c.freeze-4.result) c.freeze-5.result) c.freeze-6.result (c.freeze.new.self.frozen ∷ c.freeze-2.new.self.frozen ∷ c.freeze-3.new.self.frozen ∷ c.freeze-4.new.self.frozen ∷ c.freeze-5.new.self.frozen ∷ []) (c.self.inside.places.rows ∷ c.self.inside.tag_classes.rows ∷ c.self.inside.tags.rows ∷ c.self.inside.organisations.rows ∷ c.self.inside.persons.rows ∷ []) _ _ more4 c.freeze-6.ensures.ok in
    let more6 = frozen_more (result_and (result_and (result_and (result_and (result_and (c.freeze.result) c.freeze-2.result) c.freeze-3.result) c.freeze-4.result) c.freeze-5.result) c.freeze-6.result) c.freeze-7.result (c.freeze.new.self.frozen ∷ c.freeze-2.new.self.frozen ∷ c.freeze-3.new.self.frozen ∷ c.freeze-4.new.self.frozen ∷ c.freeze-5.new.self.frozen ∷ c.freeze-6.new.self.frozen ∷ []) (c.self.inside.places.rows ∷ c.self.inside.tag_classes.rows ∷ c.self.inside.tags.rows ∷ c.self.inside.organisations.rows ∷ c.self.inside.persons.rows ∷ c.self.inside.forums.rows ∷ []) _ _ more5 c.freeze-7.ensures.ok in
    let more7 = frozen_more (result_and (result_and (result_and (result_and (result_and (result_and (c.freeze.result) c.freeze-2.result) c.freeze-3.result) c.freeze-4.result) c.freeze-5.result) c.freeze-6.result) c.freeze-7.result) c.freeze-8.result (c.freeze.new.self.frozen ∷ c.freeze-2.new.self.frozen ∷ c.freeze-3.new.self.frozen ∷ c.freeze-4.new.self.frozen ∷ c.freeze-5.new.self.frozen ∷ c.freeze-6.new.self.frozen ∷ c.freeze-7.new.self.frozen ∷ []) (c.self.inside.places.rows ∷ c.self.inside.tag_classes.rows ∷ c.self.inside.tags.rows ∷ c.self.inside.organisations.rows ∷ c.self.inside.persons.rows ∷ c.self.inside.forums.rows ∷ c.self.inside.posts.rows ∷ []) _ _ more6 c.freeze-8.ensures.ok in
    let more8 = frozen_more (result_and (result_and (result_and (result_and (result_and (result_and (result_and (c.freeze.result) c.freeze-2.result) c.freeze-3.result) c.freeze-4.result) c.freeze-5.result) c.freeze-6.result) c.freeze-7.result) c.freeze-8.result) c.freeze-9.result (c.freeze.new.self.frozen ∷ c.freeze-2.new.self.frozen ∷ c.freeze-3.new.self.frozen ∷ c.freeze-4.new.self.frozen ∷ c.freeze-5.new.self.frozen ∷ c.freeze-6.new.self.frozen ∷ c.freeze-7.new.self.frozen ∷ c.freeze-8.new.self.frozen ∷ []) (c.self.inside.places.rows ∷ c.self.inside.tag_classes.rows ∷ c.self.inside.tags.rows ∷ c.self.inside.organisations.rows ∷ c.self.inside.persons.rows ∷ c.self.inside.forums.rows ∷ c.self.inside.posts.rows ∷ c.self.inside.comments.rows ∷ []) _ _ more7 c.freeze-9.ensures.ok in
    let more9 = frozen_more (result_and (result_and (result_and (result_and (result_and (result_and (result_and (result_and (c.freeze.result) c.freeze-2.result) c.freeze-3.result) c.freeze-4.result) c.freeze-5.result) c.freeze-6.result) c.freeze-7.result) c.freeze-8.result) c.freeze-9.result) c.freeze-10.result (c.freeze.new.self.frozen ∷ c.freeze-2.new.self.frozen ∷ c.freeze-3.new.self.frozen ∷ c.freeze-4.new.self.frozen ∷ c.freeze-5.new.self.frozen ∷ c.freeze-6.new.self.frozen ∷ c.freeze-7.new.self.frozen ∷ c.freeze-8.new.self.frozen ∷ c.freeze-9.new.self.frozen ∷ []) (c.self.inside.places.rows ∷ c.self.inside.tag_classes.rows ∷ c.self.inside.tags.rows ∷ c.self.inside.organisations.rows ∷ c.self.inside.persons.rows ∷ c.self.inside.forums.rows ∷ c.self.inside.posts.rows ∷ c.self.inside.comments.rows ∷ c.self.inside.edges.rows ∷ []) _ _ more8 c.freeze-10.ensures.ok in
    rw (c.and-9.ensures, c.and-8.ensures, c.and-7.ensures, c.and-6.ensures, c.and-5.ensures, c.and-4.ensures, c.and-3.ensures, c.and-2.ensures, c.and.ensures) (frozen_all (result_and (result_and (result_and (result_and (result_and (result_and (result_and (result_and (result_and (c.freeze.result) c.freeze-2.result) c.freeze-3.result) c.freeze-4.result) c.freeze-5.result) c.freeze-6.result) c.freeze-7.result) c.freeze-8.result) c.freeze-9.result) c.freeze-10.result) (c.freeze.new.self.frozen ∷ c.freeze-2.new.self.frozen ∷ c.freeze-3.new.self.frozen ∷ c.freeze-4.new.self.frozen ∷ c.freeze-5.new.self.frozen ∷ c.freeze-6.new.self.frozen ∷ c.freeze-7.new.self.frozen ∷ c.freeze-8.new.self.frozen ∷ c.freeze-9.new.self.frozen ∷ c.freeze-10.new.self.frozen ∷ []) (parts c.self.inside) _ (ap (λ (s : Stock). s.rows) c.self.view_is) more9)
