use Rattle.std.proofs.Common.{◌≡◌, List, Bool, true, not, sym, ap, ◌∙◌, subst}
use Rattle.std.specs.List.{list_all}
use Rattle.std.proofs.lemmas.Bool.{false≢true}
use Rattle.snb_history.specs.Rules.{IsComplete}
use Rattle.snb_book.specs.Kept.{Kept}
use Rattle.snb_book.proofs.Answering.{complete_where_set, set_where_complete}
use Rattle.snb_book.proofs.book.Book.is_complete.Goals as goal

pub returns-then-not-self : goal.returns-then-not-self
returns-then-not-self c =
    let told : c.all_set.result ≡ list_all (λ flag. flag) c.self.inside.times.finished =
    c.all_set.ensures ∙ ap (λ (l : List Bool). list_all (λ flag. flag) l) c.finished.ensures in (
      λ set. subst (λ (b : Kept). IsComplete b.schedule b.history) c.self.view_is
          (complete_where_set _ _ _ _ _ _ c.self.invariant.1 c.if-not-self.true (sym told ∙ set)),
      λ complete. told
          ∙ (set_where_complete _ _ _ _ _ _ c.self.invariant.1 (subst (λ (b : Kept). IsComplete b.schedule b.history) (sym c.self.view_is) complete)).1,
    )

pub returns-else-not-self : goal.returns-else-not-self
returns-else-not-self c = (
  λ set. absurd (false≢true (subst (λ (b : Bool). not b ≡ true) c.if-not-self.false set)),
  λ complete. absurd (false≢true
      (sym (set_where_complete _ _ _ _ _ _ c.self.invariant.1 (subst (λ (b : Kept). IsComplete b.schedule b.history) (sym c.self.view_is) complete)).0
      ∙ c.if-not-self.false)),
)
