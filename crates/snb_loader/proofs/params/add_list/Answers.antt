use Rattle.std.proofs.Common.{rules, ◌≡◌, ◌∙◌, ◌∷◌, ◌++◌, [], List, ap, sym, subst, append_assoc}
use Rattle.std.proofs.lemmas.List.Elements.{All-tail}
use Rattle.snb_schema.specs.declared.query.Query.{Query}
use Rattle.snb_schema.specs.Queries.{number_of_query}
use Rattle.snb_schema.specs.QueryLists.{AreOf, list_of}
use Rattle.snb_loader.proofs.params.add_list.Goals as goal

pub loop-one-preserved : goal.loop-one-preserved
loop-one-preserved c =
    let e : c.loop-one.one-iterator.rest.items ≡ c.in-Some.one ∷ c.next.new.self.rest.items = search rules in (
      ap (λ (xs : List Query). xs ++ c.next.new.self.rest.items) c.in_ok-push.ensures.appended ∙ append_assoc (list_of c.loop-one.lists c.args.query) (c.in-Some.one ∷ []) c.next.new.self.rest.items
          ∙ ap (λ (xs : List Query). list_of c.loop-one.lists c.args.query ++ xs) (sym e) ∙ c.loop-one.invariant.0,
      All-tail (λ one. number_of_query one ≡ c.args.query) c.in-Some.one c.next.new.self.rest.items (subst (λ (xs : List Query). AreOf c.args.query xs) e c.loop-one.invariant.1),
      search rules,
    )
