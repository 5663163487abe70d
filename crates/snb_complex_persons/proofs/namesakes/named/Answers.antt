use Rattle.std.proofs.Common.{◌≡◌, ℕ, ◌+◌, List, ap, get_or, take, sym, subst, ◌∙◌}
use Rattle.std.proofs.lemmas.List.Elements.{All-get_or}
use Rattle.std.specs.List.{filter}
use Rattle.std.specs.Str.{bytes_eq}
use Rattle.snb_read_model.specs.ComplexReads.{is_named}
use Rattle.snb_read_model.specs.Distance.{IsPerson}
use Rattle.snb_read_lookups.specs.Lookups.{IsOnlyPerson}
use Rattle.snb_complex_persons.proofs.NamesakeLemmas.{named_all, named_is, named_next, named_over}
use Rattle.snb_complex_persons.specs.Namesakes.{AreNamesakes, IsNearFound}
use Rattle.snb_complex_persons.proofs.namesakes.named.Goals as goal
use Rattle.snb_complex_persons.proofs.namesakes.named.Goals.{then-eq+in_ok-push, else-eq}

pub known-person-requires : goal.known-person-requires
known-person-requires c = record { held = (All-get_or (IsNearFound c.args.graph.now) c.args.near.now c.loop-one.one-index (0, 0) c.loop-one-test.true c.requires).held }

pub loop-one-preserved : goal.loop-one-preserved
loop-one-preserved c =
    let g = c.args.graph.now in
    let name = c.args.first_name.now in
    let near = c.args.near.now in
    let i = c.loop-one.one-index in
    let p = c.known-person.result.now in
    let test : is_named g name (get_or near i (0, 0)) ≡ c.eq.result = named_is g name (get_or near i (0, 0)) p c.known-person.ensures.only ∙ ap (λ (text : List ℕ). bytes_eq text name) (sym c.as_str.ensures) ∙ sym c.eq.ensures in
    elim c.if-eq.branch [
      | then-eq+in_ok-push w ↦ (let found = All-get_or (IsNearFound g) near i (0, 0) c.loop-one-test.true c.requires in
          subst (λ v. AreNamesakes g (filter (is_named g name) (take (i + 1) near)) v.items) (sym w.found-is)
          (named_next g name near i (0, 0) c.loop-one.found.items c.loop-one-test.true _ _ (test ∙ w.if-eq.true) w.in_ok-push.ensures.items (λ j. (c.known-person.ensures.named j, (get_or near i (0, 0)).1)) (record {
            held = subst (IsPerson g) (sym c.known-person.ensures.named) found.held;
            person = subst (λ id. IsOnlyPerson g id p) (sym c.known-person.ensures.named) c.known-person.ensures;
            fits = found.fits;
          }) c.loop-one.invariant))
      | else-eq w ↦ subst (λ v. AreNamesakes g (filter (is_named g name) (take (i + 1) near)) v.items) (sym w.found-is)
          (named_over g name near i (0, 0) c.loop-one.found.items c.loop-one-test.true (test ∙ w.if-eq.false) c.loop-one.invariant)
    ]

pub returns : goal.returns
returns c = named_all c.args.graph.now c.args.first_name.now c.args.near.now c.loop-one.one-index _ c.loop-one-test.false c.loop-one.invariant
