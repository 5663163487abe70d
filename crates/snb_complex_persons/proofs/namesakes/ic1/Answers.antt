use Rattle.std.proofs.Common.{◌≡◌, ◌≤◌, ◌∷◌, [], ap, length, vec_len, arith, rules, subst}
use Rattle.std.proofs.lemmas.List.{length-map}
use Rattle.std.proofs.lemmas.List.Elements.{All-same}
use Rattle.std.proofs.lemmas.Result.{IfOk-weaker}
use Rattle.std.specs.List.{filter}
use Rattle.snb_read_model.specs.ComplexReads.{IsNamesake, is_named}
use Rattle.snb_read_model.specs.Order.{ReadAnswers, FirstRows, Rising}
use Rattle.snb_complex_persons.proofs.NamesakeLemmas.{near_is}
use Rattle.snb_complex_persons.proofs.NearFirst.{near_first}
use Rattle.snb_complex_persons.specs.Namesakes.{AreNamesakes, IsNearFound, namesake_of}
use Rattle.snb_complex_persons.proofs.namesakes.ic1.Goals as goal

pub first_namesakes-requires : goal.first_namesakes-requires
first_namesakes-requires c = record { sound = c.requires.sound; found = (c.in_ok-all.ensures c.args.person c.in_ok-met.ensures).are.each }

pub returns-then-count-len : goal.returns-then-count-len
returns-then-count-len c =
    let g = c.args.graph.now in
    let are = c.in_ok-all.ensures c.args.person c.in_ok-met.ensures in
    IfOk-weaker c.first_namesakes.result _ _ (λ a is. record {
      near = are.near;
      within = are.within;
      answers = subst (λ l. ReadAnswers l (IsNamesake g) (Rising 3 ∷ Rising 2 ∷ Rising 1 ∷ []) (FirstRows 20) a) are.are.same is;
    }) c.first_namesakes.ensures

pub named-requires : goal.named-requires
named-requires c =
    let g = c.args.graph.now in
    All-same (IsNearFound g) _ c.in_ok-near.near c.as_slice.ensures (near_is g c.args.person 2 (omega arith) c.in_ok-near.near (c.in_ok-near.ensures g c.args.person 2 c.in_ok-met.ensures))

pub returns-then-enough-len : goal.returns-then-enough-len
returns-then-enough-len c =
    let g = c.args.graph.now in
    let found = c.in_ok-found.found in
    let near = c.in_ok-near.near in
    let are = subst (λ l. AreNamesakes g l found.items) (ap (filter (is_named g c.args.first_name.now)) c.as_slice.ensures) c.in_ok-found.ensures in
    let same : vec_len found ≡ length found.items = search rules in
    let long = length-map found.items namesake_of in
    IfOk-weaker c.first_namesakes-then-enough-len.result _ _ (λ a is.
    near_first g c.known.ensures c.requires.sound c.sound_graphs.ensures.required c.first_is_some.ensures c.first_is_some-2.ensures c.first_is_some-3.ensures c.args.person c.args.first_name.now near a (c.in_ok-near.ensures g c.args.person 2 c.in_ok-met.ensures)
    (subst (λ l. 20 ≤ length l) are.same (omega (arith, c.if-enough-len.true, c.len.ensures, same, long)))
    (subst (λ l. ReadAnswers l (IsNamesake g) (Rising 3 ∷ Rising 2 ∷ Rising 1 ∷ []) (FirstRows 20) a) are.same is)) c.first_namesakes-then-enough-len.ensures

pub returns : goal.returns
returns c =
    let g = c.args.graph.now in
    let are = c.in_ok-found-2.ensures in
    IfOk-weaker c.first_namesakes-2.result _ _ (λ a is. record {
      near = are.near;
      within = are.within;
      answers = subst (λ l. ReadAnswers l (IsNamesake g) (Rising 3 ∷ Rising 2 ∷ Rising 1 ∷ []) (FirstRows 20) a) are.are.same is;
    }) c.first_namesakes-2.ensures
