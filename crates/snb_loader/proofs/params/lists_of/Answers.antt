use Rattle.std.proofs.Common.{rules, arith, ◌≡◌, ◌∙◌, ◌<◌, ℕ, [], map, List, Global, Vec, ap, subst}
use Rattle.snb_schema.specs.declared.query.Query.{Query}
use Rattle.snb_schema.specs.declared.query.TheConstants.{COMPLEX_COUNT}
use Rattle.snb_schema.specs.QueryLists.{list_of}
use Rattle.snb_loader.specs.Params.{asked}
use Rattle.snb_loader.proofs.ParamListFacts.{AreSoFar, asked_filled, held_in, held_out, list_left, next_kind, others_empty, so_far_first, so_far_last}
use Rattle.snb_loader.proofs.params.lists_of.Goals.{then-of-gt0+in-Some+in_ok-add_list-in-Some, else-of-gt0}
use Rattle.snb_loader.proofs.params.lists_of.Goals as goal
use Rattle.std.proofs.lemmas.List.{nil_from_length}

pub loop-query-init : goal.loop-query-init
loop-query-init c = subst (λ (xss : List (List Query)). AreSoFar c.args.frequencies.now c.args.file_sink.done 0 (λ q. list_of c.new-lists.result q) xss) (search rules) (so_far_first c.args.frequencies.now c.args.file_sink.done (λ q. list_of c.new-lists.result q) c.new-lists.ensures c.requires.kinds)

pub add_list-requires-clause-kind : goal.add_list-requires-clause-kind
add_list-requires-clause-kind c =
    next_kind c.args.frequencies.now c.args.file_sink.done c.loop-query.query-index c.loop-query-test.true (subst (λ (n : ℕ). 0 < n) c.of.ensures.value c.if-of-gt0.true) (λ q. list_of c.loop-query.lists q) (map (λ v. v.items) c.loop-query.left.rest.items) c.loop-query.invariant
    c.in-Some.list.items (map (λ v. v.items) c.next.new.self.rest.items) (ap (λ (vs : List (Vec Query Global)). map (λ v. v.items) vs) c.in-Some.ensures.items)

pub unreachable-requires : goal.unreachable-requires
unreachable-requires c =
    let none : c.loop-query.left.rest.items ≡ [] = nil_from_length c.loop-query.left.rest.items (search rules) in
    list_left c.args.frequencies.now c.args.file_sink.done c.loop-query.query-index c.loop-query-test.true (subst (λ (n : ℕ). 0 < n) c.of.ensures.value c.if-of-gt0.true) (λ q. list_of c.loop-query.lists q) (map (λ v. v.items) c.loop-query.left.rest.items) c.loop-query.invariant
    (ap (λ (vs : List (Vec Query Global)). map (λ v. v.items) vs) none)

pub loop-query-preserved : goal.loop-query-preserved
loop-query-preserved c = elim c.if-of-gt0.branch [
  | then-of-gt0+in-Some+in_ok-add_list-in-Some w ↦ held_in c.args.frequencies.now c.args.file_sink.done c.loop-query.query-index c.loop-query-test.true (subst (λ (n : ℕ). 0 < n) c.of.ensures.value w.if-of-gt0.true) c.loop-query.lists c.if-of-gt0.lists c.loop-query.left.rest.items c.if-of-gt0.left.rest.items w.in-Some.list c.loop-query.invariant (search rules) (search rules) (search rules)
  | else-of-gt0 w ↦ held_out c.args.frequencies.now c.args.file_sink.done c.loop-query.query-index c.loop-query-test.true (let e = c.of.ensures.value in let n = w.if-of-gt0.false in omega (arith, e, n)) c.loop-query.lists c.if-of-gt0.lists c.loop-query.left.rest.items c.if-of-gt0.left.rest.items c.loop-query.invariant (search rules) (search rules)
]

pub returns-clause-lists : goal.returns-clause-lists
returns-clause-lists c =
    let last : c.loop-query.query-index ≡ COMPLEX_COUNT = search rules in
    let same = so_far_last c.args.frequencies.now c.args.file_sink.done (λ q. list_of c.loop-query.lists q) (map (λ v. v.items) c.loop-query.left.rest.items) (subst (λ (n : ℕ). AreSoFar c.args.frequencies.now c.args.file_sink.done n (λ q. list_of c.loop-query.lists q) (map (λ v. v.items) c.loop-query.left.rest.items)) last c.loop-query.invariant) in
    ap (λ (f : ℕ → List Query). map f (asked c.args.frequencies.now)) same ∙ asked_filled c.args.frequencies.now c.args.file_sink.done c.requires.kinds

pub returns-clause-others : goal.returns-clause-others
returns-clause-others c q e =
    let last : c.loop-query.query-index ≡ COMPLEX_COUNT = search rules in
    let same = so_far_last c.args.frequencies.now c.args.file_sink.done (λ q. list_of c.loop-query.lists q) (map (λ v. v.items) c.loop-query.left.rest.items) (subst (λ (n : ℕ). AreSoFar c.args.frequencies.now c.args.file_sink.done n (λ q. list_of c.loop-query.lists q) (map (λ v. v.items) c.loop-query.left.rest.items)) last c.loop-query.invariant) in
    ap (λ (f : ℕ → List Query). f q) same ∙ others_empty c.args.frequencies.now c.args.file_sink.done q e
