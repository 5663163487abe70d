use Rattle.std.proofs.Common.{◌≡◌, ℕ, List, Option, arith, inl, inr, refl, rules, subst}
use Rattle.snb_base.specs.Spellings.{SpellsId}
use Rattle.snb_schema.specs.declared.column.Column.TheVariants.{OptionalId}
use Rattle.snb_schema.specs.declared.op.InsertKind.TheVariants as kinds
use Rattle.snb_schema.specs.declared.op.Parent.{Parent}
use Rattle.snb_schema.specs.Columns.{Spells, no_id}
use Rattle.snb_schema.specs.UpdateLines.{IsFirstBad, field}
use Rattle.snb_input_fields.specs.Reading.{IsBadNext, optional_value, text_at}
use Rattle.snb_input_fields.proofs.Laws.{moved, spelled}
use Rattle.snb_streams.proofs.MakeFacts.{clash_here, next_bad, on_bad}
use Rattle.snb_streams.proofs.PlaceFacts.{same_field}
use Rattle.snb_streams.proofs.make.parent.Goals as goal

pub returns-in_err-comment-clause-bad : goal.returns-in_err-comment-clause-bad
returns-in_err-comment-clause-bad c =
    let fs = c.args.fields.now.fields in
    let e1 = moved c.in_ok-post.ensures.past c.requires in
    on_bad c.from_residual-in_err-comment.result (IsBadNext c.optional_id.new.self) (IsFirstBad kinds.AddComment fs) (next_bad kinds.AddComment fs 12 c.optional_id.new.self e1 (λ column clash. (let at = clash.0 in omega (arith, at)))) (search rules)

pub returns-in-Some-Some-clause-bad : goal.returns-in-Some-Some-clause-bad
returns-in-Some-Some-clause-bad c =
    let fs = c.args.fields.now.fields in
    let e1 = moved c.in_ok-post.ensures.past c.requires in
    let e2 = moved c.in_ok-comment.ensures.past e1 in
    let post : SpellsId (field 11 fs) c.in-Some-Some.field-0-0 = subst (λ (x : List ℕ). SpellsId x c.in-Some-Some.field-0-0) (same_field fs 11)
    (subst (λ (o : Option ℕ). Spells OptionalId (text_at fs 11) (optional_value o)) c.in-Some-Some.is-0 (spelled 11 OptionalId (optional_value c.in_ok-post.post) c.requires c.in_ok-post.ensures.ok)) in
    let comment : SpellsId (field 12 fs) c.in-Some-Some.field-0-1 = subst (λ (x : List ℕ). SpellsId x c.in-Some-Some.field-0-1) (same_field fs 12)
    (subst (λ (o : Option ℕ). Spells OptionalId (text_at fs 12) (optional_value o)) c.in-Some-Some.is-1 (spelled 12 OptionalId (optional_value c.in_ok-comment.comment) e1 c.in_ok-comment.ensures.ok)) in
    clash_here Parent kinds.AddComment fs c.clash.result c.optional_id-2.new.self 13 c.clash.ensures.column e2 (refl, inr (c.in-Some-Some.field-0-0, c.in-Some-Some.field-0-1, post, comment)) c.clash.ensures.first

pub returns-in-None-None-clause-bad : goal.returns-in-None-None-clause-bad
returns-in-None-None-clause-bad c =
    let fs = c.args.fields.now.fields in
    let e1 = moved c.in_ok-post.ensures.past c.requires in
    let e2 = moved c.in_ok-comment.ensures.past e1 in
    let post : field 11 fs ≡ no_id = subst (λ (x : List ℕ). x ≡ no_id) (same_field fs 11)
    (subst (λ (o : Option ℕ). Spells OptionalId (text_at fs 11) (optional_value o)) c.in-None-None.is-0 (spelled 11 OptionalId (optional_value c.in_ok-post.post) c.requires c.in_ok-post.ensures.ok)) in
    let comment : field 12 fs ≡ no_id = subst (λ (x : List ℕ). x ≡ no_id) (same_field fs 12)
    (subst (λ (o : Option ℕ). Spells OptionalId (text_at fs 12) (optional_value o)) c.in-None-None.is-1 (spelled 12 OptionalId (optional_value c.in_ok-comment.comment) e1 c.in_ok-comment.ensures.ok)) in
    clash_here Parent kinds.AddComment fs c.clash-in-None-None.result c.optional_id-2.new.self 13 c.clash-in-None-None.ensures.column e2 (refl, inl (post, comment)) c.clash-in-None-None.ensures.first
