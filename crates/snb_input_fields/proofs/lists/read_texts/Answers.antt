use Rattle.std.proofs.Common.{◌≡◌, ◌||◌, ◌∙◌, List, ℕ, ap, map, refl, subst, sym}
use Rattle.std.specs.List.{list_any}
use Rattle.std.specs.Str.{bytes_eq}
use Rattle.snb_base.specs.Spellings.{SpellsWord}
use Rattle.snb_columns.proofs.Laws.{element_text, no_word, read_all, read_fails, read_new, read_repeat, same_parts, tested_some}
use Rattle.snb_input_fields.proofs.SeenFacts.{not_false, not_true, one_text, seen_again, seen_new}
use Rattle.snb_input_fields.proofs.lists.read_texts.Goals as goal
use Rattle.snb_input_fields.proofs.lists.read_texts.Goals.{then-new+in_ok-text_of+in_ok-push, else-new}

pub returns-then-is_empty : goal.returns-then-is_empty
returns-then-is_empty c = read_fails SpellsWord bytes_eq c.deref-part-items.result.now c.loop-part.part-index _ c.args.field.now c.loop-part-test.true (same_parts c.deref-part-items.result.now c.in_ok-parts.parts.items c.args.field.now c.deref-part-items.ensures.value c.in_ok-parts.ensures) (no_word _ c.is_empty.result c.is_empty.ensures c.if-is_empty.true)

pub text_of-requires : goal.text_of-requires
text_of-requires c = element_text c.deref-part-items.result.now c.loop-part.part-index _ c.args.field.now c.loop-part-test.true (same_parts c.deref-part-items.result.now c.in_ok-parts.parts.items c.args.field.now c.deref-part-items.ensures.value c.in_ok-parts.ensures) c.requires

pub loop-part-preserved : goal.loop-part-preserved
loop-part-preserved c =
    let some = tested_some _ c.is_empty.result c.is_empty.ensures c.if-is_empty.false in
    let before = c.loop-part.invariant.same in
    let notes = c.in_ok-new.ensures.seen in
    elim c.if-new.branch [
      | then-new+in_ok-text_of+in_ok-push w ↦ (
          let same = w.in_ok-text_of.ensures in
          let is = w.texts-is ∙ w.in_ok-push.ensures.ok in
          let none = sym (before _) ∙ not_true _ (sym w.if-new.true ∙ c.in_ok-new.ensures.new) in
          record {
            read = read_new SpellsWord bytes_eq c.deref-part-items.result.now c.loop-part.part-index _ c.loop-part.texts c.if-new.texts w.in_ok-text_of.field-0 c.loop-part-test.true c.loop-part.invariant.read (some, sym same) (ap (λ (word : List ℕ). list_any (bytes_eq word) c.loop-part.texts) same ∙ none) is;
            same = seen_new bytes_eq one_text c.loop-part.texts (map (λ x. x.now) c.loop-part.seen.keys) (map (λ x. x.now) c.note_text.new.seen.keys) c.if-new.texts w.in_ok-text_of.field-0 before (λ q. subst (λ (word : List ℕ). list_any (bytes_eq q) (map (λ x. x.now) c.note_text.new.seen.keys) ≡ (bytes_eq q word || list_any (bytes_eq q) (map (λ x. x.now) c.loop-part.seen.keys))) (sym same) (notes q)) is;
          })
      | else-new w ↦ (
          let there = sym (before _) ∙ not_false _ (sym w.if-new.false ∙ c.in_ok-new.ensures.new) in
          record {
            read = read_repeat SpellsWord bytes_eq c.deref-part-items.result.now c.loop-part.part-index _ c.loop-part.texts c.if-new.texts _ c.loop-part-test.true c.loop-part.invariant.read (some, refl) there w.texts-is;
            same = seen_again bytes_eq one_text c.loop-part.texts (map (λ x. x.now) c.loop-part.seen.keys) (map (λ x. x.now) c.note_text.new.seen.keys) c.if-new.texts _ before notes there w.texts-is;
          })
    ]

pub returns : goal.returns
returns c = read_all SpellsWord bytes_eq c.deref-part-items.result.now c.loop-part.part-index c.args.field.now c.loop-part.texts c.loop-part-test.false (same_parts c.deref-part-items.result.now c.in_ok-parts.parts.items c.args.field.now c.deref-part-items.ensures.value c.in_ok-parts.ensures) c.loop-part.invariant.read
