use Rattle.std.proofs.Common.{◌≡◌, inl, inr, false}
use Rattle.std.proofs.lemmas.Bool.{cases_Bool}
use Rattle.csv.specs.Reading.{has_failed}
use Rattle.csv.specs.Records.{fields_of}
use Rattle.csv.specs.declared.parser.State.TheVariants as st
use Rattle.snb_input_lines.proofs.BarFacts.{stands-after, takes}
use Rattle.snb_input_lines.proofs.split.take_fields.Goals as goal

pub returns-in-Ok-true-clause-ok : goal.returns-in-Ok-true-clause-ok
returns-in-Ok-true-clause-ok c text rest fs may e =
    let old = c.args.reader.now in
    let new = c.read_byte_record.new.self in
    let got = fields_of c.read_byte_record.new.row in
    let fresh : has_failed old ≡ false = elim (cases_Bool (has_failed old)) [
      | inl failed ↦
          let none = c.read_byte_record.ensures.failed failed in
          cc (none, c.in-Ok-true.is, c.in-Ok-true.field-0-test)
      | inr fine ↦ fine
    ] in
    let h = may fresh in
    let r = c.in-Ok-true.ensures.reads h.plain h.ready in
    let n = takes old new text (fs, st.StartRecord, rest) c.in-Ok-true.field-0 got h e r in
    (n.1, stands-after old new text rest fs c.in-Ok-true.field-0 got h e r c.in-Ok-true.ensures.flexible (inl (c.in-Ok-true.ensures.ready h.plain)))
