-- What the lines of a file of cases say.
use Rattle.std.specs.Prelude.{◌≡◌, ◌≢◌, false, None, Some, codes}
use Rattle.serde_json.specs.Data.{Data, member, no_members, number, object, unsigned}
use Rattle.serde_json.specs.Read.{read}
use Rattle.snb_input_lines.specs.Language.{Language}
use Rattle.snb_validation_cases.specs.declared.case.CaseAt.{CaseAt}
use Rattle.snb_validation_cases.specs.Cases.{SpellsCase, SpellsNone}

-- the object `{"cases":1}`
abbrev pub header_data : Data
header_data = object (member (codes "cases") (number (unsigned 1)) no_members)

-- the header is the object `{"cases":1}`, and each later line spells a case; a line that doesn't is
-- bad in column 0
abbrev pub case_language : Language (Unit {0}) CaseAt
case_language = record {
  begins = None;
  splits = false;
  heads = λ line known. read line ≡ Some header_data;
  bad_header = λ line column. (read line ≢ Some header_data) × (column ≡ 0);
  spells = λ known number line x. SpellsCase line x.case × (x.line ≡ number);
  bad_line = λ known line column. SpellsNone line × (column ≡ 0);
}
