-- The line of the header is read, is a text and ends no line.
use Rattle.std.proofs.Common.{◌≡◌, ◌≢◌, ◌<◌, ◌≤◌, ℕ, List, All, IsUtf8, Some, arith, codes, refl}
use Rattle.std.proofs.lemmas.List.Elements.{All-from_recursion, All-weaker}
use Rattle.std.proofs.lemmas.Str.{IsUtf8-from_ascii}
use Rattle.std.proofs.lemmas.Str.Ascii.{IsAscii-from_all}
use Rattle.serde_json.specs.Read.{read}
use Rattle.serde_json.proofs.OnLiterals.{serde_json_on_literals}
use Rattle.snb_schema.specs.Lines.{HasNoEnd}
use Rattle.snb_validation_cases.specs.CaseFile.{header_data}

-- the header's line
abbrev pub header : List ℕ
header = codes "{\"cases\":1}"

-- the object is read from it
pub header_read : read header ≡ Some header_data
unfolding serde_json_on_literals
header_read = refl

-- a byte that is shown as ASCII, and no space
abbrev IsShown : ℕ → Type 0
IsShown b = (33 ≤ b) × (b < 127)

header_shown : All IsShown header
header_shown =
    All-from_recursion IsShown header
    ((omega arith, omega arith), ((omega arith, omega arith), ((omega arith, omega arith), ((omega arith, omega arith), ((omega arith, omega arith), ((omega arith, omega arith), ((omega arith, omega arith), ((omega arith, omega arith), ((omega arith, omega arith), ((omega arith, omega arith), ((omega arith, omega arith), tt)))))))))))

-- so it is UTF-8, and no byte of it ends a line
pub header_utf8 : IsUtf8 header
header_utf8 = IsUtf8-from_ascii header (IsAscii-from_all header (All-weaker IsShown (λ b. b < 128) (λ b h. omega (arith, h)) header header_shown))

pub header_one_line : HasNoEnd header
header_one_line = All-weaker IsShown (λ b. b ≢ 10) (λ b h. omega (arith, h)) header header_shown
