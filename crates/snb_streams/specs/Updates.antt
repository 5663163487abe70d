-- Update streams, and how far a reader of one has come.
use Rattle.std.specs.Prelude.{◌≡◌, ◌⊎◌, ℕ, List, [], Some}
use Rattle.snb_schema.specs.declared.file.FileId.{FileId}
use Rattle.snb_schema.specs.declared.file.FileKind.{FileKind}
use Rattle.snb_schema.specs.declared.file.FileKind.TheVariants as files
use Rattle.snb_schema.specs.declared.op.InsertKind.{InsertKind}
use Rattle.snb_schema.specs.UpdateLines.{forum_inserts, person_inserts}
use Rattle.snb_input_lines.specs.Feeding.{Reader, at_begin}

-- the inserts of a kind of file; one that is no stream has none
abbrev pub allowed_in : FileKind → List InsertKind
allowed_in files.PersonStream = person_inserts
allowed_in files.ForumStream = forum_inserts
allowed_in (files.Table t) = []
allowed_in (files.Params q) = []
allowed_in files.Log = []
allowed_in files.Cases = []

-- the file is an update stream
abbrev pub IsStream : FileId → Type 0
IsStream file = (file.kind ≡ files.PersonStream) ⊎ (file.kind ≡ files.ForumStream)

-- what a contract sees of a reader of a stream: the reader of its lines, and the t of the last
-- line, or 0
pub record Followed : Type 0 where
  pub reader : Reader FileKind (Unit {0})
  pub last : ℕ

-- before the first byte of a stream
abbrev pub before_stream : FileId → Followed
before_stream file = record { reader = at_begin file file.kind (Some tt); last = 0 }
