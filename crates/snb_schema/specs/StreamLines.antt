-- The lines of the update streams, as a plan takes them.
use Rattle.std.specs.Prelude.{◌≤◌, ℕ, List, All, AllPairs, Contains}
use Rattle.snb_schema.specs.declared.op.Line.{Line}
use Rattle.snb_schema.specs.declared.op.InsertKind.{InsertKind}
use Rattle.snb_schema.specs.LineLanes.{LineLanes}
use Rattle.snb_schema.specs.UpdateLines.{IsLine, forum_inserts, person_inserts}
use Rattle.snb_schema.specs.InsertLines.{kind_of}

-- some text is the line
abbrev pub IsOfLine : Line → Type 0
IsOfLine x = (text : List ℕ) × IsLine text x.t x.t_d x.op

-- each line is one of these inserts
abbrev pub AreInserts : List InsertKind → List Line → Type 0
AreInserts kinds lines = All (λ x. Contains kinds (kind_of x.op)) lines

-- t never falls
abbrev pub NeverFalls : List Line → Type 0
NeverFalls lines = AllPairs (λ x y. x.t ≤ y.t) lines

-- the lines of a stream that has these inserts: some text has each, each is one of the inserts, and
-- t never falls
pub record AreOfStream (kinds : List InsertKind) (lines : List Line) : Type 0 where
  pub of_lines : All IsOfLine lines
  pub of_kinds : AreInserts kinds lines
  pub rises : NeverFalls lines

-- each lane of persons is of a stream with the inserts 1 and 8, and each forum lane of one with the
-- inserts 2 to 7
pub record AreOfStreams (lanes : LineLanes) : Type 0 where
  pub persons : All (AreOfStream person_inserts) lanes.persons
  pub forums : All (AreOfStream forum_inserts) lanes.forums
