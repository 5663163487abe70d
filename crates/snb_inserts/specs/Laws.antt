-- Laws of inserts.
use Rattle.std.specs.Prelude.{List, All}
use Rattle.snb_schema.specs.declared.op.Op.{Op}
use Rattle.snb_schema.specs.declared.row.Row.{Row}
use Rattle.snb_schema.specs.TableRows.{IsTableRow}
use Rattle.snb_graph.specs.Additions.{AreNew, IsFirstAlone}
use Rattle.snb_graph_model.specs.Graphs.{HasGained, IsGraph}
use Rattle.snb_schema.specs.Inserts.{rows_of}
use Rattle.snb_graph_model.specs.Soundness.{HoldsRefs, Sound}
use Rattle.snb_inserts.specs.Applying.{HasLine, IsWelcome}

-- the rows of an insert that has a line are rows that their tables can have
abbrev pub RowsFit : Type 0
RowsFit = (op : Op) → HasLine op → All IsTableRow (rows_of op)

-- where an insert that has a line is welcome, no slot of its rows is filled, and no two of them
-- have one slot
abbrev pub RowsAreNew : Type 0
RowsAreNew =
    (g : List Row) (op : Op) → IsGraph g → HoldsRefs g → HasLine op → IsWelcome g op
    → AreNew g (rows_of op)

-- where an insert is welcome in a graph whose references are held, no edge leads from a message
-- that it adds
abbrev pub MessagesAreAlone : Type 0
MessagesAreAlone =
    (g : List Row) (op : Op) → HoldsRefs g → IsWelcome g op → IsFirstAlone g (rows_of op)

-- a graph whose references are held keeps them so with the rows of an insert that is welcome
abbrev pub HeldIsKept : Type 0
HeldIsKept =
    (g now : List Row) (op : Op) → HoldsRefs g → IsWelcome g op → HasGained g (rows_of op) now
    → HoldsRefs now

-- and a sound graph stays sound
abbrev pub SoundIsKept : Type 0
SoundIsKept =
    (g now : List Row) (op : Op) → Sound g → IsWelcome g op → HasGained g (rows_of op) now
    → Sound now
