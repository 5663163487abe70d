use Rattle.snb_read_same.proofs.SameFacts.{items_equal}
use Rattle.snb_read_same.proofs.same.CellCowTextSameCellText.same.Goals as goal

pub returns-in-List-other : goal.returns-in-List-other
returns-in-List-other c =
    let equal = items_equal c.in-List.texts c.in-List-other.other in (
      λ told. (let e = equal.0 (c.same-in-List-other.ensures.0 told) in cc),
      λ e. c.same-in-List-other.ensures.1 (equal.1 (cc)),
    )

pub returns-in-Stays-other : goal.returns-in-Stays-other
returns-in-Stays-other c =
    let equal = items_equal c.in-Stays.stays c.in-Stays-other.other in (
      λ told. (let e = equal.0 (c.same-in-Stays-other.ensures.0 told) in cc),
      λ e. c.same-in-Stays-other.ensures.1 (equal.1 (cc)),
    )
