-- The answers of a run.
use Rattle.std.specs.Prelude.{ℕ, List, ◌++◌, codes, flat_map, Vec}
use Rattle.std.specs.Fmt.{decimal}
use Rattle.std.specs.declared.alloc.Global.{Global}
use Rattle.snb_answered.specs.declared.done.Answered.{Answered}

-- the line of a reply: the number of the operation, its front, and the JSON text of the reply
abbrev pub answer_line : Answered → List ℕ
answer_line a = decimal a.op ++ codes "|" ++ decimal a.front ++ codes "|" ++ a.text ++ codes "\n"

-- the answers: a first line with their version, and a line for each reply
abbrev pub answers_text : List Answered → List ℕ
answers_text replies = codes "answers|1\n" ++ flat_map answer_line replies

-- the bytes of pieces that follow one another
abbrev pub bytes_in : List (Vec ℕ Global) → List ℕ
bytes_in pieces = flat_map (λ p. p.items) pieces
