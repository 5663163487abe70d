-- Which of the targets a pick takes.
use Rattle.std.specs.Prelude.{ℕ, ◌-◌, ◌%◌}
use Rattle.snb_walk.specs.declared.target.Pick.{Pick}
use Rattle.snb_walk.specs.declared.target.Pick.TheVariants.{Modulo, Last}

-- the index that a pick takes of so many targets by a word, from 0
abbrev pub index_of : Pick → ℕ → ℕ → ℕ
index_of Modulo count word = word % count
index_of Last count word = count - 1
