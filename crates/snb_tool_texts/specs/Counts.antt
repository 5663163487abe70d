-- What `check` shows.
use Rattle.std.specs.Prelude.{ℕ, List, ◌++◌, codes}
use Rattle.std.specs.Fmt.{decimal}

-- how many rows a dataset has, how many updates and reads a plan has, and that it is closed over
-- the dataset
abbrev pub check_text : ℕ → ℕ → ℕ → List ℕ
check_text rows updates reads =
    codes "rows " ++ decimal rows ++ codes "\nupdates " ++ decimal updates ++ codes "\nreads "
    ++ decimal reads ++ codes "\nclosed\n"
