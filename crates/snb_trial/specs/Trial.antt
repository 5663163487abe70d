-- The input of a formula workload: a dataset of ten rows, and seven updates for each i from 1 to n.
use Rattle.std.specs.Prelude.{ℕ, ◌+◌, ◌*◌, ◌/◌, ◌%◌, ◌==◌, List, [], ◌∷◌, if◌then◌else◌, map, codes}
use Rattle.std.specs.List.{enumerate_from, flat_map, range_with_len}
use Rattle.snb_schema.specs.declared.limits.TheConstants.{MAX_TIME}
use Rattle.snb_schema.specs.declared.op.Line.{Line}
use Rattle.snb_schema.specs.declared.op.Op.{Op}
use Rattle.snb_schema.specs.declared.op.Op.TheVariants.{AddPerson, LikePost, AddMember, AddPost, AddComment, AddFriend}
use Rattle.snb_schema.specs.declared.op.Parent.TheVariants as parents
use Rattle.snb_schema.specs.declared.query.Query.{Query}
use Rattle.snb_schema.specs.declared.query.Query.TheVariants.{Ic2, Ic13}
use Rattle.snb_schema.specs.declared.query.TheConstants.{COMPLEX_COUNT}
use Rattle.snb_schema.specs.declared.row.Row.{Row}
use Rattle.snb_schema.specs.declared.row.Row.TheVariants as row
use Rattle.snb_schema.specs.declared.table.Table.TheVariants as table
use Rattle.snb_schema.specs.Frequencies.{FrequencyTable}
use Rattle.snb_schema.specs.LineLanes.{LineLanes}
use Rattle.snb_schema.specs.Nodes.{NewForum, adding, forum_named}
use Rattle.snb_schema.specs.Queries.{complex_queries}
use Rattle.snb_schema.specs.QueryPlaces.{values_of}
use Rattle.snb_schema.specs.QueryLists.{QueryLists}

-- ---- the dataset

-- person 0
abbrev pub first_person : Row
first_person = row.Person (record {
  id = 0;
  first_name = codes "F";
  last_name = codes "L";
  gender = codes "g";
  birthday = 0;
  creation_date = 0;
  location_ip = codes "0.0.0.0";
  browser_used = codes "b";
})

-- its ten rows, in the order of a graph
abbrev pub dataset : List Row
dataset =
    row.Place (record { id = 0; name = codes "a"; url = codes "u"; kind = codes "city" })
    ∷ row.Place (record { id = 1; name = codes "b"; url = codes "u"; kind = codes "country" })
    ∷ row.TagClass (record { id = 0; name = codes "x"; url = codes "u" })
    ∷ row.Tag (record { id = 0; name = codes "x"; url = codes "u" })
    ∷ row.Organisation
    (record { id = 0; kind = codes "company"; name = codes "o"; url = codes "u" })
    ∷ first_person
    ∷ row.Link table.PlaceIsPartOfPlace 0 1
    ∷ row.Link table.TagHasTypeTagClass 0 0
    ∷ row.Link table.OrganisationIsLocatedInPlace 0 1
    ∷ row.Link table.PersonIsLocatedInPlace 0 0
    ∷ []

-- ---- the updates of an i

-- an update: its two times, and what it inserts
pub record TrialInsert : Type 0 where
  pub t : ℕ
  pub t_d : ℕ
  pub op : Op

-- half of i, rounded down
abbrev pub half : ℕ → ℕ
half i = i / 2

-- an update so many milliseconds after 1000 i, where t_d is; its date is its t
abbrev pub after : ℕ → ℕ → (ℕ → Op) → TrialInsert
after i later op = record { t = 1000 * i + later; t_d = 1000 * i; op = op (1000 * i + later) }

-- person i, of city 0, with the texts of person 0
abbrev pub person : ℕ → TrialInsert
person i = record {
  t = 1000 * i;
  t_d = 0;
  op = AddPerson i (codes "F") (codes "L") (codes "g") 0 (1000 * i) (codes "0.0.0.0") (codes "b")
      0 [] [] [] [] [];
}

-- the friendship of i and its half
abbrev pub friendship : ℕ → TrialInsert
friendship i = after i 500 (AddFriend i (half i))

-- forum i, whose moderator is i
abbrev pub forum : ℕ → TrialInsert
forum i = after i 600 (λ t. adding (NewForum (forum_named i (codes "T") t) i []))

-- the membership of the half in forum i
abbrev pub membership : ℕ → TrialInsert
membership i = after i 700 (AddMember (half i) i)

-- post 2i by i in forum i, of country 1
abbrev pub post : ℕ → TrialInsert
post i = after i 800
    (λ t. AddPost (2 * i) [] t (codes "0.0.0.0") (codes "b") (codes "l") (codes "c") 1 i i 1 [])

-- comment 2i + 1 by the half on post 2i, of country 1
abbrev pub comment : ℕ → TrialInsert
comment i =
    after i 900
    (λ t. AddComment (2 * i + 1) t (codes "0.0.0.0") (codes "b") (codes "c") 1 (half i) 1
    (parents.Post (2 * i)) [])

-- the like of post 2i by the half
abbrev pub like : ℕ → TrialInsert
like i = after i 950 (LikePost (half i) (2 * i))

-- ---- lanes

-- what a lane of persons has of an i: person i in lane i mod 2, and the friendship in the other
abbrev pub person_lane : ℕ → ℕ → List TrialInsert
person_lane lane i = (if i % 2 == lane then person i else friendship i) ∷ []

-- what a forum lane has of an i: all else in lane i mod 3
abbrev pub forum_lane : ℕ → ℕ → List TrialInsert
forum_lane lane i =
    if i % 3 == lane then forum i ∷ membership i ∷ post i ∷ comment i ∷ like i ∷ [] else []

-- an update as the line of this number
abbrev pub trial_line : ℕ × TrialInsert → Line
trial_line numbered =
    record { t = numbered.1.t; t_d = numbered.1.t_d; op = numbered.1.op; number = numbered.0 }

-- updates as lines with numbers that rise by one from the first
abbrev pub lines_from : ℕ → List TrialInsert → List Line
lines_from first entries = map trial_line (enumerate_from first entries)

-- the lines of a lane that has these updates of each i from 1 to n, numbered from 1
abbrev pub lane : (ℕ → List TrialInsert) → ℕ → List Line
lane of n = lines_from 1 (flat_map of (range_with_len 1 n))

-- two lanes of persons, and three forum lanes
abbrev pub lanes : ℕ → LineLanes
lanes n = record {
  persons = lane (person_lane 0) n ∷ lane (person_lane 1) n ∷ [];
  forums = lane (forum_lane 0) n ∷ lane (forum_lane 1) n ∷ lane (forum_lane 2) n ∷ [];
}

-- ---- parameters

-- query 2 is asked of person 0 up to the last moment, query 13 of persons 0 and n
abbrev pub trial_parameters : ℕ → ℕ → List Query
trial_parameters n q =
    if q == 2 then Ic2 0 MAX_TIME ∷ [] else if q == 13 then Ic13 0 n ∷ [] else []

-- the list of each query
abbrev pub lists : ℕ → QueryLists
lists n = values_of COMPLEX_COUNT (map (trial_parameters n) complex_queries) []

-- ---- the plan

-- a read of query 2 goes with every tenth update, and one of query 13 with every seventh
abbrev pub trial_frequency : ℕ → ℕ
trial_frequency q = if q == 2 then 10 else if q == 13 then 7 else 0

-- the frequency of each query
abbrev pub read_frequencies : FrequencyTable
read_frequencies = values_of COMPLEX_COUNT (map trial_frequency complex_queries) 0

-- the ratio, in millionths: the least
abbrev pub least_ratio : ℕ
least_ratio = 1
