-- Rows of the elements of an insert's lists.
use Rattle.std.proofs.Common.{◌≡◌, ◌∙◌, ◌++◌, ◌∷◌, [], ℕ, List, map, ap, append_assoc}
use Rattle.snb_schema.specs.declared.row.Row.{Row}
use Rattle.snb_schema.specs.declared.row.Row.TheVariants as row
use Rattle.snb_schema.specs.declared.table.Table.{Table}
use Rattle.snb_schema.specs.declared.table.Table.TheVariants as table
use Rattle.snb_schema.specs.Inserts.{addition_edges, addition_row}
use Rattle.snb_schema.specs.Nodes.{Addition}

-- an edge from a node to each of these
abbrev pub links : Table → ℕ → List ℕ → List Row
links t from ends = map (row.Link t from) ends

-- an edge with a year from a node to each of these
abbrev pub stays : Table → ℕ → List (ℕ × ℕ) → List Row
stays t from ends = map (λ to. row.Yeared t from to.0 to.1) ends

-- each of these words of a person
abbrev pub words : Table → ℕ → List (List ℕ) → List Row
words t person texts = map (row.Word t person) texts

-- the rows of what an insert adds
abbrev pub all_rows : Addition → List Row
all_rows a = addition_row a ∷ addition_edges a

-- the first of rows and then the others are appended: all of them are
pub put_all : (old mid new : List Row) (r : Row) (a : Addition) → r ≡ addition_row a → mid ≡ old ++ r ∷ [] → new ≡ mid ++ addition_edges a → new ≡ old ++ all_rows a
put_all old mid new r a first one more =
    more ∙ ap (λ (xs : List Row). xs ++ addition_edges a) (one ∙ ap (λ (x : Row). old ++ x ∷ []) first) ∙ append_assoc old (addition_row a ∷ []) (addition_edges a)

-- the edges and words of a person
abbrev pub edges : ℕ → ℕ → List (List ℕ) → List (List ℕ) → List ℕ → List (ℕ × ℕ) → List (ℕ × ℕ) → List Row
edges id city emails languages tags study work =
    row.Link table.PersonIsLocatedInPlace id city
    ∷ words table.PersonEmailEmailAddress id emails
    ++ words table.PersonSpeaksLanguage id languages
    ++ links table.PersonHasInterestTag id tags
    ++ stays table.PersonStudyAtOrganisation id study
    ++ stays table.PersonWorkAtOrganisation id work
