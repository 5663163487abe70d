-- A graph's rows in parts.
use Rattle.std.specs.Prelude.{◌≡◌, ℕ, suc, List, [], ◌∷◌, ◌++◌, Contains, IsPermutation, OnErr, OnOk, Result}
use Rattle.snb_graph_maps.specs.declared.layer.Layer.{Layer}
use Rattle.snb_graph_maps.specs.declared.layer.Layer.TheVariants as layers
use Rattle.snb_schema.specs.declared.row.Row.{Row}
use Rattle.snb_graph_tables.specs.declared.tables.Tables.TheInside.{Inside}
use Rattle.snb_graph_model.specs.Graphs.{HasGained, IsGraph}
use Rattle.snb_graph_rows.specs.Keyed.{IsPart}
use Rattle.snb_graph_rows.specs.Rows.{Stock}

-- lists, one after another
abbrev pub joined : List (List Row) → List Row
joined [] = []
joined (s ∷ ss) = s ++ joined ss

-- the lists are the parts from this number on
abbrev pub AreParts : ℕ → List (List Row) → Type 0
AreParts n [] = Unit {0}
AreParts n (s ∷ ss) = IsPart n s × AreParts (suc n) ss

-- the lists are the parts of a graph
pub record IsWhole (ss : List (List Row)) : Type 0 where
  pub parts : AreParts 0 ss
  pub graph : IsGraph (joined ss)

-- the parts that a graph keeps
abbrev pub parts : Inside → List (List Row)
parts g =
    g.places.rows ∷ g.tag_classes.rows ∷ g.tags.rows ∷ g.organisations.rows ∷ g.persons.rows
    ∷ g.forums.rows ∷ g.posts.rows ∷ g.comments.rows ∷ g.edges.rows ∷ g.words.rows ∷ []

-- and what copies share of each
abbrev pub frozen_parts : Inside → List (List Row)
frozen_parts g =
    g.places.frozen ∷ g.tag_classes.frozen ∷ g.tags.frozen ∷ g.organisations.frozen
    ∷ g.persons.frozen ∷ g.forums.frozen ∷ g.posts.frozen ∷ g.comments.frozen ∷ g.edges.frozen
    ∷ g.words.frozen ∷ []

-- a row was taken out of a graph, and what is left is a graph
pub record HasGivenBack (old : List Row) (r : Row) (new : List Row) : Type 0 where
  pub graph : IsGraph new
  pub rows : IsPermutation old (new ++ r ∷ [])

-- a row was added, which is frozen only if it went into that half, or all is as it was; what was
-- frozen is
pub record HasPut {E : Type 0} (half : Layer) (old : Stock) (r : Row) (result : Result (Unit {0}) E)
    (new : Stock) : Type 0 where
  pub ok : OnOk result (HasGained old.rows (r ∷ []) new.rows)
  pub err : OnErr result (new ≡ old)
  pub frozen : half ≡ layers.Added → new.frozen ≡ old.frozen
  pub more : (x : Row) → Contains old.frozen x → Contains new.frozen x
