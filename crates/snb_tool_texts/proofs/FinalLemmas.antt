-- Facts on the text of a graph.
use Rattle.std.proofs.Common.{◌≡◌, ◌+◌, ◌<◌, ◌≤◌, ℕ, List, [], ◌∷◌, ◌++◌, length, take, get_or, codes, sym, ap, ◌∙◌, append_assoc, append-nil, take_all}
use Rattle.std.specs.List.{flat_map}
use Rattle.std.proofs.lemmas.List.{flat_map_more, take_more}
use Rattle.snb_schema.specs.declared.row.Row.{Row}
use Rattle.snb_schema.specs.declared.table.Table.{Table}
use Rattle.snb_schema.specs.TableOrder.{all_tables}
use Rattle.snb_graph_model.specs.FinalText.{final_text, row_line, section}

-- one row's line more
pub row_more : (text now all : List ℕ) (old rest : List Row) (r : Row) → old ≡ r ∷ rest → text ++ flat_map row_line old ≡ all → now ≡ text ++ row_line r → now ++ flat_map row_line rest ≡ all
row_more text now all old rest r first before put =
    ap (λ (t : List ℕ). t ++ flat_map row_line rest) put ∙ append_assoc text (row_line r) (flat_map row_line rest)
    ∙ ap (λ (rs : List Row). text ++ flat_map row_line rs) (sym first) ∙ before

-- the lines of all rows
pub row_none : (text all : List ℕ) (old : List Row) → old ≡ [] → text ++ flat_map row_line old ≡ all → text ≡ all
row_none text all old none before = sym (append-nil text) ∙ ap (λ (rs : List Row). text ++ flat_map row_line rs) (sym none) ∙ before

-- one table's section more
pub section_more : (g : List Row) (ts : List Table) (i : ℕ) (d : Table) (head text now : List ℕ) → i < length ts → text ≡ head ++ flat_map (section g) (take i ts) → now ≡ text ++ section g (get_or ts i d)
    → now ≡ head ++ flat_map (section g) (take (i + 1) ts)
section_more g ts i d head text now lt before put =
    put ∙ ap (λ (t : List ℕ). t ++ section g (get_or ts i d)) before ∙ flat_map_more (section g) head (take i ts) (get_or ts i d)
    ∙ ap (λ (us : List Table). head ++ flat_map (section g) us) (sym (take_more ts i d lt))

-- the sections of all tables
pub section_all : (g : List Row) (ts : List Table) (i : ℕ) (text : List ℕ) → length ts ≤ i → text ≡ codes "final|1\n" ++ flat_map (section g) (take i ts) → ts ≡ all_tables → text ≡ final_text g
unfolding final_text
section_all g ts i text past before all =
    before ∙ ap (λ (us : List Table). codes "final|1\n" ++ flat_map (section g) us) (take_all i ts past) ∙ ap (λ (us : List Table). codes "final|1\n" ++ flat_map (section g) us) all
