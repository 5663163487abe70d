-- The replies to a message, as a walk finds them.
use Rattle.std.proofs.Common.{◌≡◌, ℕ, List, [], ◌∷◌, refl, sym, ap, ◌∙◌, subst, inl, inr, arith, ◌++◌, map, append_assoc}
use Rattle.std.proofs.lemmas.List.Elements.{All-push, Contains-append_right}
use Rattle.std.proofs.lemmas.List.Sorted.{Contains-permutation, IsPermutation-sym}
use Rattle.std.specs.List.{Contains, All}
use Rattle.snb_schema.specs.declared.column.Value.TheVariants.{NoId}
use Rattle.snb_schema.specs.declared.nodes.Comment.{Comment}
use Rattle.snb_schema.specs.declared.row.Row.{Row}
use Rattle.snb_schema.specs.declared.row.Row.TheVariants as row
use Rattle.snb_schema.specs.declared.table.Kind.TheVariants as kinds
use Rattle.snb_schema.specs.declared.table.Table.TheVariants as table
use Rattle.snb_schema.specs.RowKeys.{node_key}
use Rattle.snb_graph_integrity.specs.SoundLaws.{NumbersFit}
use Rattle.snb_graph_model.specs.Graphs.{IsGraph}
use Rattle.snb_graph_model.specs.Messages.{HasMessage, RepliesTo}
use Rattle.snb_graph_model.specs.Soundness.{HoldsRefs}
use Rattle.snb_graph_model.proofs.Laws.{HasComment, Replied, replied_there}
use Rattle.snb_graph_model.specs.Around.{authors, replies}
use Rattle.snb_read_lookups.specs.Lookups.{IsCellNumber}
use Rattle.std.proofs.lemmas.List.{append-nil, map_push}
use Rattle.std.specs.List.Sorted.{IsPermutation}
use Rattle.snb_short_reads.specs.Found.{AreReplies, IsReplyFound, without_author}
use Rattle.snb_read_lookups.proofs.Laws.{any}

-- a comment that replies, with its author, and its numbers fit cells
reply_found : (g : List Row) → IsGraph g → NumbersFit → (m id date author : ℕ) → HasMessage g m → HasComment g id date → authors g id ≡ author ∷ [] → IsReplyFound g m (id, date, author)
reply_found g graph fit m id date author parent (c, there, is, at) made =
    let all = fit g graph (row.Comment c) there in
    let number : IsCellNumber c.id = all 0 NoId (omega arith) in
    let moment : IsCellNumber c.creation_date = all 1 NoId (omega arith) in
    record {
      held = record { it = row.Comment c; held = there; keyed = ap (node_key kinds.Comment) is };
      parent = parent;
      made = made;
      id_fits = subst IsCellNumber is number;
      date_fits = subst IsCellNumber at moment;
    }

replied_to : (g : List Row) → HoldsRefs g → (m id : ℕ) → RepliesTo g id m → HasMessage g m
replied_to g held m id (inl c) = inl (held (row.Link table.CommentReplyOfPost id m) c 1 any (omega arith))
replied_to g held m id (inr c) = inr (held (row.Link table.CommentReplyOfComment id m) c 1 any (omega arith))

-- what is found so far, and what the walk has still to give, are all replies
pub record IsFinding (g : List Row) (m : ℕ) (all left : List (ℕ × ℕ)) (found : List (ℕ × ℕ × ℕ)) : Type 0 where
  pub same : map without_author found ++ left ≡ all
  pub each : All (IsReplyFound g m) found

module _ (g : List Row) (m : ℕ) (all left rest : List (ℕ × ℕ)) (found : List (ℕ × ℕ × ℕ)) (are : IsPermutation (replies g m) all) (finding : IsFinding g m all left found) where
  -- the next one
  pub next_replied : (id date : ℕ) → left ≡ (id, date) ∷ rest → Replied g m id date
  next_replied id date is =
      let there = Contains-append_right (map without_author found) left (id, date) (subst (λ l. Contains l (id, date)) (sym is) (0, omega arith, refl)) in
      replied_there g m id date (Contains-permutation all (replies g m) (id, date) (IsPermutation-sym (replies g m) all are) (subst (λ l. Contains l (id, date)) finding.same there))

  pub next_held : (id date : ℕ) → left ≡ (id, date) ∷ rest → HasMessage g id
  next_held id date is =
      let (c, there, named, at) = (next_replied id date is).1 in
      inr (record { it = row.Comment c; held = there; keyed = ap (node_key kinds.Comment) named })

  pub next_found : IsGraph g → NumbersFit → HoldsRefs g → (id date author : ℕ) (new : List (ℕ × ℕ × ℕ)) → left ≡ (id, date) ∷ rest → authors g id ≡ author ∷ [] → new ≡ found ++ (id, date, author) ∷ [] → IsFinding g m all rest new
  next_found graph fit held id date author new is made push =
      let r = next_replied id date is in
      let it = reply_found g graph fit m id date author (replied_to g held m id r.0) r.1 made in
      record {
        same = ap (λ l. map without_author l ++ rest) push ∙ ap (λ l. l ++ rest) (map_push without_author found (id, date, author)) ∙ append_assoc (map without_author found) ((id, date) ∷ []) rest
            ∙ ap (λ l. map without_author found ++ l) (sym is) ∙ finding.same;
        each = subst (All (IsReplyFound g m)) (sym push) (All-push (IsReplyFound g m) found (id, date, author) finding.each it);
      }

  pub all_found : left ≡ [] → AreReplies g m found
  all_found none = record {
    same = subst (IsPermutation (replies g m)) (sym finding.same ∙ ap (λ l. map without_author found ++ l) none ∙ append-nil (map without_author found)) are;
    each = finding.each;
  }
