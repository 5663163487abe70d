-- Rows of replies, side by side with what they show.
use Rattle.std.proofs.Common.{◌≡◌, ℕ, List, [], ◌∷◌, get_or, refl, ap, subst, inr, arith}
use Rattle.std.proofs.lemmas.List.Elements.{All-contains_itself, All-weaker}
use Rattle.std.proofs.lemmas.List.Sorted.{IsPermutation-refl}
use Rattle.std.specs.List.{All, AllZip, Contains, flat_map}
use Rattle.std.specs.Ordering.{is_lt}
use Rattle.snb_schema.specs.declared.column.Value.TheVariants.{NoId}
use Rattle.snb_schema.specs.declared.row.Row.{Row}
use Rattle.snb_schema.specs.declared.row.Row.TheVariants as row
use Rattle.snb_schema.specs.declared.table.Kind.TheVariants as kinds
use Rattle.snb_schema.specs.RowKeys.{node_key}
use Rattle.snb_graph_integrity.specs.SoundLaws.{MessagesAreOfOneKind, MessagesHaveOneAuthor, NumbersFit}
use Rattle.snb_graph_model.specs.Graphs.{IsGraph}
use Rattle.snb_graph_model.specs.Soundness.{Sound}
use Rattle.snb_read_order.proofs.Laws.{answers_from, two_columns}
use Rattle.snb_graph_model.proofs.Laws.{HasComment, comment_alone, replied_there}
use Rattle.snb_read_model.specs.Cells.{ByteCell}
use Rattle.snb_graph_model.specs.Around.{comments, replies}
use Rattle.snb_graph_model.specs.RowParts.{comment_shown}
use Rattle.snb_read_model.specs.MessageReads.{ShowsReply}
use Rattle.snb_read_model.specs.Order.{ReadAnswers, Falling, FirstRows, SortedAndCut, Rising, by}
use Rattle.snb_read_lookups.proofs.Laws.{comment_at, found_person, person_at, recent_first, written}
use Rattle.snb_read_lookups.specs.Lookups.{IsCellNumber}
use Rattle.snb_complex_messages.proofs.Moves.{All-flat_map}
use Rattle.snb_complex_messages.specs.Found.{IsCommentFound}

module _ (g : List Row) (graph : IsGraph g) (fit : NumbersFit) where
  comment_found : (id date : ℕ) → HasComment g id date → IsCommentFound g (id, date)
  comment_found id date (m, c, is, at) =
      let all = fit g graph (row.Comment m) c in
      let number : IsCellNumber m.id = all 0 NoId (omega arith) in
      let moment : IsCellNumber m.creation_date = all 1 NoId (omega arith) in
      record { held = record { it = row.Comment m; held = c; keyed = ap (node_key kinds.Comment) is }; id_fits = subst IsCellNumber is number; date_fits = subst IsCellNumber at moment }

  -- the replies to a person's messages are found
  pub all_replied : (ms : List (ℕ × ℕ)) → All (IsCommentFound g) (flat_map (λ m. replies g m.0) ms)
  all_replied ms = All-flat_map (λ m. replies g m.0) (IsCommentFound g) ms (λ i e there. (let m = get_or ms i e in
      All-weaker (Contains (replies g m.0)) (IsCommentFound g) (λ r c. comment_found r.0 r.1 (replied_there g m.0 r.0 r.1 c).1) (replies g m.0) (All-contains_itself (replies g m.0))))

  module _ (sound : Sound g) (one : MessagesAreOfOneKind) (author : MessagesHaveOneAuthor) where
    reply_agree : (x y : ℕ × ℕ) (a b : List ByteCell) → ShowsReply g x a → ShowsReply g y b → is_lt (by (Falling 4 ∷ Rising 5 ∷ []) a b) ≡ is_lt (recent_first x y)
    reply_agree x y a b r s = rw (r.is, s.is) (ap is_lt (two_columns y.1 x.1 x.0 y.0))

    -- each reply has a row
    reply_any : (r : ℕ × ℕ) → IsCommentFound g r → (a : List ByteCell) × ShowsReply g r a
    reply_any r found =
        let a = author g graph sound r.0 (inr found.held) in
        let w = written g graph one sound.held r.0 a.author a.wrote in
        let (p, c, id) = person_at g graph a.author a.held in
        let (m, d, named) = comment_at g graph r.0 found.held in (
          _,
          record {
            author = p;
            wrote = record { id = a.author; created = w.only; held = (found_person g graph fit a.author p (id, c)).only };
            comment = comment_shown m;
            held = subst (λ n. comments g n ≡ comment_shown m ∷ []) named (comment_alone g m graph d);
            is = refl;
          },
        )

    -- the rows of the latest replies are the answer
    pub reply_answers : (found first : List (ℕ × ℕ)) (answer : List (List ByteCell)) → All (IsCommentFound g) found → SortedAndCut recent_first (FirstRows 20) found first → AllZip (ShowsReply g) first answer
        → ReadAnswers found (ShowsReply g) (Falling 4 ∷ Rising 5 ∷ []) (FirstRows 20) answer
    reply_answers found first answer all taken z =
        answers_from (ShowsReply g) recent_first (Falling 4 ∷ Rising 5 ∷ []) reply_agree (FirstRows 20) found found first answer (IsPermutation-refl found) taken
        (All-weaker (IsCommentFound g) (λ r. (a : List ByteCell) × ShowsReply g r a) reply_any found all) z
