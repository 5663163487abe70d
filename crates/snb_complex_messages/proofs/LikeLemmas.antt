-- The likes of messages, and their rows side by side with what they show.
use Rattle.std.proofs.Common.{◌≡◌, ℕ, List, [], ◌∷◌, get_or, map, not, refl, ap, inl, inr, arith}
use Rattle.std.proofs.lemmas.Cmp.{back_total, nat_cmp_total, on_total, then_total}
use Rattle.std.proofs.lemmas.List.Elements.{All-contains_itself, All-filter, All-map, All-weaker, filter_agree}
use Rattle.std.proofs.lemmas.List.Sorted.{IsPermutation-refl, list_any-IsPermutation}
use Rattle.std.specs.Cmp.{IsTotalOrder}
use Rattle.std.specs.List.{All, AllZip, Contains, filter, list_any}
use Rattle.std.specs.List.Sorted.{IsPermutation}
use Rattle.std.specs.Ordering.{flip_args, is_lt, nat_cmp, on, then_cmp}
use Rattle.std.specs.declared.cmp.Ordering.{Ordering}
use Rattle.snb_schema.specs.declared.column.Value.TheVariants.{NoId}
use Rattle.snb_schema.specs.declared.row.Row.{Row}
use Rattle.snb_schema.specs.declared.row.Row.TheVariants as row
use Rattle.snb_schema.specs.declared.table.Table.TheVariants as table
use Rattle.snb_graph_integrity.specs.SoundLaws.{NumbersFit}
use Rattle.snb_graph_model.specs.Graphs.{IsGraph}
use Rattle.snb_graph_model.specs.Soundness.{HoldsRefs}
use Rattle.snb_read_order.proofs.Laws.{answers_from, two_columns}
use Rattle.snb_graph_model.proofs.Laws.{Liked, like_there}
use Rattle.snb_read_model.specs.Cells.{ByteCell}
use Rattle.snb_read_model.specs.declared.like.Like.{Like}
use Rattle.snb_graph_model.specs.Around.{likes, messages}
use Rattle.snb_read_model.specs.MessageReads.{IsLiked, beats, best_likes, liked}
use Rattle.snb_read_model.specs.Distance.{IsPerson}
use Rattle.snb_read_model.specs.Order.{ReadAnswers, Falling, FirstRows, SortedAndCut, Rising, by}
use Rattle.snb_read_lookups.proofs.Laws.{any, found_person, messages_found, person_at, person_fits, shows}
use Rattle.snb_read_lookups.specs.Found.{IsMessageFound}
use Rattle.snb_read_lookups.specs.Lookups.{IsCellNumber}
use Rattle.snb_complex_messages.proofs.Moves.{All-flat_map, filter_moved}
use Rattle.snb_complex_messages.specs.Found.{IsLikeFound, like_of}

-- ---- rows

-- dates falling, persons rising
abbrev pub likes_first : Like → Like → Ordering
likes_first = then_cmp (flip_args (on (λ (l : Like). l.date) nat_cmp)) (on (λ (l : Like). l.person) nat_cmp)

pub likes_total : IsTotalOrder likes_first
likes_total = then_total (back_total (on_total (λ (l : Like). l.date) nat_cmp_total)) (on_total (λ (l : Like). l.person) nat_cmp_total)

-- the best of likes in another order are the best
pub best_moved : (all found best : List Like) → IsPermutation all found → best ≡ filter (λ l. not (list_any (λ k. beats k l) found)) found
    → IsPermutation (filter (λ l. not (list_any (λ k. beats k l) all)) all) best
best_moved all found best moves is =
    rw (is, filter_agree (λ l. not (list_any (λ k. beats k l) all)) (λ l. not (list_any (λ k. beats k l) found)) (λ l. ap not (list_any-IsPermutation (λ k. beats k l) all found moves)) all)
    (filter_moved (λ l. not (list_any (λ k. beats k l) found)) all found moves)

module _ (g : List Row) (graph : IsGraph g) (fit : NumbersFit) where
  like_numbers : HoldsRefs g → (m p d : ℕ) → Liked g m p d → IsPerson g p × IsCellNumber d
  like_numbers held m p d (inl c) =
      let moment : IsCellNumber d = fit g graph (row.Dated table.PersonLikesPost p m d) c 2 NoId (omega arith) in
      (held (row.Dated table.PersonLikesPost p m d) c 0 any (omega arith), moment)
  like_numbers held m p d (inr c) =
      let moment : IsCellNumber d = fit g graph (row.Dated table.PersonLikesComment p m d) c 2 NoId (omega arith) in
      (held (row.Dated table.PersonLikesComment p m d) c 0 any (omega arith), moment)

  like_found : HoldsRefs g → (m l : ℕ × ℕ) → IsMessageFound g m → Contains (likes g m.0) l → IsLikeFound g (like_of m l)
  like_found held m l found c =
      let (person, moment) = like_numbers held m.0 l.0 l.1 (like_there g m.0 l.0 l.1 c) in
      record { person = person; fits = person_fits g graph fit l.0 person; date_fits = moment; message = found }

  -- the likes of a person's messages are found
  all_liked : HoldsRefs g → (start : ℕ) → All (IsLikeFound g) (liked g start)
  all_liked held start = All-flat_map (λ m. map (like_of m) (likes g m.0)) (IsLikeFound g) (messages g start) (λ i e there. (let m = get_or (messages g start) i e in
      All-map (IsLikeFound g) (like_of m) (likes g m.0) (All-weaker (Contains (likes g m.0)) (λ l. IsLikeFound g (like_of m l)) (λ l c. like_found held m l (messages_found g graph fit start i e there) c) (likes g m.0) (All-contains_itself (likes g m.0)))))

  pub best_found : HoldsRefs g → (start : ℕ) → All (IsLikeFound g) (best_likes g start)
  best_found held start = All-filter (λ l. not (list_any (λ k. beats k l) (liked g start))) (IsLikeFound g) (liked g start) (all_liked held start)

  module _ (start : ℕ) where
    like_agree : (x y : Like) (a b : List ByteCell) → IsLiked g start x a → IsLiked g start y b → is_lt (by (Falling 4 ∷ Rising 1 ∷ []) a b) ≡ is_lt (likes_first x y)
    like_agree x y a b r s = rw (r.is, s.is) (ap is_lt (two_columns y.date x.date x.person y.person))

    -- each like has a row
    like_any : (l : Like) → IsLikeFound g l → (a : List ByteCell) × IsLiked g start l a
    like_any l f =
        let (p, c, named) = person_at g graph l.person f.person in
        let (m, is) = shows g graph fit l.message f.message.held in
        (_, record { person = p; held = (found_person g graph fit l.person p (named, c)).only; message = m; sent = is; is = refl })

    -- the rows of the latest likes are the answer
    pub like_answers : (found first : List Like) (answer : List (List ByteCell)) → All (IsLikeFound g) found → SortedAndCut likes_first (FirstRows 20) found first → AllZip (IsLiked g start) first answer
        → ReadAnswers found (IsLiked g start) (Falling 4 ∷ Rising 1 ∷ []) (FirstRows 20) answer
    like_answers found first answer all taken z =
        answers_from (IsLiked g start) likes_first (Falling 4 ∷ Rising 1 ∷ []) like_agree (FirstRows 20) found found first answer (IsPermutation-refl found) taken
        (All-weaker (IsLikeFound g) (λ l. (a : List ByteCell) × IsLiked g start l a) like_any found all) z
