-- The rows of the short reads, side by side with what they show.
use Rattle.std.proofs.Common.{◌≡◌, ℕ, List, [], ◌∷◌, refl, ap, ◌∙◌, inl}
use Rattle.std.proofs.lemmas.Cmp.{back_total, nat_cmp_total, on_total, then_total}
use Rattle.std.proofs.lemmas.List.Elements.{All-weaker}
use Rattle.std.proofs.lemmas.List.Sorted.{IsPermutation-refl}
use Rattle.std.specs.Cmp.{IsTotalOrder}
use Rattle.std.specs.List.{All, AllZip}
use Rattle.std.specs.List.Sorted.{IsPermutation}
use Rattle.std.specs.Ordering.{flip_args, is_lt, nat_cmp, on, then_cmp}
use Rattle.std.specs.declared.cmp.Ordering.{Ordering}
use Rattle.snb_schema.specs.declared.row.Row.{Row}
use Rattle.snb_graph_integrity.specs.SoundLaws.{MessagesAreOfOneKind, MessagesHaveOneAuthor, MessagesHaveOneRoot, NumbersFit}
use Rattle.snb_graph_model.specs.Graphs.{IsGraph}
use Rattle.snb_graph_model.specs.Soundness.{Sound}
use Rattle.snb_read_order.proofs.Laws.{answers_from, answers_mapped, answers_whole, chosen, then_assoc, three_columns, two_columns, zip_with}
use Rattle.snb_graph_model.proofs.Laws.{person_named}
use Rattle.snb_read_model.specs.Cells.{ByteCell}
use Rattle.snb_graph_model.specs.Around.{authors, friends, messages, replies}
use Rattle.snb_read_model.specs.Order.{Falling, FirstRows, SortedAndCut, Rising, AllRows, by}
use Rattle.snb_read_model.specs.ShortReads.{Is2Answer, Is3Answer, Is7Answer, IsFriend, IsRecent, IsReplyTo}
use Rattle.snb_read_lookups.proofs.Laws.{found_person, person_at, recent_first, shows, written}
use Rattle.snb_read_lookups.specs.Found.{IsMessageFound}
use Rattle.snb_short_reads.specs.Found.{AreReplies, IsReplyFound, without_author}
use Rattle.snb_base.proofs.Laws.{one_only}

-- ---- orders of keys

-- dates falling, ids falling
abbrev pub latest_first : ℕ × ℕ → ℕ × ℕ → Ordering
latest_first = then_cmp (flip_args (on (λ (p : ℕ × ℕ). p.1) nat_cmp)) (flip_args (on (λ (p : ℕ × ℕ). p.0) nat_cmp))

pub latest_total : IsTotalOrder latest_first
latest_total = then_total (back_total (on_total (λ (p : ℕ × ℕ). p.1) nat_cmp_total)) (back_total (on_total (λ (p : ℕ × ℕ). p.0) nat_cmp_total))

-- dates falling, authors rising, ids rising, of (id, date, author)
abbrev pub replies_first : ℕ × ℕ × ℕ → ℕ × ℕ × ℕ → Ordering
replies_first = then_cmp (then_cmp (flip_args (on (λ (p : ℕ × ℕ × ℕ). p.1) nat_cmp)) (on (λ (p : ℕ × ℕ × ℕ). p.2) nat_cmp)) (on (λ (p : ℕ × ℕ × ℕ). p.0) nat_cmp)

pub replies_total : IsTotalOrder replies_first
replies_total =
    then_total (then_total (back_total (on_total (λ (p : ℕ × ℕ × ℕ). p.1) nat_cmp_total)) (on_total (λ (p : ℕ × ℕ × ℕ). p.2) nat_cmp_total)) (on_total (λ (p : ℕ × ℕ × ℕ). p.0) nat_cmp_total)

module _ (g : List Row) where
  -- ---- IS2

  recent_agree : (x y : ℕ × ℕ) (a b : List ByteCell) → IsRecent g x a → IsRecent g y b → is_lt (by (Falling 3 ∷ Falling 1 ∷ []) a b) ≡ is_lt (latest_first x y)
  recent_agree x y a b r s = rw (r.is, s.is) (ap is_lt (two_columns y.1 x.1 y.0 x.0))

  -- each message has a row
  recent_any : IsGraph g → Sound g → NumbersFit → MessagesAreOfOneKind → MessagesHaveOneAuthor → MessagesHaveOneRoot → (m : ℕ × ℕ) → IsMessageFound g m → (a : List ByteCell) × IsRecent g m a
  recent_any graph sound fit one author root m found =
      let (x, held) = shows g graph fit m.0 found.held in
      let r = root g graph sound m.0 found.held in
      let a = author g graph sound r.post (inl r.held) in
      let w = written g graph one sound.held r.post a.author a.wrote in
      let (p, c, id) = person_at g graph a.author a.held in
      (_, record { message = x; held = held; root = r.post; from = r.root; author = p; wrote = record { id = a.author; created = w.only; held = (found_person g graph fit a.author p (id, c)).only }; is = refl })

  -- the rows of the latest messages are the answer
  pub is2_answers : IsGraph g → Sound g → NumbersFit → MessagesAreOfOneKind → MessagesHaveOneAuthor → MessagesHaveOneRoot → (p : ℕ) (walk found first : List (ℕ × ℕ)) (answer : List (List ByteCell))
      → IsPermutation (messages g p) walk → found ≡ walk → All (IsMessageFound g) (messages g p) → SortedAndCut latest_first (FirstRows 10) found first → AllZip (IsRecent g) first answer → Is2Answer g p answer
  is2_answers graph sound fit one author root p walk found first answer moves same all taken z =
      answers_from (IsRecent g) latest_first (Falling 3 ∷ Falling 1 ∷ []) recent_agree (FirstRows 10) (messages g p) found first answer (rw same moves) taken
      (All-weaker (IsMessageFound g) (λ m. (a : List ByteCell) × IsRecent g m a) (recent_any graph sound fit one author root) (messages g p) all) z

  -- ---- IS3

  friend_agree : (x y : ℕ × ℕ) (a b : List ByteCell) → IsFriend g x a → IsFriend g y b → is_lt (by (Falling 4 ∷ Rising 1 ∷ []) a b) ≡ is_lt (recent_first x y)
  friend_agree x y a b r s = rw (r.is, s.is) (ap is_lt (two_columns y.1 x.1 x.0 y.0))

  pub is3_answers : (p : ℕ) (walk found first : List (ℕ × ℕ)) (answer : List (List ByteCell)) → IsPermutation (friends g p) walk → found ≡ walk → SortedAndCut recent_first AllRows found first
      → AllZip (IsFriend g) first answer → Is3Answer g p answer
  is3_answers p walk found first answer moves same taken z =
      answers_whole (IsFriend g) recent_first (Falling 4 ∷ Rising 1 ∷ []) friend_agree (friends g p) found first answer (rw same moves) taken z

  -- ---- IS7

  module _ (m : ℕ) where
    abbrev Shown : ℕ × ℕ × ℕ → List ByteCell → Type 0
    Shown z a = IsReplyTo g m (without_author z) a × IsReplyFound g m z

    author_is : (z : ℕ × ℕ × ℕ) (a : List ByteCell) (s : Shown z a) → s.0.author.id ≡ z.2
    author_is z a (r, f) = person_named g r.wrote.id r.author r.wrote.held ∙ one_only (authors g z.0) r.wrote.id z.2 r.wrote.created f.made

    reply_agree : (x y : ℕ × ℕ × ℕ) (a b : List ByteCell) → Shown x a → Shown y b → is_lt (by (Falling 3 ∷ Rising 4 ∷ Rising 1 ∷ []) a b) ≡ is_lt (replies_first x y)
    reply_agree x y a b r s =
        let first = author_is x a r in
        let second = author_is y b s in
        let cells = three_columns y.1 x.1 r.0.author.id s.0.author.id x.0 y.0 in
        rw (r.0.is, s.0.is) (ap is_lt (cells ∙ rw (first, second) (then_assoc (nat_cmp y.1 x.1) (nat_cmp x.2 y.2) (nat_cmp x.0 y.0))))

    -- the rows of the replies in order are the answer
    pub is7_answers : (found first : List (ℕ × ℕ × ℕ)) (answer : List (List ByteCell)) → AreReplies g m found → SortedAndCut replies_first AllRows found first
        → AllZip (λ z a. IsReplyTo g m (without_author z) a) first answer → Is7Answer g m answer
    is7_answers found first answer are taken z =
        answers_mapped without_author Shown (IsReplyTo g m) (λ z a s. s.0) (replies g m) found (Falling 3 ∷ Rising 4 ∷ Rising 1 ∷ []) AllRows answer are.same
        (answers_whole Shown replies_first (Falling 3 ∷ Rising 4 ∷ Rising 1 ∷ []) reply_agree found found first answer (IsPermutation-refl found) taken
        (zip_with (λ z a. IsReplyTo g m (without_author z) a) (IsReplyFound g m) first answer (chosen (IsReplyFound g m) replies_first AllRows found first are.each taken) z))
