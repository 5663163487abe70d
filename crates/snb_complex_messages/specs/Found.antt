-- What walks have found. Cited by contracts of private functions alone.
use Rattle.std.specs.Prelude.{◌≡◌, ℕ, Bool, List, ◌++◌, filter, map}
use Rattle.std.specs.List.Sorted.{IsPermutation}
use Rattle.std.specs.Ordering.{flip_args, nat_cmp, on, then_cmp}
use Rattle.std.specs.declared.cmp.Ordering.{Ordering}
use Rattle.snb_schema.specs.declared.row.Row.{Row}
use Rattle.snb_schema.specs.declared.table.Kind.TheVariants as kinds
use Rattle.snb_schema.specs.RowKeys.{node_key}
use Rattle.snb_graph_model.specs.Graphs.{HasKey}
use Rattle.snb_read_model.specs.declared.like.Like.{Like}
use Rattle.snb_read_model.specs.declared.sent.Sent.{Sent}
use Rattle.snb_graph_model.specs.Around.{messages}
use Rattle.snb_read_model.specs.Distance.{IsPerson}
use Rattle.snb_read_order.specs.TopK.{IsTopK, Kept}
use Rattle.snb_read_lookups.specs.Found.{IsMessageFound}
use Rattle.snb_read_lookups.specs.Lookups.{IsCellNumber}

-- these things, in any order, after what was there
pub record HasAppended {X : Type 0} (all old new : List X) : Type 0 where
  pub part : List X
  pub same : IsPermutation all part
  pub is : new ≡ old ++ part

-- a message and its date, and who likes it and when
abbrev pub like_of : ℕ × ℕ → ℕ × ℕ → Like
like_of m l = record { person = l.0; date = l.1; message = m.0; sent = m.1 }

-- persons rising, then dates falling, then messages rising
abbrev pub weigh : Like → Like → Ordering
weigh = then_cmp (on (λ (l : Like). l.person) nat_cmp)
    (then_cmp (flip_args (on (λ (l : Like). l.date) nat_cmp))
    (on (λ (l : Like). l.message) nat_cmp))

module _ (g : List Row) where
  -- a person's messages that pass
  abbrev pub sent_by : (ℕ → Bool) → ℕ → List Sent
  sent_by passes person =
      map (λ m. record { person = person; message = m.0; date = m.1 })
      (filter (λ m. passes m.1) (messages g person))

  -- a message and a person who are held
  pub record IsSentFound (s : Sent) : Type 0 where
    pub person : IsPerson g s.person
    pub fits : IsCellNumber s.person
    pub message : IsMessageFound g (s.message, s.date)

  -- a comment that is held, as (comment, date)
  pub record IsCommentFound (c : ℕ × ℕ) : Type 0 where
    pub held : HasKey g (node_key kinds.Comment c.0)
    pub id_fits : IsCellNumber c.0
    pub date_fits : IsCellNumber c.1

  -- a like by a person who is held of a message that is held
  pub record IsLikeFound (l : Like) : Type 0 where
    pub person : IsPerson g l.person
    pub fits : IsCellNumber l.person
    pub date_fits : IsCellNumber l.date
    pub message : IsMessageFound g (l.message, l.sent)

-- dates falling, then message ids rising
abbrev pub sent_first : Sent → Sent → Ordering
sent_first =
    then_cmp (flip_args (on (λ (s : Sent). s.date) nat_cmp)) (on (λ (s : Sent). s.message) nat_cmp)

-- of these messages the latest twenty are kept
abbrev pub IsLatest : List Sent → Kept Sent → Type 0
IsLatest found kept = IsTopK sent_first found kept × (kept.most ≡ 20)

-- whatever the messages were of which the latest were kept: those of them, and of these, are kept
-- now
abbrev pub HasOffered : List Sent → Kept Sent → Kept Sent → Type 0
HasOffered all old new =
    (before : List Sent) → IsLatest before old
    → (found : List Sent) × IsLatest found new × HasAppended all before found
