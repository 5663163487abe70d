-- The links of a walk are the pairs of its filter over the rows.
use Rattle.std.proofs.Common.{◌≡◌, ◌↔◌, ◌++◌, ◌∷◌, [], ℕ, List, Option, Some, None, refl, sym, ap, ◌∙◌, subst, arith, append-nil}
use Rattle.std.specs.Cmp.{nat_cmp_total, on_total, tied_itself}
use Rattle.std.specs.List.{AllByRecursion, Contains, cons_option, filter_map}
use Rattle.std.specs.List.Sorted.{IsStrictlySortedBy}
use Rattle.std.specs.Map.{keys_of}
use Rattle.std.specs.Ordering.{nat_cmp, ordering_then}
use Rattle.std.specs.declared.cmp.Ordering.{Ordering}
use Rattle.std.specs.declared.cmp.Ordering.TheVariants.{Less}
use Rattle.std.proofs.lemmas.List.Kept.{IsStrictlySortedBy-filter}
use Rattle.snb_base.proofs.Laws.{all_recursive, contains_here, contains_there, given_by, then_last}
use Rattle.snb_schema.specs.declared.row.Row.{Row}
use Rattle.snb_schema.specs.declared.row.Row.TheVariants as row
use Rattle.snb_schema.specs.declared.table.Kind.TheVariants as kinds
use Rattle.snb_schema.specs.declared.table.Table.{Table}
use Rattle.snb_schema.specs.declared.table.Table.TheVariants as table
use Rattle.snb_schema.specs.Layouts.{shape}
use Rattle.snb_schema.specs.References.{ref}
use Rattle.snb_schema.specs.RowKeys.{RowKey, node_key, row_key, slot}
use Rattle.snb_schema.specs.RowValues.{table_of}
use Rattle.snb_schema.specs.TableOrder.{same_table}
use Rattle.snb_graph_model.proofs.Laws.{IsApart, friends_apart, in_rows, liker_there, likers_apart, likes_split, messages_apart, none_of, of_each, replies_apart, same_list, stay_row, walk_moved}
use Rattle.snb_graph_model.specs.Around.{friends, likes, likes_in, messages, replies, study, work}
use Rattle.snb_graph_model.specs.RowParts.{stay_in}
use Rattle.snb_graph_model.specs.Graphs.{HasKey, IsGraph, key_order, part_of, row_order, rows}
use Rattle.snb_graph_model.specs.Soundness.{HoldsRefs}
use Rattle.snb_graph_links.specs.Pairs.{ArePairsOf}
use Rattle.snb_graph_rows.specs.KeysApart.{table_itself}
use Rattle.snb_graph_adjacency.specs.declared.indexes.Indexes.{Indexes}
use Rattle.snb_graph_adjacency.specs.declared.link.Walk.{Walk}
use Rattle.snb_graph_adjacency.specs.declared.link.Walk.TheVariants.{Friends, Messages, Replies, PostLikes, CommentLikes, Work, Study}
use Rattle.snb_graph_adjacency.specs.Kept.{IsIndexed, along, at}
use Rattle.snb_graph_adjacency.specs.LinkDelta.{link}
use Rattle.snb_graph.specs.Walks.{IsWalkOver}

-- ---- likes

-- the rows of the keys of a post and a comment aren't in one graph
post_or_comment : (g : List Row) (m : ℕ) → IsGraph g → HasKey g (node_key kinds.Post m) → HasKey g (node_key kinds.Comment m) → ⊥
post_or_comment g m graph post comment =
    let one = graph.apart post.it comment.it post.held comment.held (ap slot post.keyed ∙ sym (ap slot comment.keyed)) in
    apart (ap (λ (k : RowKey). k.0) (sym post.keyed ∙ ap row_key one ∙ comment.keyed))
  where
    apart : table.Post ≡ table.Comment → ⊥
    apart e = absurd cc

liked_post : (g : List Row) (m p d : ℕ) → HoldsRefs g → Contains g (row.Dated table.PersonLikesPost p m d) → HasKey g (node_key kinds.Post m)
liked_post g m p d held c = held (row.Dated table.PersonLikesPost p m d) c 1 (2, ref kinds.Post m) (omega arith)

liked_comment : (g : List Row) (m p d : ℕ) → HoldsRefs g → Contains g (row.Dated table.PersonLikesComment p m d) → HasKey g (node_key kinds.Comment m)
liked_comment g m p d held c = held (row.Dated table.PersonLikesComment p m d) c 1 (2, ref kinds.Comment m) (omega arith)

-- the likes of a post are all that its id has, and so are those of a comment
pub post_likes : (g : List Row) (m : ℕ) (ps : List (ℕ × ℕ)) → IsGraph g → HoldsRefs g → HasKey g (node_key kinds.Post m) → IsWalkOver (likes_in g table.PersonLikesPost m) ps → IsWalkOver (likes g m) ps
post_likes g m ps graph held post is = subst (λ l. IsWalkOver l ps) (sym alone) is
  where
    alone : likes g m ≡ likes_in g table.PersonLikesPost m
    alone =
        likes_split g m
        ∙ ap (λ l. likes_in g table.PersonLikesPost m ++ l) (none_of (likes_in g table.PersonLikesComment m) (λ y c. post_or_comment g m graph post (liked_comment g m y.0 y.1 held (liker_there g table.PersonLikesComment m y.0 y.1 c))))
        ∙ append-nil (likes_in g table.PersonLikesPost m)

pub comment_likes : (g : List Row) (m : ℕ) (ps : List (ℕ × ℕ)) → HoldsRefs g → ¬ HasKey g (node_key kinds.Post m) → IsWalkOver (likes_in g table.PersonLikesComment m) ps → IsWalkOver (likes g m) ps
comment_likes g m ps held none is = subst (λ l. IsWalkOver l ps) (sym alone) is
  where
    alone : likes g m ≡ likes_in g table.PersonLikesComment m
    alone =
        likes_split g m
        ∙ ap (λ l. l ++ likes_in g table.PersonLikesComment m) (none_of (likes_in g table.PersonLikesPost m) (λ y c. none (liked_post g m y.0 y.1 held (liker_there g table.PersonLikesPost m y.0 y.1 c))))

-- ---- stays

first_rises : {Y : Type 0} (S : Y → Y → Ordering) (y : Y) (ys : List Y) → AllByRecursion (λ z. S y z ≡ Less) ys → IsStrictlySortedBy S ys → IsStrictlySortedBy S (y ∷ ys)
unfolding IsStrictlySortedBy
first_rises S y ys above rises = (above, rises)

-- where a choice keeps the order, what it gives rises
chosen_rise : {X Y : Type 0} (R : X → X → Ordering) (S : Y → Y → Ordering) (f : X → Option Y) (xs : List X)
    → ((x z : X) (y w : Y) → Contains xs x → Contains xs z → f x ≡ Some y → f z ≡ Some w → R x z ≡ Less → S y w ≡ Less) → IsStrictlySortedBy R xs → IsStrictlySortedBy S (filter_map f xs)
unfolding IsStrictlySortedBy
chosen_rise R S f [] keeps rises = tt
chosen_rise {X} {Y} R S f (x ∷ xs) keeps rises =
    by (f x) refl (chosen_rise R S f xs (λ v z y w c d. keeps v z y w (contains_there x xs v c) (contains_there x xs z d)) rises.1)
  where
    by : (o : Option Y) → f x ≡ o → IsStrictlySortedBy S (filter_map f xs) → IsStrictlySortedBy S (cons_option o (filter_map f xs))
    by None is rest = rest
    by (Some y) is rest =
        first_rises S y (filter_map f xs)
        (all_recursive (λ w. S y w ≡ Less) (filter_map f xs) (λ w c. (let (z, there, gives) = given_by f xs w c in
        keeps x z y w (contains_here x xs) (contains_there x xs z there) is gives (of_each (λ v. R x v ≡ Less) xs rises.0 z there))))
        rest

pairs_rise : (xs : List (ℕ × ℕ)) → IsStrictlySortedBy nat_cmp (keys_of xs) → IsStrictlySortedBy (λ x y. nat_cmp x.0 y.0) xs
unfolding IsStrictlySortedBy
pairs_rise [] rises = tt
pairs_rise (x ∷ xs) rises = (above x xs rises.0, pairs_rise xs rises.1)
  where
    above : (y : ℕ × ℕ) (ys : List (ℕ × ℕ)) → AllByRecursion (λ k. nat_cmp y.0 k ≡ Less) (keys_of ys) → AllByRecursion (λ z. nat_cmp y.0 z.0 ≡ Less) ys
    above y [] all = tt
    above y (z ∷ zs) all = (all.0, above y zs all.1)

-- of two stays of a person, the organisations tell the order
stay_order : (t : Table) (p k y l z : ℕ) → row_order (row.Yeared t p k y) (row.Yeared t p l z) ≡ nat_cmp k l
stay_order t p k y l z =
    ap (λ o. ordering_then o (key_order (t, p, k, []) (t, p, l, []))) (tied_itself nat_cmp_total (part_of (shape t)))
    ∙ ap (λ o. ordering_then o (ordering_then (nat_cmp p p) (ordering_then (nat_cmp k l) (nat_cmp 0 0)))) (table_itself t)
    ∙ ap (λ o. ordering_then o (ordering_then (nat_cmp k l) (nat_cmp 0 0))) (tied_itself nat_cmp_total p)
    ∙ then_last (nat_cmp k l)

stays_rise : (g : List Row) (t : Table) (p : ℕ) → IsGraph g → IsStrictlySortedBy (λ x y. nat_cmp x.0 y.0) (filter_map (stay_in p) (rows g t))
stays_rise g t p graph =
    chosen_rise row_order (λ (x : ℕ × ℕ) y. nat_cmp x.0 y.0) (stay_in p) (rows g t) keeps (IsStrictlySortedBy-filter row_order (λ r. same_table (table_of r) t) g graph.rises)
  where
    stay : (r : Row) (y : ℕ × ℕ) → Contains (rows g t) r → stay_in p r ≡ Some y → r ≡ row.Yeared t p y.0 y.1
    stay r y c e = stay_row p r y e ∙ ap (λ u. row.Yeared u p y.0 y.1) ((in_rows g t r).0 c).1

    keeps : (r s : Row) (y z : ℕ × ℕ) → Contains (rows g t) r → Contains (rows g t) s → stay_in p r ≡ Some y → stay_in p s ≡ Some z → row_order r s ≡ Less → nat_cmp y.0 z.0 ≡ Less
    keeps r s y z c d e h less =
        sym (ap (λ x. row_order x s) (stay r y c e) ∙ ap (row_order (row.Yeared t p y.0 y.1)) (stay s z d h) ∙ stay_order t p y.0 y.1 z.0 z.1) ∙ less

-- ---- walks

module _ (g : List Row) (s : Indexes) (is : IsIndexed g s) (of : ℕ) (ps : List (ℕ × ℕ)) where
  -- the pairs of a walk are those of its filter
  given : (w : Walk) → ArePairsOf (at s w) of ps → (id date : ℕ) → Contains (along g w of) (id, date) ↔ Contains ps (id, date)
  given w are id date = (
    λ c. (are.same id date).1 ((is.same (link w of id date)).1 c),
    λ c. (is.same (link w of id date)).0 ((are.same id date).0 c),
  )

  walk : (w : Walk) → IsApart (along g w of) → ArePairsOf (at s w) of ps → IsWalkOver (along g w of) ps
  walk w apart are = record { rises = are.rises; same = walk_moved (along g w of) ps apart are.rises (given w are) }

  pub friends_walk : ArePairsOf s.friends of ps → IsWalkOver (friends g of) ps
  friends_walk = walk Friends (friends_apart g of is.graph)

  pub messages_walk : ArePairsOf s.messages of ps → IsWalkOver (messages g of) ps
  messages_walk = walk Messages (messages_apart g of is.graph)

  pub replies_walk : ArePairsOf s.replies of ps → IsWalkOver (replies g of) ps
  replies_walk = walk Replies (replies_apart g of is.graph)

  pub post_likes_walk : ArePairsOf s.post_likes of ps → IsWalkOver (likes_in g table.PersonLikesPost of) ps
  post_likes_walk = walk PostLikes (likers_apart g table.PersonLikesPost of is.graph)

  pub comment_likes_walk : ArePairsOf s.comment_likes of ps → IsWalkOver (likes_in g table.PersonLikesComment of) ps
  comment_likes_walk = walk CommentLikes (likers_apart g table.PersonLikesComment of is.graph)

  -- where the filter rises too, they are one list
  risen : (w : Walk) → IsStrictlySortedBy (λ (x : ℕ × ℕ) y. nat_cmp x.0 y.0) (along g w of) → ArePairsOf (at s w) of ps → ps ≡ along g w of
  risen w rises are =
      same_list (λ (x : ℕ × ℕ) y. nat_cmp x.0 y.0) (on_total (λ (x : ℕ × ℕ). x.0) nat_cmp_total) ps (along g w of) (pairs_rise ps are.rises) rises
      (λ z. (let same = given w are z.0 z.1 in (same.1, same.0)))

  pub work_walk : ArePairsOf s.work of ps → ps ≡ work g of
  work_walk = risen Work (stays_rise g table.PersonWorkAtOrganisation of is.graph)

  pub study_walk : ArePairsOf s.study of ps → ps ≡ study g of
  study_walk = risen Study (stays_rise g table.PersonStudyAtOrganisation of is.graph)
