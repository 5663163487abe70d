-- Links kept.
use Rattle.std.proofs.Common.{◌≡◌, ◌≢◌, ◌⊎◌, ℕ, Option, Some, None, refl, sym, ap, ◌∙◌, subst, inl, inr}
use Rattle.std.specs.List.{Contains}
use Rattle.snb_graph_links.specs.Pairs.{HasAdded, HasDropped, HasFrozenPair, HasPair, Lists, SamePairs, pairs_at}
use Rattle.snb_graph_adjacency.specs.declared.indexes.Indexes.{Indexes}
use Rattle.snb_graph_adjacency.specs.declared.link.Link.{Link}
use Rattle.snb_graph_adjacency.specs.declared.link.LinkDelta.{LinkDelta}
use Rattle.snb_graph_adjacency.specs.declared.link.Walk.{Walk}
use Rattle.snb_graph_adjacency.specs.declared.link.Walk.TheVariants.{Friends, Messages, Replies, PostLikes, CommentLikes, Work, Study}
use Rattle.snb_graph_adjacency.specs.Kept.{HasFrozenLink, HasGainedLink, HasGainedSome, HasLink, HasLostLink, HasLostLinkDelta, HasLostSome, HasLinkDelta, IsFresh, IsNewLink, IsOwnLink, SameEnds, SameFrozen, SameLinks, at}
use Rattle.std.proofs.lemmas.Option.{same_Some}

-- two walks are one, or they aren't
pub same_walk : (u v : Walk) → (u ≡ v) ⊎ (u ≢ v)
same_walk Friends Friends = inl refl
same_walk Messages Messages = inl refl
same_walk Replies Replies = inl refl
same_walk PostLikes PostLikes = inl refl
same_walk CommentLikes CommentLikes = inl refl
same_walk Work Work = inl refl
same_walk Study Study = inl refl
same_walk u v = inr (λ e. absurd cc)

-- the walk whose pairs alone have changed
pub friends_alone : (s : Indexes) (es : Lists × Lists) (v : Walk) → v ≢ Friends → at (record { friends = es; messages = s.messages; replies = s.replies; post_likes = s.post_likes; comment_likes = s.comment_likes; work = s.work; study = s.study }) v ≡ at s v
friends_alone s es Friends other = absurd (other refl)
friends_alone s es v other = refl

pub messages_alone : (s : Indexes) (es : Lists × Lists) (v : Walk) → v ≢ Messages → at (record { friends = s.friends; messages = es; replies = s.replies; post_likes = s.post_likes; comment_likes = s.comment_likes; work = s.work; study = s.study }) v ≡ at s v
messages_alone s es Messages other = absurd (other refl)
messages_alone s es v other = refl

pub replies_alone : (s : Indexes) (es : Lists × Lists) (v : Walk) → v ≢ Replies → at (record { friends = s.friends; messages = s.messages; replies = es; post_likes = s.post_likes; comment_likes = s.comment_likes; work = s.work; study = s.study }) v ≡ at s v
replies_alone s es Replies other = absurd (other refl)
replies_alone s es v other = refl

pub post_likes_alone : (s : Indexes) (es : Lists × Lists) (v : Walk) → v ≢ PostLikes → at (record { friends = s.friends; messages = s.messages; replies = s.replies; post_likes = es; comment_likes = s.comment_likes; work = s.work; study = s.study }) v ≡ at s v
post_likes_alone s es PostLikes other = absurd (other refl)
post_likes_alone s es v other = refl

pub comment_likes_alone : (s : Indexes) (es : Lists × Lists) (v : Walk) → v ≢ CommentLikes → at (record { friends = s.friends; messages = s.messages; replies = s.replies; post_likes = s.post_likes; comment_likes = es; work = s.work; study = s.study }) v ≡ at s v
comment_likes_alone s es CommentLikes other = absurd (other refl)
comment_likes_alone s es v other = refl

pub work_alone : (s : Indexes) (es : Lists × Lists) (v : Walk) → v ≢ Work → at (record { friends = s.friends; messages = s.messages; replies = s.replies; post_likes = s.post_likes; comment_likes = s.comment_likes; work = es; study = s.study }) v ≡ at s v
work_alone s es Work other = absurd (other refl)
work_alone s es v other = refl

pub study_alone : (s : Indexes) (es : Lists × Lists) (v : Walk) → v ≢ Study → at (record { friends = s.friends; messages = s.messages; replies = s.replies; post_likes = s.post_likes; comment_likes = s.comment_likes; work = s.work; study = es }) v ≡ at s v
study_alone s es Study other = absurd (other refl)
study_alone s es v other = refl

-- a new link's pair is new
pub new_at : (s : Indexes) (k : Link) (w : Walk) → k.walk ≡ w → IsNewLink s k → (d : ℕ) → HasPair (at s w) k.of k.id d → ⊥
new_at s k w is new d has = new (record { walk = k.walk; of = k.of; id = k.id; date = d }) (refl, refl, refl) (subst (λ v. HasPair (at s v) k.of k.id d) (sym is) has)

-- its frozen pair isn't there, where no such link is frozen
pub own_at : (s : Indexes) (k : Link) (w : Walk) → k.walk ≡ w → IsOwnLink s k → (d : ℕ) → HasFrozenPair (at s w) k.of k.id d → ⊥
own_at s k w is own d has = own (record { walk = k.walk; of = k.of; id = k.id; date = d }) (refl, refl, refl) (subst (λ v. HasFrozenPair (at s v) k.of k.id d) (sym is) has)

-- the frozen parts stay, where that of one walk does and the others' pairs do
pub frozen_at : (old new : Indexes) (w : Walk) → (at new w).0 ≡ (at old w).0 → ((v : Walk) → v ≢ w → at new v ≡ at old v) → SameFrozen old new
frozen_at old new w here alone v = elim (same_walk v w) [
  | inl e ↦ subst (λ u. (at new u).0 ≡ (at old u).0) (sym e) here
  | inr other ↦ ap (λ (s : Lists × Lists). s.0) (alone v other)
]

-- the links stay, where the pairs of one walk do and the others' do
pub same_at : (old new : Indexes) (w : Walk) → SamePairs (at old w) (at new w) → ((v : Walk) → v ≢ w → at new v ≡ at old v) → SameLinks old new
same_at old new w same alone l = elim (same_walk l.walk w) [
  | inl e ↦ (
    λ has. subst (λ v. HasPair (at old v) l.of l.id l.date) (sym e) (subst (λ ps. Contains ps (l.id, l.date)) (same l.of) (subst (λ v. HasPair (at new v) l.of l.id l.date) e has)),
    λ has. subst (λ v. HasPair (at new v) l.of l.id l.date) (sym e) (subst (λ ps. Contains ps (l.id, l.date)) (sym (same l.of)) (subst (λ v. HasPair (at old v) l.of l.id l.date) e has)),
  )
  | inr other ↦ (
    λ has. subst (λ (es : Lists × Lists). HasPair es l.of l.id l.date) (alone l.walk other) has,
    λ has. subst (λ (es : Lists × Lists). HasPair es l.of l.id l.date) (sym (alone l.walk other)) has,
  )
]

-- a frozen link is a frozen link before
pub frozen_before : (old new : Indexes) → SameFrozen old new → (l : Link) → HasFrozenLink new l → HasFrozenLink old l
frozen_before old new same l has = subst (λ es. Contains (pairs_at es l.of) (l.id, l.date)) (same l.walk) has

-- a new link isn't frozen
pub new_own : (s : Indexes) (k : Link) → ((l : Link) → HasFrozenLink s l → HasLink s l) → IsNewLink s k → IsOwnLink s k
new_own s k among new l same has = new l same (among l has)

-- nor is it after a change that freezes nothing
pub still_own : (old new : Indexes) (k : Link) → SameFrozen old new → IsOwnLink old k → IsOwnLink new k
still_own old new k frozen own l same has = own l same (frozen_before old new frozen l has)

pub same_twice : (one two three : Indexes) → SameLinks one two → SameLinks two three → SameLinks one three
same_twice one two three p q l = (λ has. (p l).0 ((q l).0 has), λ has. (q l).1 ((p l).1 has))

-- what was lost of the same links
pub lost_of_same : (now mid new : Indexes) (o : Option Link) → SameLinks mid now → HasLostSome now o new → HasLostSome mid o new
lost_of_same now mid new o same lost l = (
  λ has. let was = (lost l).0 has in ((same l).0 was.0, was.1),
  λ was. (lost l).1 ((same l).1 was.0, was.1),
)

-- a pair more along one walk is a link more
pub gained_at : (old new : Indexes) (k : Link) (w : Walk) → k.walk ≡ w → HasAdded (at old w) k.of k.id k.date (at new w) → ((v : Walk) → v ≢ w → at new v ≡ at old v) → HasGainedLink old k new
gained_at old new k w is added alone l =
    elim (same_walk l.walk w) [
      | inl e ↦ (
        λ has. elim ((added l.of l.id l.date).0 (subst (λ v. HasPair (at new v) l.of l.id l.date) e has)) [
          | inl was ↦ inl (subst (λ v. HasPair (at old v) l.of l.id l.date) (sym e) was)
          | inr same ↦ inr (let walks = is ∙ sym e in λ i. record { walk = walks i; of = same.0 i; id = same.1 i; date = same.2 i })
        ],
        λ or. subst (λ v. HasPair (at new v) l.of l.id l.date) (sym e) ((added l.of l.id l.date).1 (elim or [
          | inl was ↦ inl (subst (λ v. HasPair (at old v) l.of l.id l.date) e was)
          | inr same ↦ inr (ap (λ (x : Link). x.of) same, ap (λ (x : Link). x.id) same, ap (λ (x : Link). x.date) same)
        ])),
      )
      | inr other ↦ (
        λ has. inl (subst (λ (es : Lists × Lists). HasPair es l.of l.id l.date) (alone l.walk other) has),
        λ or. elim or [
          | inl was ↦ subst (λ (es : Lists × Lists). HasPair es l.of l.id l.date) (sym (alone l.walk other)) was
          | inr same ↦ absurd (other (sym (ap (λ (x : Link). x.walk) same) ∙ is))
        ],
      )
    ]

-- a pair fewer along one walk is a link fewer
pub lost_at : (old new : Indexes) (k : Link) (w : Walk) → k.walk ≡ w → HasDropped (at old w) k.of k.id (at new w) → ((v : Walk) → v ≢ w → at new v ≡ at old v) → HasLostLink old k new
lost_at old new k w is dropped alone l =
    elim (same_walk l.walk w) [
      | inl e ↦ (
        λ has.
            let was = (dropped l.of l.id l.date).0 (subst (λ v. HasPair (at new v) l.of l.id l.date) e has) in
            (subst (λ v. HasPair (at old v) l.of l.id l.date) (sym e) was.0, λ same. was.1 (same.1, same.2)),
        λ was. subst (λ v. HasPair (at new v) l.of l.id l.date) (sym e) ((dropped l.of l.id l.date).1
            (subst (λ v. HasPair (at old v) l.of l.id l.date) e was.0, λ same. was.1 (is ∙ sym e, same.0, same.1))),
      )
      | inr other ↦ (
        λ has. (subst (λ (es : Lists × Lists). HasPair es l.of l.id l.date) (alone l.walk other) has, λ same. other (sym same.0 ∙ is)),
        λ was. subst (λ (es : Lists × Lists). HasPair es l.of l.id l.date) (sym (alone l.walk other)) was.0,
      )
    ]

-- the same of a link that may be none
pub gained_some : (old new : Indexes) (k : Link) (o : Option Link) → o ≡ Some k → HasGainedLink old k new → HasGainedSome old o new
gained_some old new k o is gained l = (
  λ has. elim ((gained l).0 has) [ inl was ↦ inl was | inr same ↦ inr (is ∙ ap Some same) ],
  λ or. (gained l).1 (elim or [ inl was ↦ inl was | inr same ↦ inr (same_Some k l (sym is ∙ same)) ]),
)

pub gained_none : (s : Indexes) (o : Option Link) → o ≡ None → HasGainedSome s o s
gained_none s o is l = (λ has. inl has, λ or. elim or [ inl was ↦ was | inr same ↦ absurd (let e = sym is ∙ same in absurd cc) ])

pub lost_some : (old new : Indexes) (k : Link) (o : Option Link) → o ≡ Some k → HasLostLink old k new → HasLostSome old o new
lost_some old new k o is lost l = (
  λ has. let was = (lost l).0 has in (was.0, λ j e same. was.1 (subst (λ x. SameEnds x l) (sym (same_Some k j (sym is ∙ e))) same)),
  λ was. (lost l).1 (was.0, was.1 k is),
)

pub lost_none : (s : Indexes) (o : Option Link) → o ≡ None → HasLostSome s o s
lost_none s o is l = (λ has. (has, λ k e same. let none = sym is ∙ e in absurd cc), λ was. was.0)

-- ---- delta

turned_ends : (k l : Link) → SameEnds k l → SameEnds l k
turned_ends k l same = (sym same.0, sym same.1, sym same.2)

-- the second of the delta is new beside the first
pub still_new : (old mid : Indexes) (delta : LinkDelta) → IsFresh old delta → HasGainedSome old delta.first mid → (k : Link) → delta.second ≡ Some k → IsNewLink mid k
still_new old mid delta fresh gained k is l same has =
    elim ((gained l).0 has) [ inl was ↦ fresh.new k (inr is) l same was | inr first ↦ fresh.apart l k first is (turned_ends k l same) ]

pub both_gained : (old mid new : Indexes) (delta : LinkDelta) → HasGainedSome old delta.first mid → HasGainedSome mid delta.second new → HasLinkDelta old delta new
both_gained old mid new delta first second l = (
  λ has. elim ((second l).0 has) [
    | inl was ↦ elim ((first l).0 was) [ inl o ↦ inl o | inr told ↦ inr (inl told) ]
    | inr told ↦ inr (inr told)
  ],
  λ or. elim or [
    | inl o ↦ (second l).1 (inl ((first l).1 (inl o)))
    | inr told ↦ elim told [ inl one ↦ (second l).1 (inl ((first l).1 (inr one))) | inr two ↦ (second l).1 (inr two) ]
  ],
)

pub first_undone : (old mid new : Indexes) (delta : LinkDelta) → IsFresh old delta → HasGainedSome old delta.first mid → HasLostSome mid delta.first new → SameLinks old new
first_undone old mid new delta fresh gained lost l = (
  λ has.
      let was = (lost l).0 has in
      elim ((gained l).0 was.0) [ inl o ↦ o | inr told ↦ absurd (was.1 l told (refl, refl, refl)) ],
  λ has. (lost l).1 ((gained l).1 (inl has), λ k e same. fresh.new k (inl e) l same has),
)

pub both_lost : (now mid new : Indexes) (delta : LinkDelta) → HasLostSome now delta.first mid → HasLostSome mid delta.second new → HasLostLinkDelta now delta new
both_lost now mid new delta first second l = (
  λ has.
      let two = (second l).0 has in
      let one = (first l).0 two.0 in
      (one.0, λ k told same. elim told [ inl e ↦ one.1 k e same | inr e ↦ two.1 k e same ]),
  λ was. (second l).1 ((first l).1 (was.0, λ k e. was.1 k (inl e)), λ k e. was.1 k (inr e)),
)

pub same_links : (s t : Indexes) → t ≡ s → SameLinks s t
same_links s t e l = (λ has. subst (λ x. HasLink x l) e has, λ has. subst (λ x. HasLink x l) (sym e) has)

-- ---- what is frozen

-- the frozen pairs of an index are there
abbrev pub IsAmong : Lists × Lists → Type 0
IsAmong s = (of id date : ℕ) → HasFrozenPair s of id date → HasPair s of id date

pub frozen_among : (s : Indexes) → IsAmong s.friends → IsAmong s.messages → IsAmong s.replies → IsAmong s.post_likes → IsAmong s.comment_likes → IsAmong s.work → IsAmong s.study → (l : Link) → HasFrozenLink s l → HasLink s l
frozen_among s a b c d e f g l = by l.walk l.of l.id l.date
  where
    by : (w : Walk) (of id date : ℕ) → HasFrozenPair (at s w) of id date → HasPair (at s w) of id date
    by Friends = a
    by Messages = b
    by Replies = c
    by PostLikes = d
    by CommentLikes = e
    by Work = f
    by Study = g

-- the pairs of each walk stay
pub all_same : (s t : Indexes) → SamePairs s.friends t.friends → SamePairs s.messages t.messages → SamePairs s.replies t.replies → SamePairs s.post_likes t.post_likes → SamePairs s.comment_likes t.comment_likes → SamePairs s.work t.work → SamePairs s.study t.study → SameLinks s t
all_same s t a b c d e f g l = (
  λ has. subst (λ ps. Contains ps (l.id, l.date)) (by l.walk l.of) has,
  λ has. subst (λ ps. Contains ps (l.id, l.date)) (sym (by l.walk l.of)) has,
)
  where
    by : (w : Walk) → SamePairs (at s w) (at t w)
    by Friends = a
    by Messages = b
    by Replies = c
    by PostLikes = d
    by CommentLikes = e
    by Work = f
    by Study = g
