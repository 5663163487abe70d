-- Each query has one reply, as it has one answer.
use Rattle.std.proofs.Common.{◌≡◌, ◌∙◌, ℕ, List, ◌∷◌, refl, subst, sym}
use Rattle.std.specs.List.{AllZip}
use Rattle.snb_graph_integrity.specs.SoundLaws.{MessagesAreOfOneKind, MessagesHaveOneAuthor, MessagesHaveOneRoot, RepliesAreHeld, RequiredEdgesAreThere}
use Rattle.snb_read_order.specs.Laws.{OneFirst, SomeFirst}
use Rattle.snb_read_model.specs.Cells.{ByteCell}
use Rattle.snb_read_model.specs.ComplexReads.{IsAnswer, Stay}
use Rattle.snb_read_model.specs.Replies.{tail_reads}
use Rattle.snb_read_laws.proofs.EachRead.{one_answer, some_answer}
use Rattle.snb_read_laws.proofs.OneAnswers.{same_zip}
use Rattle.snb_read_laws.proofs.SomeAnswers.{some_zip}
use Rattle.snb_read_laws.specs.Laws.{OneReply, SomeReply}

module _ (some : SomeFirst (List ByteCell)) (texts : SomeFirst (List ℕ)) (stays : SomeFirst Stay)
    (one : MessagesAreOfOneKind) (required : RequiredEdgesAreThere) (author : MessagesHaveOneAuthor) (roots : MessagesHaveOneRoot) where
  pub some_reply : SomeReply
  some_reply g q graph sound =
      let (own, answer) = some_answer some texts stays one required author roots g graph sound q in
      let (tail, follow) = some_zip (IsAnswer g) (tail_reads q own) (λ follower c. some_answer some texts stays one required author roots g graph sound follower) in
      (own ∷ tail, record { own = own; tail = tail; is = refl; answer = answer; follow = follow })

module _ (cells : OneFirst (List ByteCell)) (texts : OneFirst (List ℕ)) (stays : OneFirst Stay)
    (authors : MessagesHaveOneAuthor) (roots : MessagesHaveOneRoot) (held : RepliesAreHeld) where
  pub one_reply : OneReply
  one_reply g q a b graph sound f h =
      let own : f.own ≡ h.own = one_answer cells texts stays authors roots held g q f.own h.own graph sound f.answer h.answer in
      let tail : f.tail ≡ h.tail = same_zip (IsAnswer g) (λ follower x y r s. one_answer cells texts stays authors roots held g follower x y graph sound r s) (tail_reads q h.own) f.tail h.tail
      (subst (λ (answer : List (List ByteCell)). AllZip (IsAnswer g) (tail_reads q answer) f.tail) own f.follow) h.follow in
      f.is ∙ (λ i. own i ∷ tail i) ∙ sym h.is
