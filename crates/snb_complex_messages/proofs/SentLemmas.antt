-- Rows of messages that were sent, side by side with what they show.
use Rattle.std.proofs.Common.{◌≡◌, ℕ, Bool, List, get_or, refl, ap}
use Rattle.std.proofs.lemmas.Cmp.{back_total, nat_cmp_total, on_total, then_total}
use Rattle.std.proofs.lemmas.List.Elements.{All-filter, All-map, All-weaker}
use Rattle.std.proofs.lemmas.List.Sorted.{IsPermutation-refl}
use Rattle.std.specs.Cmp.{IsTotalOrder}
use Rattle.std.specs.List.{All, AllZip, filter}
use Rattle.std.specs.Ordering.{is_lt}
use Rattle.snb_schema.specs.declared.row.Row.{Row}
use Rattle.snb_graph_integrity.specs.SoundLaws.{NumbersFit}
use Rattle.snb_graph_model.specs.Graphs.{IsGraph}
use Rattle.snb_read_order.proofs.Laws.{answers_from, two_columns}
use Rattle.snb_read_model.specs.declared.sent.Sent.{Sent}
use Rattle.snb_read_model.specs.Cells.{ByteCell}
use Rattle.snb_graph_model.specs.Around.{messages}
use Rattle.snb_read_model.specs.MessageReads.{IsSent, newest_first, messages_of}
use Rattle.snb_read_model.specs.Distance.{IsPerson}
use Rattle.snb_read_model.specs.Order.{ReadAnswers, FirstRows, SortedAndCut, by}
use Rattle.snb_read_lookups.proofs.Laws.{found_person, messages_found, person_at, person_fits, shows}
use Rattle.snb_read_lookups.specs.Found.{IsMessageFound}
use Rattle.snb_complex_messages.proofs.Moves.{All-flat_map}
use Rattle.snb_complex_messages.specs.Found.{IsSentFound, sent_by, sent_first}

pub sent_total : IsTotalOrder sent_first
sent_total = then_total (back_total (on_total (λ (p : Sent). p.date) nat_cmp_total)) (on_total (λ (p : Sent). p.message) nat_cmp_total)

module _ (g : List Row) (graph : IsGraph g) (fit : NumbersFit) where
  -- what persons sent is found
  pub all_sent : (passes : ℕ → Bool) (ps : List (ℕ × ℕ)) → All (λ p. IsPerson g p.0) ps → All (IsSentFound g) (messages_of g passes ps)
  all_sent passes ps all = All-flat_map (λ p. sent_by g passes p.0) (IsSentFound g) ps (λ i e there. (let p = get_or ps i e in let person = all i e there in
      All-map (IsSentFound g) (λ m. record { person = p.0; message = m.0; date = m.1 }) (filter (λ m. passes m.1) (messages g p.0)) (All-filter (λ m. passes m.1) (λ (m : ℕ × ℕ). IsSentFound g (record { person = p.0; message = m.0; date = m.1 })) (messages g p.0)
      (All-weaker (IsMessageFound g) (λ (m : ℕ × ℕ). IsSentFound g (record { person = p.0; message = m.0; date = m.1 })) (λ m found. record { person = person; fits = person_fits g graph fit p.0 person; message = found }) (messages g p.0) (messages_found g graph fit p.0)))))

  pub sent_agree : (x y : Sent) (a b : List ByteCell) → IsSent g x a → IsSent g y b → is_lt (by newest_first a b) ≡ is_lt (sent_first x y)
  sent_agree x y a b r s = rw (r.is, s.is) (ap is_lt (two_columns y.date x.date x.message y.message))

  -- each message has a row
  pub sent_any : (s : Sent) → IsSentFound g s → (a : List ByteCell) × IsSent g s a
  sent_any s f =
      let (p, c, named) = person_at g graph s.person f.person in
      let (m, is) = shows g graph fit s.message f.message.held in
      (_, record { person = p; held = (found_person g graph fit s.person p (named, c)).only; message = m; sent = is; is = refl })

  -- the rows of the latest messages are the answer
  pub sent_answers : (found first : List (Sent)) (answer : List (List ByteCell)) → All (IsSentFound g) found → SortedAndCut sent_first (FirstRows 20) found first → AllZip (IsSent g) first answer
      → ReadAnswers found (IsSent g) newest_first (FirstRows 20) answer
  sent_answers found first answer all taken z =
      answers_from (IsSent g) sent_first newest_first sent_agree (FirstRows 20) found found first answer (IsPermutation-refl found) taken
      (All-weaker (IsSentFound g) (λ s. (a : List ByteCell) × IsSent g s a) sent_any found all) z
