-- What a value is that was taken apart.
use Rattle.std.proofs.Common.{◌≡◌, ◌≢◌, ◌∙◌, ap, sym, subst, List, ℕ, false, Some, None, Option, MatchOption, Result, Err, codes}
use Rattle.std.specs.Prelude.{IsTrue}
use Rattle.serde_json.specs.Data.{Data, member, no_members, number, unsigned}
use Rattle.serde_json.specs.Find.{as_object}
use Rattle.snb_schema.specs.declared.fault.LineFault.{LineFault}
use Rattle.snb_schema.specs.declared.fault.LineFault.TheVariants.{Bad}
use Rattle.snb_schema.specs.declared.op.Line.{Line}
use Rattle.snb_schema.specs.declared.query.Query.{Query}
use Rattle.snb_schema.specs.Faults.{OnBadColumn}
use Rattle.snb_schema.specs.UpdateLines.{IsBadLine}
use Rattle.snb_read_model.specs.Cells.{ByteCell}
use Rattle.snb_validation_cases.specs.CaseFile.{header_data}
use Rattle.snb_validation_cases.specs.Cases.{IsAsk, IsAskOf, IsInsert, IsInsertLine}

-- the bad column of a line that was refused
pub bad_line : (text : List ℕ) (r : Result Line LineFault) (e : LineFault) (column : ℕ) → OnBadColumn r (IsBadLine text) → r ≡ Err e → e ≡ Bad column → IsBadLine text column
bad_line text r e column h is also = rw (is, also) at h

-- what an insert holds under its key
pub one_insert : (d : Data) (held : Data) (line : Line) → as_object d ≡ Some (member (codes "insert") held no_members) → IsInsert d line → IsInsertLine held line
one_insert d held line e x =
    let keys : Some (member (codes "insert") x.held no_members) ≡ Some (member (codes "insert") held no_members) = sym x.keys ∙ e in
    let same : x.held ≡ held = cc in
    subst (λ (h : Data). IsInsertLine h line) same x.is_line

-- what the one value under the key is found to be, the object is
pub insert_found : (d held : Data) → as_object d ≡ Some (member (codes "insert") held no_members) → (found : Option Line) → MatchOption found ((line : Line) → ¬ IsInsertLine held line) (IsInsertLine held)
    → MatchOption found ((line : Line) → ¬ IsInsert d line) (IsInsert d)
insert_found d held e None none = λ line h. none line (one_insert d held line e h)
insert_found d held e (Some line) h = record { held = held; keys = e; is_line = h }

-- what a read holds under its keys
pub one_ask : (d params word held : Data) (query : Query) (reply : List (List (List ByteCell))) → as_object d ≡ Some (member (codes "params") params (member (codes "read") word (member (codes "reply") held no_members)))
    → IsAsk d query reply → IsAskOf params word held query reply
one_ask d params word held query reply e x =
    let keys : Some (member (codes "params") x.params (member (codes "read") x.word (member (codes "reply") x.held no_members))) ≡ Some (member (codes "params") params (member (codes "read") word (member (codes "reply") held no_members))) = sym x.keys ∙ e in
    let first : x.params ≡ params = cc in
    let second : x.word ≡ word = cc in
    let third : x.held ≡ held = cc in
    subst (λ (h : Data). IsAskOf params word h query reply) third (subst (λ (h : Data). IsAskOf params h x.held query reply) second (subst (λ (h : Data). IsAskOf h x.word x.held query reply) first x.asks))

-- what the three values under the keys are found to be, the object is
pub ask_found : (d params word held : Data) → as_object d ≡ Some (member (codes "params") params (member (codes "read") word (member (codes "reply") held no_members)))
    → (found : Option (Query × List (List (List ByteCell)))) → MatchOption found ((query : Query) (reply : List (List (List ByteCell))) → ¬ IsAskOf params word held query reply) (λ ask. IsAskOf params word held ask.0 ask.1)
    → MatchOption found ((query : Query) (reply : List (List (List ByteCell))) → ¬ IsAsk d query reply) (λ ask. IsAsk d ask.0 ask.1)
ask_found d params word held e None none = λ query reply h. none query reply (one_ask d params word held query reply e h)
ask_found d params word held e (Some ask) h = record { params = params; word = word; held = held; keys = e; asks = h }

-- an object without the one key is no header
pub no_header : (d : Data) → ((held : Data) → as_object d ≢ Some (member (codes "cases") held no_members)) → (IsTrue false → d ≡ header_data) × (d ≡ header_data → IsTrue false)
no_header d none = (λ t. absurd cc, λ e. absurd (none (number (unsigned 1)) (ap as_object e)))
