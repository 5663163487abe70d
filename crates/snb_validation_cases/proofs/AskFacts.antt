-- What the three values of a read ask.
use Rattle.std.proofs.Common.{◌≡◌, ◌∙◌, sym, subst, List}
use Rattle.serde_json.specs.Data.{Data}
use Rattle.snb_schema.specs.declared.query.Query.{Query}
use Rattle.snb_schema.specs.declared.query.ReadKind.{ReadKind}
use Rattle.snb_schema.specs.ReadKinds.{read_kind_of, read_word}
use Rattle.snb_read_model.specs.Cells.{ByteCell}
use Rattle.snb_validation_cases.specs.Cases.{IsAskOf}
use Rattle.snb_validation_cases.specs.Parameters.{AreOfKind, AreParameters}
use Rattle.snb_validation_cases.specs.Replies.{IsReplyData}
use Rattle.snb_validation_cases.specs.Values.{IsArray, IsString}
use Rattle.snb_validation_cases.proofs.KindFacts.{query_one}
use Rattle.snb_validation_cases.proofs.OneFacts.{text_one}
use Rattle.snb_schema.proofs.Laws.{one_kind}

of_kind : (kind : ReadKind) (params : Data) (query : Query) → kind ≡ read_kind_of query → IsArray AreParameters params query → IsArray (AreOfKind kind) params query
of_kind kind params query same (ds, is, all) = (ds, is, (same, all))

has_kind : (kind : ReadKind) (params : Data) (query : Query) → IsArray (AreOfKind kind) params query → kind ≡ read_kind_of query
has_kind kind params query (ds, is, (same, all)) = same

parameters : (kind : ReadKind) (params : Data) (query : Query) → IsArray (AreOfKind kind) params query → IsArray AreParameters params query
parameters kind params query (ds, is, (same, all)) = (ds, is, all)

pub no_query : (params word held : Data) (kind : ReadKind) → IsString word (read_word kind) → ((query : Query) → ¬ IsArray (AreOfKind kind) params query) → (query : Query) (reply : List (List (List ByteCell))) → ¬ IsAskOf params word held query reply
no_query params word held kind is none query reply h = none query (of_kind kind params query (one_kind kind (read_kind_of query) (text_one word (read_word kind) (read_word (read_kind_of query)) is h.0)) h.1)

pub no_reply : (params word held : Data) (kind : ReadKind) (found : Query) → IsString word (read_word kind) → IsArray (AreOfKind kind) params found → ((reply : List (List (List ByteCell))) → ¬ IsReplyData found held reply)
    → (query : Query) (reply : List (List (List ByteCell))) → ¬ IsAskOf params word held query reply
no_reply params word held kind found is are none query reply h =
    let alike = sym (has_kind kind params found are) ∙ one_kind kind (read_kind_of query) (text_one word (read_word kind) (read_word (read_kind_of query)) is h.0) in
    let same = query_one params found query alike (parameters kind params found are) h.1 in
    none reply (subst (λ (q : Query). IsReplyData q held reply) (sym same) h.2)
