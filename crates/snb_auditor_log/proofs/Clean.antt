-- Nothing is wrong with the bytes of a log whose lines say a header and events.
use Rattle.std.proofs.Common.{◌≡◌, ◌∷◌, ◌++◌, ◌∙◌, ◌+◌, ◌≤◌, ℕ, List, [], length, Option, None, Some, refl, sym, ap, subst, inl, inr, arith}
use Rattle.snb_base.specs.FirstOf.{FirstOf, NoneOf}
use Rattle.snb_history.specs.declared.logged.Header.{Header}
use Rattle.snb_history.specs.declared.logged.Logged.{Logged}
use Rattle.snb_schema.specs.declared.limits.TheConstants.{MAX_BYTES}
use Rattle.snb_schema.specs.declared.refusal.Refusal.{Refusal}
use Rattle.snb_schema.specs.Lines.{filled, lines}
use Rattle.snb_input_lines.specs.Laws.{IsExact}
use Rattle.snb_input_lines.specs.Reading.{ReadsLine, Says}
use Rattle.snb_input_lines.proofs.Laws.{says_cut}
use Rattle.snb_input_files.specs.Places.{HasKnown, InputPlace, opening}
use Rattle.snb_input_files.specs.PlaceChecks.{FailsOwn, HasBadColumn, IsBare, HasBadHeader, IsRowTooMany, LacksHeader, LinesRefuse, line_checks}
use Rattle.snb_input_files.proofs.Laws.{says_knows}
use Rattle.snb_runlog.specs.Lines.{log_file, log_language}
use Rattle.snb_auditor_log.specs.Laws.{SaidLogIsClean}
use Rattle.snb_audit_model.specs.LogFiles.{log_checks, log_format}

-- after lines either the header is known or it isn't
known_apart : (ls : List (List ℕ)) (k : Header) → HasKnown None log_language.heads ls None → HasKnown None log_language.heads ls (Some k) → ⊥
known_apart [] k p q = absurd cc
known_apart (l ∷ ls) k p q = let none = p.2 in absurd cc

-- and one is known
known_one : IsExact log_language → (ls : List (List ℕ)) (k j : Header) → HasKnown None log_language.heads ls (Some k) → HasKnown None log_language.heads ls (Some j) → k ≡ j
known_one exact [] k j p q = absurd cc
known_one exact (l ∷ ls) k j p q =
    let first = p.2 in
    let second = q.2 in
    let mine : k ≡ p.0 = cc in
    let other : j ≡ q.0 = cc in
    mine ∙ exact.one_header l p.0 q.0 p.1 q.1 ∙ sym other

module _ (exact : IsExact log_language) (bytes : List ℕ) (few : length bytes ≤ MAX_BYTES) where
  -- a place in the file
  abbrev place : List (List ℕ) → InputPlace
  place before = record (opening log_file 0 0 [] bytes) { before = before }

  module _ (before : List (List ℕ)) (front : List Logged) where
    -- what is known there is what the header said
    knows : (known : Option Header) → Says log_language None 0 before front known → HasKnown None log_language.heads (filled before) known
    knows known says = says_knows log_language before None known 0 front says

    -- what is tried of what a line says
    abbrev said_checks : List ℕ → List {1} (Refusal → Type 0)
    said_checks line =
        HasBadHeader log_format (place before) line ∷ HasBadColumn log_format (place before) line ∷ IsRowTooMany log_format (place before) ∷ FailsOwn log_format (place before) line ∷ []

    -- the header is refused for nothing
    header_good : (line : List ℕ) (k : Header) → Says log_language None 0 before front None → log_language.heads line k → (r : Refusal) → ¬ FirstOf (said_checks line) r
    header_good line k says heads r (inl none) = exact.good_header line k none.1 heads none.2
    header_good line k says heads r (inr (c0, inl column)) = known_apart (filled before) column.0 (knows None says) column.1
    header_good line k says heads r (inr (c0, inr (c1, inl many))) = many.2
    header_good line k says heads r (inr (c0, inr (c1, inr (c2, inl own)))) = own.fails
    header_good line k says heads r (inr (c0, inr (c1, inr (c2, inr none)))) = none.1

    -- nor is an event
    event_good : (line : List ℕ) (n : ℕ) (x : Logged) (k : Header) → Says log_language None 0 before front (Some k) → log_language.spells k n line x → (r : Refusal) → ¬ FirstOf (said_checks line) r
    event_good line n x k says spells r (inl none) = known_apart (filled before) k none.0 (knows (Some k) says)
    event_good line n x k says spells r (inr (c0, inl column)) =
        let same : column.0 ≡ k = known_one exact (filled before) column.0 k column.1 (knows (Some k) says) in
        exact.good_item k n line x column.2 spells (subst (λ (j : Header). log_language.bad_line j line column.2) same column.3)
    event_good line n x k says spells r (inr (c0, inr (c1, inl many))) = many.2
    event_good line n x k says spells r (inr (c0, inr (c1, inr (c2, inl own)))) = own.fails
    event_good line n x k says spells r (inr (c0, inr (c1, inr (c2, inr none)))) = none.1

    -- a line that is read is refused for nothing
    line_good : (line : List ℕ) (n : ℕ) (first : List Logged) (known between : Option Header) → Says log_language None 0 before front known → ReadsLine log_language known n line first between
        → (r : Refusal) → ¬ FirstOf (line_checks log_format (place before) line) r
    line_good [] n first known between says read r (inl large) = let beyond = large.0 in omega (arith, few, beyond)
    line_good [] n first known between says read r (inr rest) = rest.1
    line_good (b ∷ bs) n first known between says read r (inl large) = let beyond = large.0 in omega (arith, few, beyond)
    line_good (b ∷ bs) n first known between says read r (inr (c0, inl marked)) = let plain = read.0.0 in let mark = marked.0 in absurd cc
    line_good (b ∷ bs) n first known between says read r (inr (c0, inr (c1, inl broken))) = broken.0 read.0.1
    line_good (b ∷ bs) n first None between says read r (inr (c0, inr (c1, inr (c2, said)))) = header_good (b ∷ bs) read.1.0 says read.1.1 r said
    line_good (b ∷ bs) n first (Some k) between says read r (inr (c0, inr (c1, inr (c2, said)))) = event_good (b ∷ bs) n read.1.0 k says read.1.1 r said

  module _ (items : List Logged) (head : Header) (says : Says log_language None 0 (lines bytes) items (Some head)) where
    -- no line is refused
    lines_good : (r : Refusal) → ¬ LinesRefuse log_format (opening log_file 0 0 [] bytes) bytes r
    lines_good r f =
        let c = says_cut log_language f.before (f.line ∷ f.after) None (Some head) 0 items (subst (λ (ls : List (List ℕ)). Says log_language None 0 ls items (Some head)) (sym f.splits) says) in
        line_good f.before c.front f.line (0 + length f.before + 1) c.later.0 c.mid c.later.2 c.first c.later.3 r f.fault

    -- the header isn't lacking
    headed : (r : Refusal) → ¬ LacksHeader log_format (opening log_file 0 0 [] bytes) bytes r
    headed r lacks = known_apart (filled (lines bytes)) head lacks.0 (says_knows log_language (lines bytes) None (Some head) 0 items says)

    -- what it says is enough
    enough : (r : Refusal) → ¬ IsBare log_format (opening log_file 0 0 [] bytes) bytes r
    enough r bare = let none = bare.2 in absurd cc

-- nothing is wrong with the file
pub said_log_is_clean : IsExact log_language → SaidLogIsClean
said_log_is_clean exact bytes header logged few says = (lines_good exact bytes few logged header says, (headed exact bytes few logged header says, (enough exact bytes few logged header says, tt)))
