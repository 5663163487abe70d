-- Nothing is wrong with a file whose lines say cases of which none is refused after those before it.
use Rattle.std.proofs.Common.{◌≡◌, ◌∷◌, ◌++◌, ◌∙◌, ◌+◌, ◌≤◌, ℕ, List, [], length, Option, None, Some, refl, sym, ap, subst, inl, inr, arith}
use Rattle.snb_schema.specs.declared.limits.TheConstants.{MAX_BYTES}
use Rattle.snb_schema.specs.declared.refusal.Refusal.{Refusal}
use Rattle.snb_schema.specs.declared.row.Row.{Row}
use Rattle.snb_schema.specs.Lines.{filled, lines}
use Rattle.snb_input_lines.specs.Laws.{IsExact}
use Rattle.snb_input_lines.specs.Reading.{ReadsLine, Says}
use Rattle.snb_input_lines.proofs.Laws.{one_reading, says_cut}
use Rattle.snb_base.specs.FirstOf.{FirstOf, NoneOf}
use Rattle.snb_input_files.specs.Places.{FilesSay, HasKnown, InputPlace, opening}
use Rattle.snb_input_files.specs.PlaceChecks.{FailsOwn, HasBadColumn, IsBare, HasBadHeader, IsRowTooMany, LacksHeader, LinesRefuse, line_checks}
use Rattle.snb_input_files.proofs.Laws.{says_knows}
use Rattle.snb_validation_cases.specs.declared.case.CaseAt.{CaseAt}
use Rattle.snb_validation_cases.specs.CaseFile.{case_language}
use Rattle.snb_validation_model.specs.CasesFile.{IsRefusedAfter, case_format, cases_checks, cases_file, said_cases}

-- after lines either the header is known or it isn't
known_apart : (ls : List (List ℕ)) (k : Unit {0}) → HasKnown None case_language.heads ls None → HasKnown None case_language.heads ls (Some k) → ⊥
known_apart [] k p q = absurd cc
known_apart (l ∷ ls) k p q = let none = p.2 in absurd cc

-- no file before said anything
none_past : (base : List Row) (done : List (List CaseAt)) → FilesSay (case_format base) [] done → done ≡ []
none_past base [] said = refl
none_past base (xs ∷ done) said = absurd said

module _ (base : List Row) (exact : IsExact case_language) (bytes : List ℕ) (few : length bytes ≤ MAX_BYTES) (items : List CaseAt)
    (welcome : (before rest : List CaseAt) (x : CaseAt) (r : Refusal) → before ++ x ∷ rest ≡ items → ¬ IsRefusedAfter base before cases_file x r) where
  -- a place in the file
  abbrev place : List (List ℕ) → InputPlace
  place before = record (opening cases_file 0 0 [] bytes) { before = before }

  module _ (before : List (List ℕ)) (front : List CaseAt) where
    -- what is known there is what the header said
    knows : (known : Option (Unit {0})) → Says case_language None 0 before front known → HasKnown None case_language.heads (filled before) known
    knows known says = says_knows case_language before None known 0 front says

    -- what is tried of what a line says
    abbrev said_checks : List ℕ → List {1} (Refusal → Type 0)
    said_checks line =
        HasBadHeader (case_format base) (place before) line ∷ HasBadColumn (case_format base) (place before) line ∷ IsRowTooMany (case_format base) (place before) ∷ FailsOwn (case_format base) (place before) line ∷ []

    -- what the header says is refused for nothing
    header_good : (line : List ℕ) → Says case_language None 0 before front None → case_language.heads line tt → (r : Refusal) → ¬ FirstOf (said_checks line) r
    header_good line says heads r (inl none) = none.2.0 heads
    header_good line says heads r (inr (c0, inl column)) = known_apart (filled before) column.0 (knows None says) column.1
    header_good line says heads r (inr (c0, inr (c1, inl many))) = many.2
    header_good line says heads r (inr (c0, inr (c1, inr (c2, inl own)))) = known_apart (filled before) own.known (knows None says) (says_knows case_language before None (Some own.known) 0 own.mine own.says)
    header_good line says heads r (inr (c0, inr (c1, inr (c2, inr none)))) = none.1

    -- the own check of a case passes
    own_good : (line : List ℕ) (n : ℕ) (x : CaseAt) (rest : List CaseAt) (k : Unit {0}) → n ≡ length before + 1 → Says case_language None 0 before front (Some k) → case_language.spells k n line x
        → front ++ x ∷ rest ≡ items → (r : Refusal) → ¬ FailsOwn (case_format base) (place before) line r
    own_good line n x rest k here says spells splits r own =
        let mine : own.mine ≡ front = ((one_reading case_language exact).one None (Some own.known) (Some k) 0 before own.mine front own.says says).0 in
        let same : own.item ≡ x = exact.one_item k n line own.item x (subst (λ (m : ℕ). case_language.spells k m line own.item) (sym here) own.spells) spells in
        let done : own.done ≡ [] = none_past base own.done own.said in
        let fails : IsRefusedAfter base (said_cases [] own.mine) cases_file own.item r = subst (λ (ys : List (List CaseAt)). IsRefusedAfter base (said_cases ys own.mine) cases_file own.item r) done own.fails in
        welcome front rest x r splits (subst (λ (y : CaseAt). IsRefusedAfter base front cases_file y r) same (subst (λ (ys : List CaseAt). IsRefusedAfter base ys cases_file own.item r) mine fails))

    -- nor is what another line says
    case_good : (line : List ℕ) (n : ℕ) (x : CaseAt) (rest : List CaseAt) (k : Unit {0}) → n ≡ length before + 1 → Says case_language None 0 before front (Some k) → case_language.spells k n line x
        → front ++ x ∷ rest ≡ items → (r : Refusal) → ¬ FirstOf (said_checks line) r
    case_good line n x rest k here says spells splits r (inl none) = known_apart (filled before) k none.0 (knows (Some k) says)
    case_good line n x rest k here says spells splits r (inr (c0, inl column)) = column.3.0 x.case spells.0
    case_good line n x rest k here says spells splits r (inr (c0, inr (c1, inl many))) = many.2
    case_good line n x rest k here says spells splits r (inr (c0, inr (c1, inr (c2, inl own)))) = own_good line n x rest k here says spells splits r own
    case_good line n x rest k here says spells splits r (inr (c0, inr (c1, inr (c2, inr none)))) = none.1

    -- a line that is read is refused for nothing
    line_good : (line : List ℕ) (n : ℕ) (first later : List CaseAt) (known between : Option (Unit {0})) → n ≡ length before + 1 → Says case_language None 0 before front known
        → ReadsLine case_language known n line first between → items ≡ front ++ (first ++ later) → (r : Refusal) → ¬ FirstOf (line_checks (case_format base) (place before) line) r
    line_good [] n first later known between here says read joined r (inl large) = let beyond = large.0 in omega (arith, few, beyond)
    line_good [] n first later known between here says read joined r (inr rest) = rest.1
    line_good (b ∷ bs) n first later known between here says read joined r (inl large) = let beyond = large.0 in omega (arith, few, beyond)
    line_good (b ∷ bs) n first later known between here says read joined r (inr (c0, inl marked)) = let plain = read.0.0 in let mark = marked.0 in absurd cc
    line_good (b ∷ bs) n first later known between here says read joined r (inr (c0, inr (c1, inl broken))) = broken.0 read.0.1
    line_good (b ∷ bs) n first later None between here says read joined r (inr (c0, inr (c1, inr (c2, said)))) = header_good (b ∷ bs) says read.1.1 r said
    line_good (b ∷ bs) n first later (Some k) between here says read joined r (inr (c0, inr (c1, inr (c2, said)))) =
        case_good (b ∷ bs) n read.1.0 later k here says read.1.1 (sym (joined ∙ ap (λ (xs : List CaseAt). front ++ (xs ++ later)) read.1.2)) r said

  module _ (says : Says case_language None 0 (lines bytes) items (Some tt)) where
    -- no line is refused
    lines_good : (r : Refusal) → ¬ LinesRefuse (case_format base) (opening cases_file 0 0 [] bytes) bytes r
    lines_good r f =
        let c = says_cut case_language f.before (f.line ∷ f.after) None (Some tt) 0 items (subst (λ (ls : List (List ℕ)). Says case_language None 0 ls items (Some tt)) (sym f.splits) says) in
        let number : 0 + length f.before + 1 ≡ length f.before + 1 = omega arith in
        line_good f.before c.front f.line (0 + length f.before + 1) c.later.0 c.later.1 c.mid c.later.2 number c.first c.later.3 (c.joined ∙ ap (λ (xs : List CaseAt). c.front ++ xs) c.later.5) r f.fault

    -- the header isn't lacking
    headed : (r : Refusal) → ¬ LacksHeader (case_format base) (opening cases_file 0 0 [] bytes) bytes r
    headed r lacks = known_apart (filled (lines bytes)) tt lacks.0 (says_knows case_language (lines bytes) None (Some tt) 0 items says)

    -- what it says is enough
    enough : (r : Refusal) → ¬ IsBare (case_format base) (opening cases_file 0 0 [] bytes) bytes r
    enough r bare = let none = bare.2 in absurd cc

    -- nothing is wrong with the file
    pub clean : NoneOf (cases_checks base (Some bytes))
    clean = (lines_good, (headed, (enough, tt)))
