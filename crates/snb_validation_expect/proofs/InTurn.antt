-- Each case by its place: what the cases before it insert is what the operations of smaller number insert.
use Rattle.std.proofs.Common.{◌≡◌, ◌∷◌, ◌++◌, ◌∙◌, ◌+◌, ℕ, zero, suc, List, [], length, take, Option, Some, refl, sym, ap, ap₂, subst, arith}
use Rattle.std.specs.List.{AllZip, cons_option, filter_map, flat_map}
use Rattle.std.specs.Prelude.{slice_get}
use Rattle.snb_schema.specs.declared.op.Op.{Op}
use Rattle.snb_schema.specs.declared.row.Row.{Row}
use Rattle.snb_history.specs.declared.step.Step.{Step}
use Rattle.snb_schema.specs.Inserts.{rows_of}
use Rattle.snb_plan.specs.declared.plan.Source.{Source}
use Rattle.snb_plan.specs.Plans.{Operation, Plan, Work, queries_in, query_from}
use Rattle.snb_plan.specs.Plans as plans
use Rattle.snb_read_model.specs.Cells.{ByteCell}
use Rattle.snb_workers_replay.specs.Replay.{insert_in, rows_before}
use Rattle.snb_validation_cases.specs.declared.case.Case.{Case}
use Rattle.snb_validation_cases.specs.declared.case.Case.TheVariants.{Ask}
use Rattle.snb_validation_cases.specs.declared.case.CaseAt.{CaseAt}
use Rattle.snb_validation_model.specs.Checks.{count_reads, inserted, rows_of_case}
use Rattle.snb_validation_model.specs.Expected.{AreExpected, IsCaseOf, insert_case}
use Rattle.snb_validation_expect.proofs.OwnLines.{placed}
use Rattle.snb_base.proofs.Laws.{not_empty}

-- the case is of what an operation does, on whatever graph
abbrev pub IsOfWork : Work → Case → Type 0
IsOfWork (plans.InsertWork line) c = c ≡ insert_case line
IsOfWork (plans.AskWork query) c = (reply : List (List (List ByteCell))) × (c ≡ Ask query reply)

abbrev pub IsOf : Operation → Case → Type 0
IsOf o c = IsOfWork o.work c

-- an operation by its parts
abbrev pub operation : Step → Work → Option Source → Operation
operation step work source = record { step = step; work = work; source = source }

-- ---- from places to pairs

pub of_work : (graph : List Row) (w : Work) (c : Case) → IsCaseOf graph w c → IsOfWork w c
of_work graph (plans.InsertWork line) c is = is
of_work graph (plans.AskWork query) c is = (is.0, is.2)

-- where a list has a case at each place
pairs : (operations : List Operation) (cases : List Case) → length cases ≡ length operations
    → ((k : ℕ) (c : Case) → slice_get cases k ≡ Some c → (o : Operation) × (slice_get operations k ≡ Some o) × IsOf o c) → AllZip IsOf operations cases
pairs [] [] e h = tt
pairs [] (c ∷ cases) e h = absurd (omega (arith, e))
pairs (o ∷ operations) [] e h = absurd (omega (arith, e))
pairs (o ∷ operations) (c ∷ cases) e h =
    let first = h zero c refl in
    let same : first.0 ≡ o = (let there = first.1 in cc) in
    (subst (λ (p : Operation). IsOf p c) same first.2, pairs operations cases (omega (arith, e)) (λ k d there. h (suc k) d there))

-- each operation has its case
pub all_of : (base : List Row) (plan : Plan) (cases : List Case) → AreExpected base plan cases → AllZip IsOf plan.operations cases
all_of base plan cases e =
    pairs plan.operations cases e.as_many
    (λ k c there. let x = e.each k c there in (x.operation, x.there, of_work x.graph x.operation.work c x.is))

-- ---- one operation

-- the rows that its case inserts
rows_of_one : (step : Step) (w : Work) (source : Option Source) (c : Case) (more : List Op) → IsOfWork w c
    → rows_of_case c ++ flat_map rows_of more ≡ flat_map rows_of (cons_option (insert_in (Some (operation step w source))) more)
rows_of_one step (plans.InsertWork line) source c more is = ap (λ (d : Case). rows_of_case d ++ flat_map rows_of more) is
rows_of_one step (plans.AskWork query) source c more is = ap (λ (d : Case). rows_of_case d ++ flat_map rows_of more) is.1

-- whether it is a read
read_of_one : (w : Work) (n : ℕ) (c : Case) (cases : List Case) (more : List Operation) → IsOfWork w c → count_reads (placed (n + 1) cases) ≡ length (filter_map (λ (o : Operation). query_from o.work) more)
    → count_reads (record { line = n; case = c } ∷ placed (n + 1) cases) ≡ length (cons_option (query_from w) (filter_map (λ (o : Operation). query_from o.work) more))
read_of_one (plans.InsertWork line) n c cases more is e = ap (λ (d : Case). count_reads (record { line = n; case = d } ∷ placed (n + 1) cases)) is ∙ e
read_of_one (plans.AskWork query) n c cases more is e = ap (λ (d : Case). count_reads (record { line = n; case = d } ∷ placed (n + 1) cases)) is.1 ∙ ap (λ (m : ℕ). suc m) e

-- ---- all operations

-- as many of the cases are reads as of the operations
reads_of : (operations : List Operation) (cases : List Case) (n : ℕ) → AllZip IsOf operations cases → count_reads (placed n cases) ≡ length (filter_map (λ (o : Operation). query_from o.work) operations)
reads_of [] [] n all = refl
reads_of [] (c ∷ cases) n all = absurd all
reads_of (o ∷ operations) [] n all = absurd all
reads_of (o ∷ operations) (c ∷ cases) n all = read_of_one o.work n c cases operations all.0 (reads_of operations cases (n + 1) all.1)

pub as_many_reads : (base : List Row) (plan : Plan) (cases : List Case) → AreExpected base plan cases → length (queries_in plan) ≡ count_reads (placed 2 cases)
as_many_reads base plan cases e = sym (reads_of plan.operations cases 2 (all_of base plan cases e))

-- a case stands at the place that tells how many come before it
pub case_at : (cases : List Case) (n : ℕ) (before rest : List CaseAt) (x : CaseAt) → before ++ x ∷ rest ≡ placed n cases → slice_get cases (length before) ≡ Some x.case
case_at [] n before rest x e = absurd (not_empty before x rest e)
case_at (c ∷ cases) n [] rest x e = let same : x ≡ record { line = n; case = c } = cc in ap (λ (y : CaseAt). Some y.case) (sym same)
case_at (c ∷ cases) n (y ∷ before) rest x e = case_at cases (n + 1) before rest x cc

-- what the cases before it insert
inserted_of : (operations : List Operation) (cases : List Case) (n : ℕ) (before rest : List CaseAt) (x : CaseAt) → AllZip IsOf operations cases → before ++ x ∷ rest ≡ placed n cases
    → inserted before ≡ flat_map rows_of (filter_map (λ (o : Operation). insert_in (Some o)) (take (length before) operations))
inserted_of operations cases n [] rest x all e = refl
inserted_of [] [] n (y ∷ before) rest x all e = absurd (not_empty (y ∷ before) x rest e)
inserted_of [] (c ∷ cases) n (y ∷ before) rest x all e = absurd all
inserted_of (o ∷ operations) [] n (y ∷ before) rest x all e = absurd all
inserted_of (o ∷ operations) (c ∷ cases) n (y ∷ before) rest x all e =
    let same : y ≡ record { line = n; case = c } = cc in
    let more : before ++ x ∷ rest ≡ placed (n + 1) cases = cc in
    ap₂ (λ (z : CaseAt) (l : List Row). rows_of_case z.case ++ l) same (inserted_of operations cases (n + 1) before rest x all.1 more)
    ∙ rows_of_one o.step o.work o.source c (filter_map (λ (p : Operation). insert_in (Some p)) (take (length before) operations)) all.0

pub inserted_before : (base : List Row) (plan : Plan) (cases : List Case) (before rest : List CaseAt) (x : CaseAt) → AreExpected base plan cases → before ++ x ∷ rest ≡ placed 2 cases
    → inserted before ≡ rows_before plan (length before)
inserted_before base plan cases before rest x e splits = inserted_of plan.operations cases 2 before rest x (all_of base plan cases e) splits
