-- A plan as its lanes, lists, reads and schedule show it.
use Rattle.std.proofs.Common.{◌≡◌, ℕ, suc, ◌+◌, ◌<◌, ◌%◌, ◌-◌, Bool, true, false, cond, List, [], ◌∷◌, length, map, count_by, get_or, Option, Some, None, refl, sym, ap, ◌∙◌, subst, arith, mod-lt}
use Rattle.std.specs.Prelude.{filter_map, slice_get, option_map, if◌then◌else◌}
use Rattle.std.specs.List.{cons_option, filter}
use Rattle.std.proofs.lemmas.List.Sums.{length-filter}
use Rattle.std.proofs.lemmas.List.{get_or_default, length-map}
use Rattle.std.proofs.lemmas.Option.{slice_get-get_or, slice_get-map}
use Rattle.snb_schema.specs.declared.op.Line.{Line}
use Rattle.snb_schema.specs.declared.query.Query.{Query}
use Rattle.snb_schema.specs.declared.query.Query.TheVariants.{Is1}
use Rattle.snb_schema.specs.declared.file.FileId.{FileId}
use Rattle.snb_history.specs.declared.step.Step.{Step}
use Rattle.snb_schema.specs.LineLanes.{LineLanes}
use Rattle.snb_schema.specs.QueryLists.{QueryLists, list_of}
use Rattle.snb_history.specs.Schedule.{Schedule, IsPlanned, no_step}
use Rattle.snb_plan.specs.declared.instances.Instance.{Instance}
use Rattle.snb_plan.specs.declared.plan.Source.{Source}
use Rattle.snb_plan.specs.Closed.{Update}
use Rattle.snb_plan.specs.Plans.{AskWork, InsertWork, Operation, Plan, query_from, schedule_of, update_from, updates_in}
use Rattle.snb_plan.specs.Tasks.{IsSource}
use Rattle.snb_plan.specs.Merging.{file_of, lane_of}
use Rattle.snb_plan.specs.Positions.{instance_at, line_at, operation_of, query_at}
use Rattle.snb_plan.specs.Scheduled.{AreKept, AreLines, IsKept, StepsRise, update_at, updates_at}
use Rattle.snb_plan.specs.Instances.{no_instance, no_line}
use Rattle.snb_history.proofs.Laws.{t_rises}

-- the steps of the operations are the steps
pub steps_again : (lanes : LineLanes) (lists : QueryLists) (reads : List Instance) (steps : List Step) → map (λ (o : Operation). o.step) (map (operation_of lanes lists reads) steps) ≡ steps
steps_again lanes lists reads [] = refl
steps_again lanes lists reads (s ∷ steps) = ap (λ (rest : List Step). s ∷ rest) (steps_again lanes lists reads steps)

-- what a contract sees of what is kept
abbrev pub shown : LineLanes → QueryLists → List Instance → Schedule → Plan
shown lanes lists reads schedule = record { kinds = schedule.kinds; operations = map (operation_of lanes lists reads) schedule.steps }

-- the schedule of what is seen is the one that is kept
pub schedule_again : (lanes : LineLanes) (lists : QueryLists) (reads : List Instance) (schedule : Schedule) (plan : Plan) → shown lanes lists reads schedule ≡ plan → schedule ≡ schedule_of plan
schedule_again lanes lists reads schedule plan is =
    ap (λ (steps : List Step). let s : Schedule = record { steps = steps; kinds = schedule.kinds } in s) (sym (steps_again lanes lists reads schedule.steps)) ∙ ap schedule_of is

-- the operation of a number
pub operation_here : (lanes : LineLanes) (lists : QueryLists) (reads : List Instance) (schedule : Schedule) (plan : Plan) (k : ℕ) (d : Step) → shown lanes lists reads schedule ≡ plan → k < length plan.operations
    → slice_get plan.operations k ≡ Some (operation_of lanes lists reads (get_or schedule.steps k d))
operation_here lanes lists reads schedule plan k d is lt =
    subst (λ (p : Plan). k < length p.operations → slice_get p.operations k ≡ Some (operation_of lanes lists reads (get_or schedule.steps k d))) is
    (λ within.
    slice_get-map (operation_of lanes lists reads) schedule.steps k
    ∙ ap (option_map (operation_of lanes lists reads)) (slice_get-get_or schedule.steps k d (omega (arith, within, length-map schedule.steps (operation_of lanes lists reads)))))
    lt

-- what a read and an update do, and where an update comes from
pub asks : (lanes : LineLanes) (lists : QueryLists) (reads : List Instance) (s : Step) → s.query ≡ true → (operation_of lanes lists reads s).work ≡ AskWork (query_at lists (instance_at reads s.place))
asks lanes lists reads s e = λ i. if e i then AskWork (query_at lists (instance_at reads s.place)) else InsertWork (line_at lanes s.lane s.place)

pub inserts : (lanes : LineLanes) (lists : QueryLists) (reads : List Instance) (s : Step) → s.query ≡ false → (operation_of lanes lists reads s).work ≡ InsertWork (line_at lanes s.lane s.place)
inserts lanes lists reads s e = λ i. if e i then AskWork (query_at lists (instance_at reads s.place)) else InsertWork (line_at lanes s.lane s.place)

abbrev source_at : LineLanes → Step → Source
source_at lanes s = record { file = file_of lanes s.lane; line = (line_at lanes s.lane s.place).number }

pub no_source : (lanes : LineLanes) (lists : QueryLists) (reads : List Instance) (s : Step) → s.query ≡ true → (operation_of lanes lists reads s).source ≡ None
no_source lanes lists reads s e = λ i. if e i then None else Some (source_at lanes s)

pub some_source : (lanes : LineLanes) (lists : QueryLists) (reads : List Instance) (s : Step) → s.query ≡ false → (operation_of lanes lists reads s).source ≡ Some (source_at lanes s)
some_source lanes lists reads s e = λ i. if e i then None else Some (source_at lanes s)

-- a line that is read at a place
pub line_read : (lines : List Line) (k : ℕ) (x : Line) → k < length lines → x ≡ get_or lines k x → get_or lines k no_line ≡ x
line_read lines k x lt is = get_or_default lines k no_line x lt ∙ sym is

-- ---- updates

by_query : (lanes : LineLanes) (lists : QueryLists) (reads : List Instance) (s : Step) (b : Bool)
    → update_from s (if b then AskWork (query_at lists (instance_at reads s.place)) else InsertWork (line_at lanes s.lane s.place)) (if b then None else Some (source_at lanes s))
    ≡ (if b then None else Some (record { lane = s.lane; file = file_of lanes s.lane; line = line_at lanes s.lane s.place }))
by_query lanes lists reads s true = refl
by_query lanes lists reads s false = refl

updates_again : (lanes : LineLanes) (lists : QueryLists) (reads : List Instance) (steps : List Step)
    → filter_map (λ (o : Operation). update_from o.step o.work o.source) (map (operation_of lanes lists reads) steps) ≡ updates_at lanes steps
updates_again lanes lists reads [] = refl
updates_again lanes lists reads (s ∷ steps) =
    ap (λ (o : Option Update). cons_option o (filter_map (λ (o : Operation). update_from o.step o.work o.source) (map (operation_of lanes lists reads) steps))) (by_query lanes lists reads s s.query)
    ∙ ap (λ (us : List Update). cons_option (update_at lanes s) us) (updates_again lanes lists reads steps)

-- the updates of what is seen are those of the steps
pub updates_seen : (lanes : LineLanes) (lists : QueryLists) (reads : List Instance) (schedule : Schedule) (plan : Plan) → shown lanes lists reads schedule ≡ plan
    → updates_at lanes schedule.steps ≡ updates_in plan
updates_seen lanes lists reads schedule plan is = sym (updates_again lanes lists reads schedule.steps) ∙ ap updates_in is

-- a line is where each update says
pub lines_kept : (lanes : LineLanes) (lists : QueryLists) (reads : List Instance) (steps : List Step) → AreKept lanes lists reads steps → AreLines lanes steps
lines_kept lanes lists reads steps kept k lt update =
    let one : IsKept lanes lists reads (get_or steps k no_step) = kept k lt in
    record { in_lanes = one.lane update; within = one.place update; at_t = one.line_t update }

-- t never falls along the steps of a schedule
pub planned_rises : (schedule : Schedule) → IsPlanned schedule → StepsRise schedule.steps
planned_rises schedule planned i j d below lt =
    let le = t_rises (get_or schedule.steps i no_step) (get_or schedule.steps j no_step) (planned.ordered i j below lt) in
    let one = ap (λ (s : Step). s.t) (get_or_default schedule.steps i d no_step (omega (arith, below, lt))) in
    let other = ap (λ (s : Step). s.t) (get_or_default schedule.steps j d no_step lt) in
    omega (arith, le, one, other)

-- ---- what an operation of a number does, and where it comes from

shown_length : (lanes : LineLanes) (lists : QueryLists) (reads : List Instance) (schedule : Schedule) (plan : Plan) (k : ℕ) → shown lanes lists reads schedule ≡ plan → k < length plan.operations
    → k < length schedule.steps
shown_length lanes lists reads schedule plan k is lt =
    let size = ap (λ (p : Plan). length p.operations) is in
    omega (arith, lt, size, length-map schedule.steps (operation_of lanes lists reads))

kept_at : (lanes : LineLanes) (lists : QueryLists) (reads : List Instance) (steps : List Step) (k : ℕ) (d : Step) → k < length steps → AreKept lanes lists reads steps
    → IsKept lanes lists reads (get_or steps k d)
kept_at lanes lists reads steps k d lt kept = subst (λ (s : Step). IsKept lanes lists reads s) (get_or_default steps k no_step d lt) (kept k lt)

-- the line that is read is the step's
line_here : (lanes : LineLanes) (lists : QueryLists) (reads : List Instance) (schedule : Schedule) (plan : Plan) (now : List Step) (k : ℕ) (d : Step)
    → shown lanes lists reads schedule ≡ plan → now ≡ schedule.steps → k < length plan.operations → (get_or now k d).query ≡ false → AreKept lanes lists reads schedule.steps
    → (lines : List Line) (line : Line) → lines ≡ lane_of lanes (get_or now k d).lane → line ≡ get_or lines (get_or now k d).place line
    → line ≡ line_at lanes (get_or schedule.steps k d).lane (get_or schedule.steps k d).place
line_here lanes lists reads schedule plan now k d is same lt update kept lines line is_lines is_line =
    let here : (get_or schedule.steps k d).query ≡ false = subst (λ (steps : List Step). (get_or steps k d).query ≡ false) same update in
    let size : k < length schedule.steps = shown_length lanes lists reads schedule plan k is lt in
    let fit : IsKept lanes lists reads (get_or schedule.steps k d) = kept_at lanes lists reads schedule.steps k d size kept in
    is_line ∙ ap (λ (ls : List Line). get_or ls (get_or now k d).place line) is_lines
    ∙ ap (λ (steps : List Step). get_or (lane_of lanes (get_or steps k d).lane) (get_or steps k d).place line) same
    ∙ get_or_default (lane_of lanes (get_or schedule.steps k d).lane) (get_or schedule.steps k d).place line no_line (fit.place here)

pub read_source : (lanes : LineLanes) (lists : QueryLists) (reads : List Instance) (schedule : Schedule) (plan : Plan) (now : List Step) (k : ℕ) (d : Step)
    → shown lanes lists reads schedule ≡ plan → now ≡ schedule.steps → k < length plan.operations → (get_or now k d).query ≡ true → IsSource plan k None
read_source lanes lists reads schedule plan now k d is same lt read =
    let here : (get_or schedule.steps k d).query ≡ true = subst (λ (steps : List Step). (get_or steps k d).query ≡ true) same read in
    (operation_of lanes lists reads (get_or schedule.steps k d), operation_here lanes lists reads schedule plan k d is lt, no_source lanes lists reads (get_or schedule.steps k d) here)

pub line_source : (lanes : LineLanes) (lists : QueryLists) (reads : List Instance) (schedule : Schedule) (plan : Plan) (now : List Step) (k : ℕ) (d : Step)
    → shown lanes lists reads schedule ≡ plan → now ≡ schedule.steps → k < length plan.operations → (get_or now k d).query ≡ false → AreKept lanes lists reads schedule.steps
    → (file : FileId) (lines : List Line) (line : Line) → file ≡ file_of lanes (get_or now k d).lane → lines ≡ lane_of lanes (get_or now k d).lane → line ≡ get_or lines (get_or now k d).place line
    → IsSource plan k (Some (record { file = file; line = line.number }))
line_source lanes lists reads schedule plan now k d is same lt update kept file lines line is_file is_lines is_line =
    let here : (get_or schedule.steps k d).query ≡ false = subst (λ (steps : List Step). (get_or steps k d).query ≡ false) same update in
    let at = line_here lanes lists reads schedule plan now k d is same lt update kept lines line is_lines is_line in
    let source : Some (source_at lanes (get_or schedule.steps k d)) ≡ Some (record { file = file; line = line.number }) =
    λ i. Some (record { file = (ap (λ (steps : List Step). file_of lanes (get_or steps k d).lane) (sym same) ∙ sym is_file) i; line = (sym at i).number }) in
    (operation_of lanes lists reads (get_or schedule.steps k d), operation_here lanes lists reads schedule plan k d is lt, some_source lanes lists reads (get_or schedule.steps k d) here ∙ source)

pub line_task : (lanes : LineLanes) (lists : QueryLists) (reads : List Instance) (schedule : Schedule) (plan : Plan) (now : List Step) (k : ℕ) (d : Step)
    → shown lanes lists reads schedule ≡ plan → now ≡ schedule.steps → k < length plan.operations → (get_or now k d).query ≡ false → AreKept lanes lists reads schedule.steps
    → (lines : List Line) (line : Line) → lines ≡ lane_of lanes (get_or now k d).lane → line ≡ get_or lines (get_or now k d).place line
    → (o : Operation) × (slice_get plan.operations k ≡ Some o) × (o.work ≡ InsertWork line)
line_task lanes lists reads schedule plan now k d is same lt update kept lines line is_lines is_line =
    let here : (get_or schedule.steps k d).query ≡ false = subst (λ (steps : List Step). (get_or steps k d).query ≡ false) same update in
    let at = line_here lanes lists reads schedule plan now k d is same lt update kept lines line is_lines is_line in
    (operation_of lanes lists reads (get_or schedule.steps k d), operation_here lanes lists reads schedule plan k d is lt, inserts lanes lists reads (get_or schedule.steps k d) here ∙ ap InsertWork (sym at))

pub read_task : (lanes : LineLanes) (lists : QueryLists) (reads : List Instance) (schedule : Schedule) (plan : Plan) (now : List Step) (k : ℕ) (d : Step)
    → shown lanes lists reads schedule ≡ plan → now ≡ schedule.steps → k < length plan.operations → (get_or now k d).query ≡ true → AreKept lanes lists reads schedule.steps
    → (one : Instance) (list : List Query) (query : Query) → one ≡ get_or reads (get_or now k d).place one → list ≡ list_of lists one.query
    → query ≡ get_or list ((one.turn - 1) % length list) query
    → (o : Operation) × (slice_get plan.operations k ≡ Some o) × (o.work ≡ AskWork query)
read_task lanes lists reads schedule plan now k d is same lt read kept one list query is_one is_list is_query =
    let here : (get_or schedule.steps k d).query ≡ true = subst (λ (steps : List Step). (get_or steps k d).query ≡ true) same read in
    let size : k < length schedule.steps = shown_length lanes lists reads schedule plan k is lt in
    let fit : IsKept lanes lists reads (get_or schedule.steps k d) = kept_at lanes lists reads schedule.steps k d size kept in
    let instance : one ≡ instance_at reads (get_or schedule.steps k d).place =
    is_one ∙ ap (λ (steps : List Step). get_or reads (get_or steps k d).place one) same ∙ get_or_default reads (get_or schedule.steps k d).place one no_instance (fit.read here) in
    let listed : 0 < length (list_of lists one.query) = subst (λ (j : Instance). 0 < length (list_of lists j.query)) (sym instance) (fit.listed here) in
    let some : 0 < length list = subst (λ (qs : List Query). 0 < length qs) (sym is_list) listed in
    let within : (one.turn - 1) % length list < length list = mod-lt (one.turn - 1) some in
    let asked : query ≡ query_at lists one =
    is_query ∙ get_or_default list ((one.turn - 1) % length list) query (Is1 0) within ∙ ap (λ (qs : List Query). get_or qs ((one.turn - 1) % length qs) (Is1 0)) is_list in (
      operation_of lanes lists reads (get_or schedule.steps k d),
      operation_here lanes lists reads schedule plan k d is lt,
      asks lanes lists reads (get_or schedule.steps k d) here ∙ ap AskWork (ap (query_at lists) (sym instance) ∙ sym asked),
    )

-- ---- how many there are

asks_query : (lanes : LineLanes) (lists : QueryLists) (reads : List Instance) (s : Step) (b : Bool)
    → query_from (if b then AskWork (query_at lists (instance_at reads s.place)) else InsertWork (line_at lanes s.lane s.place)) ≡ (if b then Some (query_at lists (instance_at reads s.place)) else None)
asks_query lanes lists reads s true = refl
asks_query lanes lists reads s false = refl

-- what one step adds to a list, where it is a read's, and where it isn't
one_more : {X : Type 0} (x : X) (s : Step) (b : Bool) (xs : List X) (ss : List Step) → length xs ≡ length ss
    → length (cons_option (if b then Some x else None) xs) ≡ length (cond b (s ∷ ss) ss)
one_more x s true xs ss e = ap suc e
one_more x s false xs ss e = e

other_more : {X : Type 0} (x : X) (s : Step) (b : Bool) (xs : List X) (ss : List Step) (n : ℕ) → length xs + length ss ≡ n
    → length (cons_option (if b then None else Some x) xs) + length (cond b (s ∷ ss) ss) ≡ suc n
other_more x s true xs ss n e = omega (arith, e)
other_more x s false xs ss n e = omega (arith, e)

queries_filtered : (lanes : LineLanes) (lists : QueryLists) (reads : List Instance) (steps : List Step)
    → length (filter_map (λ (o : Operation). query_from o.work) (map (operation_of lanes lists reads) steps)) ≡ length (filter (λ (s : Step). s.query) steps)
queries_filtered lanes lists reads [] = refl
queries_filtered lanes lists reads (s ∷ steps) =
    let rest = filter_map (λ (o : Operation). query_from o.work) (map (operation_of lanes lists reads) steps) in
    ap (λ (o : Option Query). length (cons_option o rest)) (asks_query lanes lists reads s s.query)
    ∙ one_more (query_at lists (instance_at reads s.place)) s s.query rest (filter (λ (t : Step). t.query) steps) (queries_filtered lanes lists reads steps)

updates_filtered : (lanes : LineLanes) (steps : List Step) → length (updates_at lanes steps) + length (filter (λ (s : Step). s.query) steps) ≡ length steps
updates_filtered lanes [] = refl
updates_filtered lanes (s ∷ steps) =
    other_more (record { lane = s.lane; file = file_of lanes s.lane; line = line_at lanes s.lane s.place }) s s.query (updates_at lanes steps) (filter (λ (t : Step). t.query) steps) (length steps)
    (updates_filtered lanes steps)

-- the queries of what is seen are as many as the steps of reads
pub queries_counted : (lanes : LineLanes) (lists : QueryLists) (reads : List Instance) (steps : List Step)
    → length (filter_map (λ (o : Operation). query_from o.work) (map (operation_of lanes lists reads) steps)) ≡ count_by (λ (s : Step). s.query) steps
queries_counted lanes lists reads steps = queries_filtered lanes lists reads steps ∙ length-filter (λ (s : Step). s.query) steps

-- the other steps are those of updates
pub updates_counted : (lanes : LineLanes) (steps : List Step) → length (updates_at lanes steps) + count_by (λ (s : Step). s.query) steps ≡ length steps
updates_counted lanes steps = (let all = updates_filtered lanes steps in let reads = length-filter (λ (s : Step). s.query) steps in omega (arith, all, reads))
