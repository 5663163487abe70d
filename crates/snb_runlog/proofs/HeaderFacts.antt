-- Fields that are a header, and others.
use Rattle.std.proofs.Common.{◌≡◌, ◌∙◌, ◌+◌, ◌≤◌, ◌⊎◌, ℕ, suc, List, [], ◌∷◌, length, drop, codes, refl, sym, ap, subst, inl, inr, arith}
use Rattle.std.proofs.lemmas.Bool.{cases_eq}
use Rattle.snb_base.specs.FirstOf.{NoneOf}
use Rattle.snb_history.specs.declared.logged.Header.{Header}
use Rattle.snb_schema.specs.Lines.{fields}
use Rattle.snb_schema.specs.UpdateLines.{field}
use Rattle.snb_input_lines.specs.Laws.{IsExact}
use Rattle.snb_runlog.specs.Columns.{AreWithin, count_numbers, count_columns, header_columns, header_numbers, log_name, version_column}
use Rattle.snb_runlog.specs.Laws.{HeaderOrColumn, OneHeader}
use Rattle.snb_runlog.specs.Lines.{AreNumbers, IsHeader, IsNoHeader, IsNumber, HasAllColumns, MayHead, NumbersStopAfter, header_checks, log_language}
use Rattle.snb_runlog.proofs.EventFacts.{count_made, event_right, few_counts, first_none, first_one, one_count, one_event}
use Rattle.snb_runlog.proofs.LineFacts.{after_two_long, all_long, from_second, no_stop, numbers_long, numbers_or_stop, numbers_within, one_list, one_stop, second_number}
use Rattle.snb_runlog.proofs.NumberFacts.{column_found, one_number}
use Rattle.snb_base.proofs.Laws.{both, is_at_most, is_text}

-- as many fields as some version has
may_head : (k n : ℕ) → k ≤ 1 → n ≡ suc (suc k) + 1 → (3 ≤ n) × (n ≤ 4)
may_head k n few is = (omega arith, omega arith)

-- the fields of a header are as many as its version has
header_wide : (fs : List (List ℕ)) (head : Header) → IsHeader fs head → HasAllColumns (version_column ∷ header_columns head.version) fs
header_wide fs head s =
    all_long fs (length (version_column ∷ header_columns head.version)) 115 (codes "nblog") s.name (numbers_long (version_column ∷ header_columns head.version) (drop 1 fs) (header_numbers head) s.numbers)

-- headers with the same numbers are one
pub same_header : (a b : Header) → header_numbers a ≡ header_numbers b → a ≡ b
same_header a b e =
    let version : a.version ≡ b.version = cc in
    let workers : a.workers ≡ b.workers = cc in
    let counts : count_numbers a.operations ≡ count_numbers b.operations = cc in
    let operations = one_count a.operations b.operations counts in
    λ i. record { version = version i; workers = workers i; operations = operations i }

-- and fields are one header at most
pub one_header : OneHeader
one_header fs a b s t =
    let p = second_number fs version_column (header_columns a.version) a.version (a.workers ∷ count_numbers a.operations) s.numbers in
    let q = second_number fs version_column (header_columns b.version) b.version (b.workers ∷ count_numbers b.operations) t.numbers in
    let version = one_number version_column (field 1 fs) a.version b.version p.0 q.0 in
    let own = subst (λ (v : ℕ). AreNumbers (version_column ∷ header_columns v) (drop 1 fs) (header_numbers a)) version s.numbers in
    same_header a b (one_list (version_column ∷ header_columns b.version) (drop 1 fs) (header_numbers a) (header_numbers b) own t.numbers)

-- numbers of the columns of a version make a header
header_made : (version : ℕ) (ns : List ℕ) → AreWithin (header_columns version) ns → (head : Header) × (head.version ≡ version) × (header_numbers head ≡ version ∷ ns)
header_made version [] w = absurd w
header_made version (n ∷ ns) w =
    let count = count_made version ns w.2 in
    (record { version = version; workers = n; operations = count.0 }, refl, ap (λ (ms : List ℕ). version ∷ n ∷ ms) count.1)

-- a header with these numbers is that of the fields
pub is_header : (fs : List (List ℕ)) (version : ℕ) (ns : List ℕ) (head : Header) → field 0 fs ≡ log_name → 2 ≤ length fs → IsNumber version_column (field 1 fs) version → AreNumbers (header_columns version) (drop 2 fs) ns
    → header_numbers head ≡ version ∷ ns → IsHeader fs head
is_header fs version ns head name some v s same =
    let is : version ≡ head.version = cc in
    let whole = from_second fs version_column (header_columns version) version ns some v s in
    record {
      name = name;
      numbers = subst (λ (w : ℕ). AreNumbers (version_column ∷ header_columns w) (drop 1 fs) (header_numbers head)) is (subst (AreNumbers (version_column ∷ header_columns version) (drop 1 fs)) (sym same) whole);
    }

-- as many fields as one version that the second spells has are as many as each has
version_wide : (fs : List (List ℕ)) (v w : ℕ) → IsNumber version_column (field 1 fs) v → IsNumber version_column (field 1 fs) w → HasAllColumns (version_column ∷ header_columns v) fs → HasAllColumns (version_column ∷ header_columns w) fs
version_wide fs v w p q wide = subst (λ (u : ℕ). HasAllColumns (version_column ∷ header_columns u) fs) (one_number version_column (field 1 fs) v w p q) wide

header_found : (fs : List (List ℕ)) → ((head : Header) × IsHeader fs head) ⊎ ((column : ℕ) × IsNoHeader fs column)
header_found fs = elim (both (is_at_most 3 (length fs)) (is_at_most (length fs) 4)) [
  | inr other ↦ inr (0, inl (other, refl))
  | inl may ↦ elim (is_text (field 0 fs) log_name) [
    | inr other ↦ inr (1, inr (λ c q. q.0 may, inl (other, refl)))
    | inl name ↦ elim (column_found version_column (field 1 fs)) [
      | inr never ↦ inr (2, inr (λ c q. q.0 may, inr (λ c q. q.0 name, inl (never, refl))))
      | inl v ↦ by_width may name v.0 v.1
    ]
  ]
]
  where
    by_width : MayHead fs → field 0 fs ≡ log_name → (v : ℕ) → IsNumber version_column (field 1 fs) v → ((head : Header) × IsHeader fs head) ⊎ ((column : ℕ) × IsNoHeader fs column)
    by_width may name v is = elim (cases_eq (length fs) (length (version_column ∷ header_columns v) + 1)) [
      | inr other ↦ inr (0, inr (λ c q. q.0 may, inr (λ c q. q.0 name, inr (λ c q. q.0 v is, inl (v, is, other, refl)))))
      | inl wide ↦ elim (numbers_or_stop (header_columns v) (drop 2 fs) (after_two_long fs (length (header_columns v)) wide)) [
        | inl n ↦
            let head = header_made v n.0 (numbers_within (header_columns v) (drop 2 fs) n.0 n.1) in
            inl (head.0, is_header fs v n.0 head.0 name (let low = may.0 in omega arith) is n.1 head.2)
        | inr stop ↦ inr (
          stop.0 + 3,
          inr (λ c q. q.0 may, inr (λ c q. q.0 name, inr (λ c q. q.0 v is, inr (λ c q. q.2 (version_wide fs v q.0 is q.1 wide), inl (v, is, stop.0, stop.1, refl))))),
        )
      ]
    ]

-- fields that are a header pass each check
header_passes : (fs : List (List ℕ)) (head : Header) → IsHeader fs head → NoneOf (header_checks fs)
header_passes fs head s =
    let parts = second_number fs version_column (header_columns head.version) head.version (head.workers ∷ count_numbers head.operations) s.numbers in
    let wide = header_wide fs head s in
    let stopped = λ (v : ℕ) (is : IsNumber version_column (field 1 fs) v) (n : ℕ) (stop : NumbersStopAfter (header_columns v) (drop 2 fs) n).
    (let version = one_number version_column (field 1 fs) v head.version is parts.0 in
    no_stop (header_columns head.version) (drop 2 fs) (head.workers ∷ count_numbers head.operations) parts.1 n (subst (λ (w : ℕ). NumbersStopAfter (header_columns w) (drop 2 fs) n) version stop)) in (
      λ c q. q.0 (may_head (length (count_columns head.version)) (length fs) (few_counts head.version) wide),
      (
        λ c q. q.0 s.name,
        (λ c q. q.0 head.version parts.0, (λ c q. q.2 (version_wide fs head.version q.0 parts.0 q.1 wide), (λ c q. stopped q.0 q.1 q.2 q.3, tt))),
      ),
    )

pub header_right : (fs : List (List ℕ)) (head : Header) (column : ℕ) → IsHeader fs head → ¬ IsNoHeader fs column
header_right fs head column s bad = first_none (header_checks fs) (header_passes fs head s) column bad

one_bad_header : (fs : List (List ℕ)) (a b : ℕ) → IsNoHeader fs a → IsNoHeader fs b → a ≡ b
one_bad_header fs =
    let stops = λ (a b v w m n : ℕ) (p : IsNumber version_column (field 1 fs) v) (q : IsNumber version_column (field 1 fs) w) (s : NumbersStopAfter (header_columns v) (drop 2 fs) m) (t : NumbersStopAfter (header_columns w) (drop 2 fs) n) (x : a ≡ m + 3) (y : b ≡ n + 3).
    (let version = one_number version_column (field 1 fs) w v q p in
    let stop = subst (λ (u : ℕ). NumbersStopAfter (header_columns u) (drop 2 fs) n) version t in
    x ∙ ap (λ k. k + 3) (one_stop (header_columns v) (drop 2 fs) m n s stop) ∙ sym y) in
    first_one (header_checks fs) (
      λ a b p q. p.1 ∙ sym q.1,
      (λ a b p q. p.1 ∙ sym q.1, (λ a b p q. p.1 ∙ sym q.1, (λ a b p q. p.3 ∙ sym q.3, (λ a b p q. stops a b p.0 q.0 p.2 q.2 p.1 q.1 p.3 q.3 p.4 q.4, tt)))),
    )

pub header_or_column : (fs : List (List ℕ)) → HeaderOrColumn fs
header_or_column fs = record { some = header_found fs; right = header_right fs; one = one_bad_header fs }

-- a line says one thing at most, or has a bad column
pub exact : IsExact log_language
exact = record {
  one_header = λ line k j h g. one_header (fields line) k j h g;
  good_header = λ line k column h b. header_right (fields line) k column h b;
  one_item = λ k number line x y g h. one_event k.version (fields line) x y g h;
  good_item = λ k number line x column g b. event_right k.version (fields line) x column g b;
}
