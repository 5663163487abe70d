use Rattle.std.proofs.Common.{◌≡◌, ◌≤◌, ℕ, zero, suc, [], refl, ap, subst, inl, inr, arith}
use Rattle.std.proofs.lemmas.Bool.{cases_lt}
use Rattle.std.specs.List.{Contains}
use Rattle.snb_schema.specs.declared.row.Row.{Row}
use Rattle.snb_schema.specs.declared.row.Row.TheVariants as row
use Rattle.snb_schema.specs.declared.table.Table.{Table}
use Rattle.snb_schema.specs.declared.table.Table.TheVariants as table
use Rattle.snb_schema.specs.RowKeys.{RowKey, row_key}
use Rattle.snb_graph_model.specs.Soundness.{EndsAfter, IsRooted}
use Rattle.snb_graph_model.specs.Worked.{circle}
use Rattle.snb_graph_model.proofs.Laws.{of_each}
use Rattle.snb_graph_model.proofs.worked.below_a_circle.Goals as goal

-- one comment alone replies to a post
to_post : (c p : ℕ) → Contains circle (row.Link table.CommentReplyOfPost c p) → c ≡ 29
to_post c p h = of_each (λ (r : Row). r ≡ row.Link table.CommentReplyOfPost c p → c ≡ 29) circle
    (λ e. absurd cc, (λ e. absurd cc, (λ e. absurd cc, (λ e. absurd cc, (λ e. cc, (λ e. absurd cc, (λ e. absurd cc, (λ e. absurd cc, tt)))))))) _ h refl

-- the others reply to 31 or 32
to_comment : (c p : ℕ) → Contains circle (row.Link table.CommentReplyOfComment c p) → 30 ≤ p
to_comment c p h = of_each (λ (r : Row). r ≡ row.Link table.CommentReplyOfComment c p → 30 ≤ p) circle (
  λ e. absurd cc,
  (
    λ e. absurd cc,
    (
      λ e. absurd cc,
      (
        λ e. absurd cc,
        (
          λ e. absurd cc,
          (λ e. (let q : 32 ≡ p = cc in omega arith), (λ e. (let q : 32 ≡ p = cc in omega arith), (λ e. (let q : 31 ≡ p = cc in omega arith), tt))),
        ),
      ),
    ),
  ),
) _ h refl

-- the id of a key, and its table
same_id : (t u : Table) (m n : ℕ) → ◌≡◌ {A = RowKey} (t, m, 0, []) (u, n, 0, []) → m ≡ n
same_id t u m n e = ap (λ (k : RowKey). k.1) e

same_table : (t u : Table) (m n : ℕ) → ◌≡◌ {A = RowKey} (t, m, 0, []) (u, n, 0, []) → t ≡ u
same_table t u m n e = ap (λ (k : RowKey). k.0) e

-- no comment is below 29
comments : (c : ℕ) (r : Row) → Contains circle r → row_key r ≡ (table.Comment, c, 0, []) → 29 ≤ c
comments c r h = of_each (λ (r : Row). row_key r ≡ (table.Comment, c, 0, []) → 29 ≤ c) circle (
  λ e. omega (arith, same_id table.Comment table.Comment 29 c e),
  (
    λ e. omega (arith, same_id table.Comment table.Comment 30 c e),
    (
      λ e. omega (arith, same_id table.Comment table.Comment 31 c e),
      (
        λ e. omega (arith, same_id table.Comment table.Comment 32 c e),
        (
          λ e. absurd (let q = same_table table.CommentReplyOfPost table.Comment 29 c e in cc),
          (
            λ e. absurd (let q = same_table table.CommentReplyOfComment table.Comment 30 c e in cc),
            (λ e. absurd (let q = same_table table.CommentReplyOfComment table.Comment 31 c e in cc), (λ e. absurd (let q = same_table table.CommentReplyOfComment table.Comment 32 c e in cc), tt)),
          ),
        ),
      ),
    ),
  ),
) r h

-- from 30 on no chain ends at a post
unrooted : (n c : ℕ) → 30 ≤ c → ¬ EndsAfter circle n c
unrooted zero c high h = absurd (omega (arith, to_post c h.0 h.1))
unrooted (suc n) c high h = unrooted n h.0 (to_comment c h.0 h.1) h.2

pub returns : goal.returns
returns c = record {
  held = record { it = _; held = (1, omega arith, refl); keyed = refl };
  loose = λ h. unrooted h.0 30 (omega arith) h.1;
  least = λ other has loose.
      let from : 29 ≤ other = comments other has.it has.held has.keyed in
      elim (cases_lt other 30) [
        | inl low ↦ absurd (let q : 29 ≡ other = omega arith in loose (subst (IsRooted circle) q (0, (5, (4, omega arith, refl)))))
        | inr high ↦ high
      ];
}
