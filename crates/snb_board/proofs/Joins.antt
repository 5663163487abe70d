-- How seats are made and joined, and what the last one knows.
use Rattle.std.proofs.Common.{◌≡◌, ◌≢◌, ℕ, zero, suc, ◌+◌, ◌<◌, ◌≤◌, eqb, cond, Bool, List, [], ◌∷◌, ◌++◌, length, set, sym, refl, ap, ◌∙◌, subst, ⊎_elim, inl, arith, eq-eqb, ne_eqb}
use mathlib.Core.Option.{some, some-injective}
use lib.ListN.{get_elem?}
use Rattle.atomic_table.specs.Table.{State, Splits, Joins, opening, Final, Seen}
use Rattle.atomic_table.proofs.Lists.{set_else, at_longer}
use Rattle.snb_history.specs.declared.event.Event.{Event}
use Rattle.snb_history.specs.Schedule.{Schedule}
use Rattle.snb_history.specs.Rules.{IsLegal}
use Rattle.snb_history.proofs.Laws.{IsLegal-nil}
use Rattle.snb_book.specs.Kept.{Kept}
use Rattle.snb_board.specs.declared.view.Part.{Part}
use Rattle.snb_board.specs.declared.view.View.{View}
use Rattle.snb_board.specs.declared.view.Phase.{Phase}
use Rattle.std.specs.Prelude.{Ok}
use Rattle.snb_board.specs.declared.view.Phase.TheVariants.{Idle, Holding, Counted, Raised}
use Rattle.snb_board.specs.Views.{Each, HasWorker, PartOk, ViewOk, Turn, free, held, Home, Stands, IsRuled}
use Rattle.snb_board.specs.ViewSteps.{minting, newcomer, gathered}
use Rattle.snb_board.specs.Parts.{kept, reached, Shows, first_view, spent_view, IsOut, IsShown, number_of}
use Rattle.snb_board.specs.Steps.{IsKnown}
use Rattle.snb_board.proofs.Events.{reached-append}
use Rattle.snb_board.proofs.Parts.{each_set, each_push, Each-map, Each-append, found, has_left, has_right, has_either, differ_both}

abbrev St : Type 0
St = State Home View

-- a part under another owner's name
owned_by : (schedule : Schedule) (history : List Event) (made more : ℕ) (owner owner' : ℕ → ℕ) (reach : ℕ) (ph ph' : Phase) (j i : ℕ) (p : Part) → made ≤ more → (IsShown ph' → IsShown ph) → owner' p.worker ≡ i → PartOk schedule history made owner reach ph j p → PartOk schedule history more owner' reach ph' i p
owned_by schedule history made more owner owner' reach ph ph' j i p le known is ok = record { low = let l = ok.low in omega arith; owned = is; seen = ok.seen; mine = ok.mine; told = ok.told; behind = λ s. ok.behind (known s) }

-- who is idle is not the one that is out
not_out : (s : St) (i id : ℕ) (v : View) → v.phase ≡ Idle → get_elem? s.views id ≡ some v → (u : View) × (get_elem? s.views i ≡ some u) × IsOut u.phase → i ≢ id
not_out s i id v idle at u same =
    let one : u.0 ≡ v = some-injective _ _ (sym u.1 ∙ (ap (get_elem? s.views) same ∙ at)) in
    subst IsOut (ap (λ (x : View). x.phase) one ∙ idle) u.2

mint_stands : (s : St) (a : Kept) (reach : ℕ) (t : Turn) (id : ℕ) (v : View) → v.phase ≡ Idle → get_elem? s.views id ≡ some v → Stands s a reach t
    → Stands record { words = s.words; homes = s.homes; views = set s.views id (minting v) ++ newcomer v ∷ [] } a reach t
mint_stands s a reach free id v idle at st = (st.0, st.1, each_push (λ _ u. u.phase ≡ Idle) (set s.views id (minting v)) (newcomer v) refl (each_set (λ _ u. u.phase ≡ Idle) s.views id (minting v) idle (λ j u _ e. st.2 j u e)), st.3)
mint_stands s a reach (held i) id v idle at st =
    let apart = not_out s i id v idle at (st.2.0, st.2.1, st.2.2) in (
      st.0,
      st.1,
      (st.2.0, at_longer (set s.views id (minting v)) (newcomer v ∷ []) i st.2.0 (set_else s.views id i (minting v) apart ∙ st.2.1), st.2.2, st.2.3, st.2.4),
      λ j u ne e. each_push (λ j u. j ≢ i → u.phase ≡ Idle) (set s.views id (minting v)) (newcomer v) (λ _. refl)
          (each_set (λ j u. j ≢ i → u.phase ≡ Idle) s.views id (minting v) (λ _. idle) (λ j u _ e ne. st.3 j u ne e)) j u e ne,
    )

-- the published word says no less than at the begin
reach_low : (s : St) (a : Kept) (reach : ℕ) (t : Turn) → Stands s a reach t → reached a.schedule [] ≤ reach
reach_low s a reach free st = let is : reach ≡ reached a.schedule a.history = st.3 in let low : reached a.schedule [] ≤ reached a.schedule a.history = reached-append a.schedule [] a.history in omega arith
reach_low s a reach (held i) st = shows_low st.2.0.phase st.2.4
  where
    shows_low : (ph : Phase) → Shows a.schedule ph reach a.history → reached a.schedule [] ≤ reach
    shows_low Idle is = let low : reached a.schedule [] ≤ reached a.schedule a.history = reached-append a.schedule [] a.history in omega arith
    shows_low Holding is = let low : reached a.schedule [] ≤ reached a.schedule a.history = reached-append a.schedule [] a.history in omega arith
    shows_low Counted is = let same : reach ≡ reached a.schedule is.0 = is.3 in let low : reached a.schedule [] ≤ reached a.schedule is.0 = reached-append a.schedule [] is.0 in omega arith
    shows_low Raised is = let low : reached a.schedule [] ≤ reached a.schedule a.history = reached-append a.schedule [] a.history in omega arith

-- the seat that counts the seats makes one more
pub mints : (k : Kept) (id : ℕ) (v : View) → v.phase ≡ Idle → 0 < v.made → v.made < v.workers → Splits (IsRuled k) id v (minting v) (newcomer v)
mints k id v idle counts below s r at =
    let a = r.book in
    let ok = r.each_view id v at in
    let same = ok.same (omega arith) in
    let made = ok.minted counts in
    let mine : r.owner 0 ≡ id = found a.schedule a.history r.made r.owner r.reach v.phase id 0 v.parts ok.parts made.0 in
    let views = set s.views id (minting v) in
    let last = length views in
    let owner : ℕ → ℕ = λ w. cond (eqb w r.made) last (r.owner w) in
    let more = r.made + 1 in
    let old : (ph : Phase) (j : ℕ) (p : Part) → PartOk a.schedule a.history r.made r.owner r.reach ph j p → PartOk a.schedule a.history more owner r.reach ph j p = λ ph j p h.
    owned_by a.schedule a.history r.made more r.owner owner r.reach ph ph j j p (omega arith) (λ known. known) (ap (λ (b : Bool). cond b last (r.owner p.worker)) (ne_eqb p.worker r.made (λ e. let l = h.low in omega arith)) ∙ h.owned) h in record {
      book = a;
      keyed = r.keyed;
      made = more;
      owner = owner;
      turn = r.turn;
      reach = r.reach;
      shown = r.shown;
      wide = r.wide;
      deep = r.deep;
      legal = r.legal;
      short = r.short;
      counted = r.counted;
      room = let m : v.made ≡ r.made = made.1 in let k : v.workers ≡ a.workers = same.1 in omega arith;
      fresh = λ w high. r.fresh w (omega arith);
      stands = mint_stands s a r.reach r.turn id v idle at r.stands;
      each_view = each_push (ViewOk a more owner r.reach) views (newcomer v)
          record {
            same = λ _. same;
            minted = λ no. absurd (omega arith);
            counts = λ has. ⊎_elim (λ (e : v.made ≡ 0). absurd (omega arith)) (λ (no : ⊥). absurd no) has;
            differ = ((λ no. no), tt);
            parts = (
              record {
                low = let m : v.made ≡ r.made = made.1 in omega arith;
                owned = ap (λ (b : Bool). cond b last (r.owner v.made)) (eq-eqb v.made r.made made.1);
                seen = (a.history, refl);
                mine = r.fresh v.made (let m : v.made ≡ r.made = made.1 in omega arith);
                told = omega arith;
                behind = λ _. reach_low s a r.reach r.turn r.stands;
              },
              tt,
            );
          }
          (each_set (ViewOk a more owner r.reach) s.views id (minting v)
          record { same = ok.same; minted = λ _. (made.0, ap (λ (n : ℕ). n + 1) made.1); counts = λ _. omega arith; differ = ok.differ; parts = Each-map (PartOk a.schedule a.history r.made r.owner r.reach v.phase id) (PartOk a.schedule a.history more owner r.reach v.phase id) v.parts (old v.phase id) ok.parts }
          (λ j u apart e. let it = r.each_view j u e in record {
            same = it.same;
            minted = λ counts'. absurd (apart (sym (found a.schedule a.history r.made r.owner r.reach u.phase j 0 u.parts it.parts (it.minted counts').0) ∙ mine));
            counts = it.counts;
            differ = it.differ;
            parts = Each-map (PartOk a.schedule a.history r.made r.owner r.reach u.phase j) (PartOk a.schedule a.history more owner r.reach u.phase j) u.parts (old u.phase j) it.parts;
          }));
    }

join_stands : (s : St) (a : Kept) (reach : ℕ) (t : Turn) (id other : ℕ) (v w : View) → v.phase ≡ Idle → w.phase ≡ Idle → get_elem? s.views id ≡ some v → get_elem? s.views other ≡ some w → Stands s a reach t
    → Stands record { words = s.words; homes = s.homes; views = set (set s.views id (gathered v w)) other spent_view } a reach t
join_stands s a reach free id other v w idle idle' at at' st = (
  st.0,
  st.1,
  each_set (λ _ u. u.phase ≡ Idle) (set s.views id (gathered v w)) other spent_view refl (λ j u _ e. each_set (λ _ u. u.phase ≡ Idle) s.views id (gathered v w) idle (λ j u _ e. st.2 j u e) j u e),
  st.3,
)
join_stands s a reach (held i) id other v w idle idle' at at' st =
    let apart = not_out s i id v idle at (st.2.0, st.2.1, st.2.2) in
    let apart' = not_out s i other w idle' at' (st.2.0, st.2.1, st.2.2) in (
      st.0,
      st.1,
      (st.2.0, set_else (set s.views id (gathered v w)) other i spent_view apart' ∙ (set_else s.views id i (gathered v w) apart ∙ st.2.1), st.2.2, st.2.3, st.2.4),
      λ j u ne e. each_set (λ j u. j ≢ i → u.phase ≡ Idle) (set s.views id (gathered v w)) other spent_view (λ _. refl)
          (λ j u _ e ne. each_set (λ j u. j ≢ i → u.phase ≡ Idle) s.views id (gathered v w) (λ _. idle) (λ j u _ e ne. st.3 j u ne e) j u e ne) j u e ne,
    )

-- the count of seats made goes with worker 0's part
both_minted : (made : ℕ) (v w : View) → (0 < v.made → HasWorker 0 v.parts × (v.made ≡ made)) → (0 < w.made → HasWorker 0 w.parts × (w.made ≡ made)) → (HasWorker 0 v.parts → HasWorker 0 w.parts → ⊥) → 0 < v.made + w.made
    → HasWorker 0 (v.parts ++ w.parts) × (v.made + w.made ≡ made)
both_minted made v w left right one has = by_made v.made w.made refl refl
  where
    by_made : (m n : ℕ) → v.made ≡ m → w.made ≡ n → HasWorker 0 (v.parts ++ w.parts) × (v.made + w.made ≡ made)
    by_made zero n e f = let r = right (omega arith) in (has_right 0 v.parts w.parts r.0, let i = r.1 in omega arith)
    by_made (suc m) zero e f = let l = left (omega arith) in (has_left 0 v.parts w.parts l.0, let i = l.1 in omega arith)
    by_made (suc m) (suc n) e f = absurd (one (left (omega arith)).0 (right (omega arith)).0)

-- a seat takes in what another has seen
pub joins : (k : Kept) (id other : ℕ) (v w : View) → v.phase ≡ Idle → w.phase ≡ Idle → 0 < v.workers → Joins (IsRuled k) id v other w (gathered v w) spent_view
joins k id other v w idle idle' some_workers s r at apart there =
    let a = r.book in
    let ok = r.each_view id v at in
    let at' : get_elem? s.views other ≡ some w = sym (set_else s.views id other (gathered v w) apart) ∙ there in
    let ok' = r.each_view other w at' in
    let same = ok.same some_workers in
    let in_v : (x : ℕ) → HasWorker x v.parts → r.owner x ≡ id = λ x has. found a.schedule a.history r.made r.owner r.reach v.phase id x v.parts ok.parts has in
    let in_w : (x : ℕ) → HasWorker x w.parts → r.owner x ≡ other = λ x has. found a.schedule a.history r.made r.owner r.reach w.phase other x w.parts ok'.parts has in
    let owner : ℕ → ℕ = λ x. cond (eqb (r.owner x) other) id (r.owner x) in
    let keep : (ph : Phase) (j : ℕ) → j ≢ other → (p : Part) → PartOk a.schedule a.history r.made r.owner r.reach ph j p → PartOk a.schedule a.history r.made owner r.reach ph j p = λ ph j ne p h.
    owned_by a.schedule a.history r.made r.made r.owner owner r.reach ph ph j j p (omega arith) (λ known. known) (ap (λ (b : Bool). cond b id (r.owner p.worker)) (ne_eqb (r.owner p.worker) other (λ e. ne (sym h.owned ∙ e))) ∙ h.owned) h in
    let move : (p : Part) → PartOk a.schedule a.history r.made r.owner r.reach w.phase other p → PartOk a.schedule a.history r.made owner r.reach v.phase id p = λ p h.
    owned_by a.schedule a.history r.made r.made r.owner owner r.reach w.phase v.phase other id p (omega arith) (λ _. subst IsShown (sym idle') tt) (ap (λ (b : Bool). cond b id (r.owner p.worker)) (eq-eqb (r.owner p.worker) other h.owned)) h in record {
      book = a;
      keyed = r.keyed;
      made = r.made;
      owner = owner;
      turn = r.turn;
      reach = r.reach;
      shown = r.shown;
      wide = r.wide;
      deep = r.deep;
      legal = r.legal;
      short = r.short;
      counted = r.counted;
      room = r.room;
      fresh = r.fresh;
      stands = join_stands s a r.reach r.turn id other v w idle idle' at at' r.stands;
      each_view = each_set (ViewOk a r.made owner r.reach) (set s.views id (gathered v w)) other spent_view
          record { same = λ no. absurd (omega arith); minted = λ no. absurd (omega arith); counts = λ no. absurd no; differ = tt; parts = tt }
          (λ j u ne e. each_set (λ j u. j ≢ other → ViewOk a r.made owner r.reach j u) s.views id (gathered v w)
          (λ _. record {
            same = λ _. same;
            minted = λ has. both_minted r.made v w ok.minted ok'.minted (λ l r'. apart (sym (in_w 0 r') ∙ in_v 0 l)) has;
            counts = λ has. ⊎_elim (λ (l : HasWorker 0 v.parts). let c = ok.counts l in omega arith) (λ (l : HasWorker 0 w.parts). let c = ok'.counts l in omega arith) (has_either 0 v.parts w.parts has);
            differ = differ_both v.parts w.parts ok.differ ok'.differ (λ x l r'. apart (sym (in_w x r') ∙ in_v x l));
            parts = Each-append (PartOk a.schedule a.history r.made owner r.reach v.phase id) v.parts w.parts
                (Each-map (PartOk a.schedule a.history r.made r.owner r.reach v.phase id) (PartOk a.schedule a.history r.made owner r.reach v.phase id) v.parts (keep v.phase id (λ e. apart (sym e))) ok.parts)
                (Each-map (PartOk a.schedule a.history r.made r.owner r.reach w.phase other) (PartOk a.schedule a.history r.made owner r.reach v.phase id) w.parts move ok'.parts);
          })
          (λ j u _ e ne. let it = r.each_view j u e in record {
            same = it.same;
            minted = it.minted;
            counts = it.counts;
            differ = it.differ;
            parts = Each-map (PartOk a.schedule a.history r.made r.owner r.reach u.phase j) (PartOk a.schedule a.history r.made owner r.reach u.phase j) u.parts (keep u.phase j ne) it.parts;
          })
          j u e ne);
    }

-- a table with an empty book
pub starts : (schedule : Schedule) (workers : ℕ) → 0 < workers → IsRuled (kept schedule workers []) (opening (0 ∷ 0 ∷ reached schedule [] ∷ []) (Ok (kept schedule workers []) ∷ []) (first_view (kept schedule workers [])))
starts schedule workers some_worker = record {
  book = kept schedule workers [];
  keyed = (refl, refl);
  made = 1;
  owner = λ _. 0;
  turn = free;
  reach = reached schedule [];
  shown = refl;
  wide = refl;
  deep = refl;
  legal = IsLegal-nil schedule workers;
  short = omega arith;
  counted = refl;
  room = omega arith;
  fresh = λ w _. refl;
  stands = (refl, refl, (λ j v e. idle j v e), refl);
  each_view = λ j v e. right j v e;
}
  where
    idle : (j : ℕ) (v : View) → get_elem? (first_view (kept schedule workers []) ∷ []) j ≡ some v → v.phase ≡ Idle
    idle zero v e = ap (λ (u : View). u.phase) (sym (some-injective _ _ e))
    idle (suc j) v e = absurd (cc)

    right : (j : ℕ) (v : View) → get_elem? (first_view (kept schedule workers []) ∷ []) j ≡ some v → ViewOk (kept schedule workers []) 1 (λ _. 0) (reached schedule []) j v
    right zero v e = subst (ViewOk (kept schedule workers []) 1 (λ _. 0) (reached schedule []) 0) (some-injective _ _ e)
        record { same = λ _. (refl, refl); minted = λ _. (inl refl, refl); counts = λ _. omega arith; differ = ((λ no. no), tt); parts = (record { low = omega arith; owned = refl; seen = ([], refl); mine = refl; told = omega arith; behind = λ _. omega arith }, tt) }
    right (suc j) v e = absurd (cc)

closed_at : (about : Kept) (s : St) (r : IsRuled about s) (t : Turn) (id : ℕ) (v : View) → v.phase ≡ Idle → 0 < v.workers → ((k : ℕ) → k < v.workers → HasWorker k v.parts) → get_elem? s.views id ≡ some v → Stands s r.book r.reach t
    → (get_elem? s.homes 0 ≡ some (some (Ok r.book))) × (r.reach ≡ reached r.book.schedule r.book.history)
closed_at about s r free id v idle some_part all at st = (st.1, st.3)
closed_at about s r (held i) id v idle some_part all at st =
    let u = st.2.0 in
    let out = r.each_view i u st.2.1 in
    let one = (subst (Each (PartOk r.book.schedule r.book.history r.made r.owner r.reach u.phase i)) st.2.3 out.parts).0 in
    let k = number_of u.parts in
    let low : k < r.made = one.low in
    let room : r.made ≤ r.book.workers = r.room in
    let ok = r.each_view id v at in
    let same : v.workers ≡ r.book.workers = (ok.same some_part).1 in
    let mine : r.owner k ≡ id = found r.book.schedule r.book.history r.made r.owner r.reach v.phase id k v.parts ok.parts (all k (omega arith)) in
    absurd (not_out s i id v idle at (u, st.2.1, st.2.2) (sym one.owned ∙ mine))

-- who has all workers' parts finds the book, and each part is of its history
pub closes : (about : Kept) (id : ℕ) (v : View) (ws : List ℕ) (xs : List Home) → v.phase ≡ Idle → 0 < v.workers → ((k : ℕ) → k < v.workers → HasWorker k v.parts) → Final (Seen (IsRuled about) id v) ws xs
    → (a : Kept) × (get_elem? xs 0 ≡ some (Ok a)) × (a.schedule ≡ v.schedule) × (a.workers ≡ v.workers) × IsLegal a.schedule a.workers a.history × Each (IsKnown a.schedule a.history) v.parts
closes about id v ws xs idle some_part all f =
    let s = f.0 in
    let r = f.1.0 in
    let at = f.1.1 in
    let ok = r.each_view id v at in
    let closed = closed_at about s r r.turn id v idle some_part all at r.stands in
    let up : r.reach ≡ reached r.book.schedule r.book.history = closed.1 in
    let same = ok.same some_part in (
      r.book,
      f.4 0 (Ok r.book) closed.0,
      sym same.0,
      sym same.1,
      r.legal,
      Each-map (PartOk r.book.schedule r.book.history r.made r.owner r.reach v.phase id) (IsKnown r.book.schedule r.book.history) v.parts (λ p h. (h.seen, h.mine, let t = h.told in omega arith)) ok.parts,
    )

pub starts_as : (items : List Home) (book : Kept) (reach : ℕ) (schedule : Schedule) (workers : ℕ) → 0 < workers → items ≡ Ok (kept schedule workers []) ∷ [] → book ≡ kept schedule workers [] → reach ≡ reached schedule []
    → IsRuled book (opening (0 ∷ 0 ∷ reach ∷ []) items (first_view book))
starts_as items book reach schedule workers some_worker slots is far = subst (λ (x : List Home × (Kept × ℕ)). IsRuled x.1.0 (opening (0 ∷ 0 ∷ x.1.1 ∷ []) x.0 (first_view x.1.0))) (λ i. (sym slots i, (sym is i, sym far i))) (starts schedule workers some_worker)
