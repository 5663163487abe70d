-- Each step keeps the rule of the table.
use Rattle.std.proofs.Common.{◌≡◌, ◌≢◌, ℕ, zero, suc, inl, ◌+◌, ◌%◌, ◌^◌, ◌<◌, ◌≤◌, eqb, List, [], ◌∷◌, ◌++◌, length, get_or, set, sym, refl, ap, ◌∙◌, subst, arith, length-set, length-append, get_or-set_other, get_or-set_same}
use Rattle.std.proofs.lemmas.List.{set-get_or}
use Rattle.std.proofs.Math.Nat.{mod-eq_of_lt}
use mathlib.Core.Logic.{dite}
use mathlib.Core.Option.{none, some, some-injective}
use native.Mathlib.Decide.{ℕ_discrete}
use lib.ListN.{get_elem?}
use prog.Atomic.{either}
use Rattle.atomic_table.specs.Table.{State, step, Act, keeps, takes, gives, Valid, carried_after, stepped, Allows}
use Rattle.atomic_table.proofs.Lists.{set_here, set_else, set_again, exchanged}
use Rattle.snb_history.specs.declared.event.Event.{Event}
use Rattle.snb_schema.specs.declared.limits.TheConstants.{MAX_TIME}
use Rattle.snb_history.specs.Schedule.{Schedule}
use Rattle.snb_history.specs.Rules.{IsLegal}
use Rattle.snb_book.specs.Kept.{Kept}
use Rattle.snb_board.specs.Boards.{events_of}
use Rattle.snb_board.proofs.Events.{events_of-append, events_of-mine, events_of-push_other, reached-append, reached-small}
use Rattle.snb_board.specs.declared.view.View.{View}
use Rattle.snb_board.specs.declared.view.Phase.{Phase}
use Rattle.std.specs.Prelude.{Ok}
use Rattle.snb_board.specs.declared.view.Phase.TheVariants.{Idle, Holding, Counted, Raised}
use Rattle.snb_board.specs.Views.{Each, PartOk, ViewOk, Turn, free, held, Home, Stands, IsRuled, Sat}
use Rattle.snb_board.specs.ViewSteps.{noted, took, began, counted_one, raised, loaded, passed}
use Rattle.snb_board.specs.Parts.{author, kept, reached, part, viewing, IsOut, IsShown, Shows, seen_of, number_of, told_of, telling, posed, first_view}
use Rattle.snb_board.specs.Steps.{IsSingle}
use Rattle.snb_board.proofs.Parts.{at_set_here, each_set, telling_has, telling_had, telling_differ, parts-posed, own_ok, reach_grows, has_part, posed_ok, others_grow}

abbrev St : Type 0
St = State Home View

-- what a step with this word, number and seat has to give
abbrev Goes : Kept → St → ℕ → ℕ → ℕ → Sat → (Sat → Type 0) → Type 0
Goes k s i n id me told = (w : View) × (a : Act Home) × Valid s.homes me.1 a × IsRuled k (stepped s i n id me.1 w a) × told (w, carried_after me.1 a)

-- a step that changes nothing
still : (k : Kept) (s : St) (r : IsRuled k s) (i id : ℕ) (me : Sat) (told : Sat → Type 0) → get_elem? s.views id ≡ some me.0 → told me → Goes k s i (get_or s.words i 0) id me told
still k s r i id me told at t =
    (me.0, keeps, tt, subst (IsRuled k) (λ x. record { words = sym (set-get_or s.words i 0) x; homes = s.homes; views = sym (set_again s.views id me.0 at) x }) r, t)

-- the seat that is out has the turn
out_held : (s : St) (a : Kept) (reach : ℕ) (t : Turn) (id : ℕ) (v : View) → get_elem? s.views id ≡ some v → IsOut v.phase → Stands s a reach t → t ≡ held id
out_held s a reach free id v at out st = absurd (subst IsOut (st.2 id v at) out)
out_held s a reach (held i) id v at out st = dite (ℕ_discrete id i) (λ e. ap held (sym e)) (λ ne. absurd (subst IsOut (st.3 id v ne at) out))

-- the book of the rule, as the seat with the turn knows it
holder : (k : Kept) (s : St) (r : IsRuled k s) (id : ℕ) (v : View) → get_elem? s.views id ≡ some v → IsOut v.phase → IsSingle v
    → Stands s r.book r.reach (held id) × (seen_of v.parts ≡ r.book.history) × (kept v.schedule v.workers (seen_of v.parts) ≡ r.book) × Shows r.book.schedule v.phase r.reach r.book.history
holder k s r id v at out one =
    let st = subst (Stands s r.book r.reach) (out_held s r.book r.reach r.turn id v at out r.stands) r.stands in
    let is : st.2.0 ≡ v = some-injective _ _ (sym st.2.1 ∙ at) in
    let seen : seen_of v.parts ≡ r.book.history = ap (λ (u : View). seen_of u.parts) (sym is) ∙ ap seen_of st.2.3 in
    let same = (r.each_view id v at).same (has_part v one) in
    (st, seen, (λ x. kept (same.0 x) (same.1 x) (seen x)), subst (λ (u : View). Shows r.book.schedule u.phase r.reach r.book.history) is st.2.4)

-- the turn stays where it is while an idle view changes
idle_stands : (s : St) (a : Kept) (reach : ℕ) (t : Turn) (id : ℕ) (v w : View) → v.phase ≡ Idle → w.phase ≡ Idle → get_elem? s.views id ≡ some v → Stands s a reach t → Stands record { words = s.words; homes = s.homes; views = set s.views id w } a reach t
idle_stands s a reach free id v w idle idle' at st = (st.0, st.1, each_set (λ _ u. u.phase ≡ Idle) s.views id w idle' (λ j u _ e. st.2 j u e), st.3)
idle_stands s a reach (held i) id v w idle idle' at st =
    let apart : i ≢ id = λ same.
    let one : st.2.0 ≡ v = some-injective _ _ (sym st.2.1 ∙ (ap (get_elem? s.views) same ∙ at)) in
    subst IsOut (ap (λ (x : View). x.phase) one ∙ idle) st.2.2 in (
      st.0,
      st.1,
      (st.2.0, set_else s.views id i w apart ∙ st.2.1, st.2.2, st.2.3, st.2.4),
      λ j u ne e. each_set (λ j u. j ≢ i → u.phase ≡ Idle) s.views id w (λ _. idle') (λ j u _ e ne. st.3 j u ne e) j u e ne,
    )

take_at : (k : Kept) (s : St) (r : IsRuled k s) (id : ℕ) (me : Sat) (slots : ℕ) → me.0.phase ≡ Idle → IsSingle me.0 → get_elem? s.views id ≡ some me.0 → get_or s.words 0 0 ≡ 0
    → (t : Turn) → Stands s r.book r.reach t → Goes k s 0 1 id me (took (step slots 0 0 1 none) me (get_or s.words 0 0))
take_at k s r id me slots idle one at zero_found free st =
    let v = me.0 in
    let a = r.book in
    let w = posed Holding a.history v in
    let ok = r.each_view id v at in
    let same = ok.same (has_part v one) in
    let own = own_ok a r.made r.owner r.reach id v one ok in
    let long : length s.words ≡ 3 = r.wide in
    let deep : length s.homes ≡ 1 = r.deep in
    let up : r.reach ≡ reached a.schedule a.history = st.3 in
    let told : told_of v.parts ≤ r.reach = own.told in
    let it : kept v.schedule v.workers a.history ≡ a = λ x. kept (same.0 x) (same.1 x) a.history in (
      w,
      takes 0 (Ok a),
      st.1,
      record {
        book = a;
        keyed = r.keyed;
        made = r.made;
        owner = r.owner;
        turn = held id;
        reach = r.reach;
        wide = length-set s.words 0 1 ∙ r.wide;
        deep = length-set s.homes 0 none ∙ r.deep;
        legal = r.legal;
        short = r.short;
        counted = get_or-set_other s.words 0 1 1 0 (λ e. omega arith) ∙ r.counted;
        room = r.room;
        fresh = r.fresh;
        shown = get_or-set_other s.words 0 2 1 0 (λ e. omega arith) ∙ r.shown;
        stands = (
          get_or-set_same s.words 0 1 0 (omega arith),
          set_here s.homes 0 none (omega arith),
          (w, at_set_here s.views id w v at, tt, parts-posed Holding a.history v one, up),
          (λ j u ne e. each_set (λ j u. j ≢ id → u.phase ≡ Idle) s.views id w (λ no. absurd (no refl)) (λ j u _ e _. st.2 j u e) j u e ne),
        );
        each_view = each_set (ViewOk a r.made r.owner r.reach) s.views id w (posed_ok a a r.made r.owner r.reach r.reach id v Holding one refl refl (omega arith) (λ _. omega arith) ok) (λ j u _ e. r.each_view j u e);
      },
      (
        (λ _. (a.history, own.seen, own.mine, subst (λ (b : Kept). IsLegal b.schedule b.workers a.history) (sym it) r.legal, subst (λ (b : Kept). told_of v.parts ≤ reached b.schedule a.history) (sym it) (omega arith), (λ x. (w, (0, Ok (sym it x)) ∷ me.1)))),
        (λ other. absurd (other zero_found)),
      ),
    )
take_at k s r id me slots idle one at zero_found (held i) st = absurd (let one_found : get_or s.words 0 0 ≡ 1 = st.0 in omega arith)

pub taking : (k : Kept) (slots id : ℕ) (me : Sat) → me.0.phase ≡ Idle → IsSingle me.0 → Allows (IsRuled k) slots id me 0 (λ n. either (eqb n 0) 1 n) (took (step slots 0 0 1 none) me)
taking k slots id me idle one s r _ at _ =
    let n : ℕ = get_or s.words 0 0 in
    let told = took (step slots 0 0 1 none) me n in
    exchanged n 0 1 (λ m. Goes k s 0 m id me told) (λ hit. take_at k s r id me slots idle one at hit r.turn r.stands) (λ miss. still k s r 0 id me told at ((λ hit. absurd (miss hit)), λ _. refl))

-- a phase in which the word shows all of the history
shows_all : (t : Schedule) (ph : Phase) (reach : ℕ) (h : List Event) → IsShown ph → Shows t ph reach h → reach ≡ reached t h
shows_all t Idle reach h is s = s
shows_all t Holding reach h is s = s
shows_all t Counted reach h is s = absurd is
shows_all t Raised reach h is s = s

-- the seat that has the turn passes it, with the book in the slot
pub passing : (k : Kept) (slots id : ℕ) (me : Sat) → IsOut me.0.phase → IsShown me.0.phase → IsSingle me.0 → me.1 ≡ (0, Ok (kept me.0.schedule me.0.workers (seen_of me.0.parts))) ∷ []
    → Allows (IsRuled k) slots id me 0 (λ _. 0) (λ _. passed (step slots 0 0 0 none) me 0)
passing k slots id me out known one has s r _ at _ =
    let v = me.0 in
    let h = holder k s r id v at out one in
    let a = r.book in
    let w = posed Idle (seen_of v.parts) v in
    let long : length s.words ≡ 3 = r.wide in
    let deep : length s.homes ≡ 1 = r.deep in
    let up : r.reach ≡ reached a.schedule a.history = shows_all a.schedule v.phase r.reach a.history known h.3 in
    let Told : List (ℕ × Home) → Type 0 = λ c. Goes k s 0 0 id (v, c) (passed (step slots 0 0 0 none) (v, c) 0) in
    subst Told (sym has) (
      w,
      gives,
      tt,
      record {
        book = a;
        keyed = r.keyed;
        made = r.made;
        owner = r.owner;
        turn = free;
        reach = r.reach;
        wide = length-set s.words 0 0 ∙ r.wide;
        deep = length-set s.homes 0 (some (Ok (kept v.schedule v.workers (seen_of v.parts)))) ∙ r.deep;
        legal = r.legal;
        short = r.short;
        counted = get_or-set_other s.words 0 1 0 0 (λ e. omega arith) ∙ r.counted;
        room = r.room;
        fresh = r.fresh;
        shown = get_or-set_other s.words 0 2 0 0 (λ e. omega arith) ∙ r.shown;
        stands = (
          get_or-set_same s.words 0 0 0 (omega arith),
          set_here s.homes 0 (some (Ok (kept v.schedule v.workers (seen_of v.parts)))) (omega arith) ∙ ap (λ (b : Kept). some (some (Ok b))) h.2,
          each_set (λ _ u. u.phase ≡ Idle) s.views id w refl (λ j u ne e. h.0.3 j u ne e),
          up,
        );
        each_view = each_set (ViewOk a r.made r.owner r.reach) s.views id w
            (subst (λ (l : List Event). ViewOk a r.made r.owner r.reach id (posed Idle l v)) (sym h.1) (posed_ok a a r.made r.owner r.reach r.reach id v Idle one refl refl (omega arith) (λ _. omega arith) (r.each_view id v at)))
            (λ j u _ e. r.each_view j u e);
      },
      refl,
    )

-- the seat that has the turn counts the event that its slot has
pub counting : (k : Kept) (slots id : ℕ) (me : Sat) (x : Home) (e : Event) → me.0.phase ≡ Holding → IsSingle me.0 → author e ≡ number_of me.0.parts
    → IsLegal me.0.schedule me.0.workers (seen_of me.0.parts ++ e ∷ []) → length (seen_of me.0.parts ++ e ∷ []) < 2 ^ 32
    → me.1 ≡ (0, x) ∷ [] → noted x ≡ e ∷ []
    → Allows (IsRuled k) slots id me 1 (λ n. (n + 1) % 2 ^ 64) (λ n. counted_one (step slots 1 1 0 none) me n)
counting k slots id me x e holding one mine legal short has event s r _ at _ =
    let v = me.0 in
    let out : IsOut v.phase = subst IsOut (sym holding) tt in
    let h = holder k s r id v at out one in
    let a = r.book in
    let history = seen_of v.parts ++ e ∷ [] in
    let b = kept v.schedule v.workers history in
    let w = posed Counted history v in
    let same = (r.each_view id v at).same (has_part v one) in
    let more : history ≡ a.history ++ e ∷ [] = ap (λ (l : List Event). l ++ e ∷ []) h.1 in
    let own = own_ok a r.made r.owner r.reach id v one (r.each_view id v at) in
    let low : author e < r.made = subst (λ (n : ℕ). n < r.made) (sym mine) own.low in
    let n : ℕ = get_or s.words 1 0 in
    let len : length history ≡ length a.history + 1 = ap length more ∙ (let g : length (a.history ++ e ∷ []) ≡ length a.history + 1 = omega (arith, length-append a.history (e ∷ [])) in g) in
    let at_count : n ≡ length a.history = r.counted in
    let next : (n + 1) % 2 ^ 64 ≡ length history = mod-eq_of_lt (let g : n + 1 < 2 ^ 64 = omega arith in g) ∙ (let g : n + 1 ≡ length history = omega arith in g) in
    let long : length s.words ≡ 3 = r.wide in
    let up : r.reach ≡ reached v.schedule a.history = subst (λ (t : Schedule). r.reach ≡ reached t a.history) (sym same.0) (subst (λ (ph : Phase). Shows a.schedule ph r.reach a.history) holding h.3) in
    let Told : List (ℕ × Home) → Type 0 = λ c. Goes k s 1 ((n + 1) % 2 ^ 64) id (v, c) (counted_one (step slots 1 1 0 none) (v, c) n) in
    subst Told (sym has) (
      w,
      keeps,
      tt,
      record {
        book = b;
        keyed = (same.0 ∙ r.keyed.0, same.1 ∙ r.keyed.1);
        made = r.made;
        owner = r.owner;
        turn = held id;
        reach = r.reach;
        wide = length-set s.words 1 ((n + 1) % 2 ^ 64) ∙ r.wide;
        deep = r.deep;
        legal = legal;
        short = short;
        counted = get_or-set_same s.words 1 ((n + 1) % 2 ^ 64) 0 (omega arith) ∙ next;
        room = subst (λ (k : ℕ). r.made ≤ k) (sym same.1) r.room;
        fresh = λ k high. ap (events_of k) more ∙ (events_of-push_other k a.history e (λ is. omega arith) ∙ r.fresh k high);
        shown = get_or-set_other s.words 1 2 ((n + 1) % 2 ^ 64) 0 (λ e. omega arith) ∙ r.shown;
        stands = (
          get_or-set_other s.words 1 0 ((n + 1) % 2 ^ 64) 0 (λ e. omega arith) ∙ h.0.0,
          h.0.1,
          (w, at_set_here s.views id w v at, tt, parts-posed Counted history v one, (a.history, e, more, up)),
          (λ j u ne e. each_set (λ j u. j ≢ id → u.phase ≡ Idle) s.views id w (λ no. absurd (no refl)) (λ j u apart e _. h.0.3 j u apart e) j u e ne),
        );
        each_view = each_set (ViewOk b r.made r.owner r.reach) s.views id w
            (posed_ok a b r.made r.owner r.reach r.reach id v Counted one same.0 same.1 (omega arith) (λ no. absurd no) (r.each_view id v at))
            (λ j u apart e'. others_grow a b r.made r.owner r.reach j u e same.0 same.1 more (λ is. apart (sym is ∙ (ap r.owner mine ∙ own.owned))) (r.each_view j u e'));
      },
      (λ i. (posed Counted (seen_of v.parts ++ sym event i) v, (0, x) ∷ [])),
    )

-- the same, as a turn comes to it
pub counting_as : (k : Kept) (slots id : ℕ) (p m : Sat) (x : Home) (b : Kept) (e : Event) → m ≡ (p.0, (0, x) ∷ []) → noted x ≡ e ∷ [] → p.0.phase ≡ Holding → IsSingle p.0 → author e ≡ number_of p.0.parts → b.history ≡ seen_of p.0.parts ++ e ∷ []
    → b ≡ kept p.0.schedule p.0.workers b.history → IsLegal b.schedule b.workers b.history → length b.history < 2 ^ 32 → Allows (IsRuled k) slots id m 1 (λ n. (n + 1) % 2 ^ 64) (λ n. counted_one (step slots 1 1 0 none) m n)
counting_as k slots id p m x b e now event holding one mine more it legal short =
    let history = seen_of p.0.parts ++ e ∷ [] in
    let is : b ≡ kept p.0.schedule p.0.workers history = it ∙ ap (kept p.0.schedule p.0.workers) more in
    subst
    (λ (y : Sat). Allows (IsRuled k) slots id y 1 (λ n. (n + 1) % 2 ^ 64) (λ n. counted_one (step slots 1 1 0 none) y n))
    (sym now)
    (counting k slots id (p.0, (0, x) ∷ []) x e holding one mine
    (subst (λ (a : Kept). IsLegal a.schedule a.workers a.history) is legal)
    (subst (λ (l : List Event). length l < 2 ^ 32) more short)
    refl
    event)

-- the seat that counted an event raises the word
pub raising : (k : Kept) (slots id : ℕ) (me : Sat) (new : ℕ) → me.0.phase ≡ Counted → IsSingle me.0 → new ≡ reached me.0.schedule (seen_of me.0.parts)
    → Allows (IsRuled k) slots id me 2 (λ _. new) (λ _. raised (step slots 2 new 0 none) me new)
raising k slots id me new is_counted one is s r _ at _ =
    let v = me.0 in
    let out : IsOut v.phase = subst IsOut (sym is_counted) tt in
    let h = holder k s r id v at out one in
    let a = r.book in
    let w = posed Raised (seen_of v.parts) v in
    let long : length s.words ≡ 3 = r.wide in
    let same = (r.each_view id v at).same (has_part v one) in
    let late : Shows a.schedule Counted r.reach a.history = subst (λ (ph : Phase). Shows a.schedule ph r.reach a.history) is_counted h.3 in
    let full : new ≡ reached a.schedule a.history = is ∙ (λ k. reached (same.0 k) (h.1 k)) in
    let up : r.reach ≤ new = (let rises = reached-append a.schedule late.0 (late.1 ∷ []) in let whole = ap (reached a.schedule) late.2 in let was : r.reach ≡ reached a.schedule late.0 = late.3 in omega arith) in (
      w,
      keeps,
      tt,
      record {
        book = a;
        keyed = r.keyed;
        made = r.made;
        owner = r.owner;
        turn = held id;
        reach = new;
        wide = length-set s.words 2 new ∙ r.wide;
        deep = r.deep;
        legal = r.legal;
        short = r.short;
        counted = get_or-set_other s.words 2 1 new 0 (λ e. omega arith) ∙ r.counted;
        room = r.room;
        fresh = r.fresh;
        shown = get_or-set_same s.words 2 new 0 (omega arith);
        stands = (
          get_or-set_other s.words 2 0 new 0 (λ e. omega arith) ∙ h.0.0,
          h.0.1,
          (w, at_set_here s.views id w v at, tt, parts-posed Raised (seen_of v.parts) v one ∙ ap (λ (l : List Event). part (number_of w.parts) l (told_of w.parts) ∷ []) h.1, full),
          (λ j u ne e. each_set (λ j u. j ≢ id → u.phase ≡ Idle) s.views id w (λ no. absurd (no refl)) (λ j u apart e _. h.0.3 j u apart e) j u e ne),
        );
        each_view = each_set (ViewOk a r.made r.owner new) s.views id w
            (subst (λ (l : List Event). ViewOk a r.made r.owner new id (posed Raised l v)) (sym h.1) (posed_ok a a r.made r.owner r.reach new id v Raised one refl refl up (λ _. omega arith) (r.each_view id v at)))
            (λ j u _ e. reach_grows a r.made r.owner r.reach new j u up (r.each_view j u e));
      },
      refl,
    )

-- what was published is at most one more than the greatest time
reach_high : (s : St) (a : Kept) (reach : ℕ) (t : Turn) → Stands s a reach t → reach ≤ MAX_TIME + 1
reach_high s a reach free st = subst (λ (n : ℕ). n ≤ MAX_TIME + 1) (sym st.3) (reached-small a.schedule a.history)
reach_high s a reach (held i) st = by_phase st.2.0.phase st.2.4
  where
    high : (h : List Event) → reach ≡ reached a.schedule h → reach ≤ MAX_TIME + 1
    high h is = subst (λ (n : ℕ). n ≤ MAX_TIME + 1) (sym is) (reached-small a.schedule h)

    by_phase : (ph : Phase) → Shows a.schedule ph reach a.history → reach ≤ MAX_TIME + 1
    by_phase Idle is = high a.history is
    by_phase Holding is = high a.history is
    by_phase Counted is = high is.0 is.3
    by_phase Raised is = high a.history is

-- a seat that has no turn loads the word
pub loading : (k : Kept) (slots id : ℕ) (me : Sat) → me.0.phase ≡ Idle → IsSingle me.0 → Allows (IsRuled k) slots id me 2 (λ n. n) (loaded (step slots 2 0 0 none) me)
loading k slots id me idle one s r _ at _ =
    let v = me.0 in
    let a = r.book in
    let n : ℕ = get_or s.words 2 0 in
    let is : n ≡ r.reach = r.shown in
    let ok = r.each_view id v at in
    let own = own_ok a r.made r.owner r.reach id v one ok in
    let told : told_of v.parts ≤ r.reach = own.told in
    let high : r.reach ≤ MAX_TIME + 1 = reach_high s a r.reach r.turn r.stands in
    let same = ok.same (has_part v one) in
    let behind : reached v.schedule (seen_of v.parts) ≤ r.reach = subst (λ (t : Schedule). reached t (seen_of v.parts) ≤ r.reach) (sym same.0) (own.behind (subst IsShown (sym idle) tt)) in
    let w = viewing v.phase v.schedule v.workers v.made (telling n v.parts) in
    let parts : telling n v.parts ≡ part (number_of v.parts) (seen_of v.parts) n ∷ [] = ap (telling n) one.0 in
    let right : ViewOk a r.made r.owner r.reach id w = record {
      same = λ _. ok.same (has_part v one);
      minted = λ has. let m = ok.minted has in (telling_has 0 n v.parts m.0, m.1);
      counts = λ has. ok.counts (telling_had 0 n v.parts has);
      differ = telling_differ n v.parts ok.differ;
      parts = subst (Each (PartOk a.schedule a.history r.made r.owner r.reach v.phase id)) (sym parts) (record { low = own.low; owned = own.owned; seen = own.seen; mine = own.mine; told = omega arith; behind = own.behind }, tt);
    } in (
      w,
      keeps,
      tt,
      subst
          (λ (ws : List ℕ). IsRuled k record { words = ws; homes = s.homes; views = set s.views id w })
          (sym (set-get_or s.words 2 0))
          record {
            book = a;
            keyed = r.keyed;
            made = r.made;
            owner = r.owner;
            turn = r.turn;
            reach = r.reach;
            wide = r.wide;
            deep = r.deep;
            legal = r.legal;
            short = r.short;
            counted = r.counted;
            room = r.room;
            fresh = r.fresh;
            shown = r.shown;
            stands = idle_stands s a r.reach r.turn id v w idle idle at r.stands;
            each_view = each_set (ViewOk a r.made r.owner r.reach) s.views id w right (λ j u _ e. r.each_view j u e);
          },
      (refl, omega arith, omega arith, subst (λ (m : ℕ). m ≤ MAX_TIME + 1) (sym is) high),
    )

-- where there is no event of anybody, there is none
none_left : (h : List Event) → ((w : ℕ) → events_of w h ≡ []) → h ≡ []
none_left [] none_by = refl
none_left (e ∷ h) none_by =
    let own : events_of (author e) (e ∷ h) ≡ e ∷ events_of (author e) h = events_of-append (author e) (e ∷ []) h ∙ ap (λ (l : List Event). l ++ events_of (author e) h) (events_of-mine (author e) e refl) in
    let no_event : [] ≡ e ∷ events_of (author e) h = sym (none_by (author e)) ∙ own in
    absurd (cc)

-- while one seat is made, the turn is free
first_free : (k : Kept) (s : St) (r : IsRuled k s) (id : ℕ) (about : Kept) → get_elem? s.views id ≡ some (first_view about) → (t : Turn) → Stands s r.book r.reach t → t ≡ free
first_free k s r id about at free st = refl
first_free k s r id about at (held i) st =
    let a = r.book in
    let ok = r.each_view id (first_view about) at in
    let u = st.2.0 in
    let one = (subst (Each (PartOk a.schedule a.history r.made r.owner r.reach u.phase i)) st.2.3 (r.each_view i u st.2.1).parts).0 in
    let made : 1 ≡ r.made = (ok.minted (omega arith)).1 in
    let low : number_of u.parts < r.made = one.low in
    let zero_is : number_of u.parts ≡ 0 = omega arith in
    let mine : r.owner 0 ≡ id = ok.parts.0.owned in
    let same : i ≡ id = sym one.owned ∙ (ap r.owner zero_is ∙ mine) in
    let is : u ≡ first_view about = some-injective _ _ (sym st.2.1 ∙ (ap (get_elem? s.views) same ∙ at)) in
    absurd (subst IsOut (ap (λ (x : View). x.phase) is) st.2.2)

begin_at : (k : Kept) (s : St) (r : IsRuled k s) (id slots : ℕ) (about : Kept) → 0 < about.workers → get_elem? s.views id ≡ some (first_view about) → Stands s r.book r.reach free
    → Goes k s 0 1 id (first_view about, []) (began (step slots 0 0 1 none) (first_view about, []) (get_or s.words 0 0))
begin_at k s r id slots about some_worker at st =
    let a = r.book in
    let v = first_view about in
    let ok = r.each_view id v at in
    let own = ok.parts.0 in
    let same = ok.same some_worker in
    let made : 1 ≡ r.made = (ok.minted (omega arith)).1 in
    let nothing : a.history ≡ [] = none_left a.history (λ w. by_worker w own.mine r.fresh made) in
    let book : kept about.schedule about.workers [] ≡ a = (λ i. kept (same.0 i) (same.1 i) (sym nothing i)) in
    let w = viewing Holding about.schedule about.workers 1 (part 0 [] 0 ∷ []) in
    let long : length s.words ≡ 3 = r.wide in
    let deep : length s.homes ≡ 1 = r.deep in
    let up : r.reach ≡ reached a.schedule a.history = st.3 in (
      w,
      takes 0 (Ok a),
      st.1,
      record {
        book = a;
        keyed = r.keyed;
        made = r.made;
        owner = r.owner;
        turn = held id;
        reach = r.reach;
        wide = length-set s.words 0 1 ∙ r.wide;
        deep = length-set s.homes 0 none ∙ r.deep;
        legal = r.legal;
        short = r.short;
        counted = get_or-set_other s.words 0 1 1 0 (λ e. omega arith) ∙ r.counted;
        room = r.room;
        fresh = r.fresh;
        shown = get_or-set_other s.words 0 2 1 0 (λ e. omega arith) ∙ r.shown;
        stands = (
          get_or-set_same s.words 0 1 0 (omega arith),
          set_here s.homes 0 none (omega arith),
          (w, at_set_here s.views id w v at, tt, (λ i. part 0 (sym nothing i) 0 ∷ []), up),
          (λ j u ne e. each_set (λ j u. j ≢ id → u.phase ≡ Idle) s.views id w (λ no. absurd (no refl)) (λ j u _ e _. st.2 j u e) j u e ne),
        );
        each_view = each_set (ViewOk a r.made r.owner r.reach) s.views id w
            record {
              same = λ _. same;
              minted = λ _. (inl refl, made);
              counts = λ _. omega arith;
              differ = ((λ no. no), tt);
              parts = (record { low = own.low; owned = own.owned; seen = own.seen; mine = own.mine; told = own.told; behind = λ _. own.behind tt }, tt);
            }
            (λ j u _ e. r.each_view j u e);
      },
      (st.0, (λ i. (w, (0, Ok (sym book i)) ∷ []))),
    )
  where
    by_worker : (w : ℕ) → events_of 0 r.book.history ≡ [] → ((w : ℕ) → r.made ≤ w → events_of w r.book.history ≡ []) → 1 ≡ r.made → events_of w r.book.history ≡ []
    by_worker zero mine fresh made = mine
    by_worker (suc w) mine fresh made = fresh (suc w) (omega arith)

-- the first seat takes the turn, before any other is made
pub beginning : (k : Kept) (slots id : ℕ) (me : Sat) (about : Kept) → me ≡ (first_view about, []) → 0 < about.workers → Allows (IsRuled k) slots id me 0 (λ n. either (eqb n 0) 1 n) (began (step slots 0 0 1 none) me)
beginning k slots id me about first some_worker =
    subst (λ (m : Sat). Allows (IsRuled k) slots id m 0 (λ n. either (eqb n 0) 1 n) (began (step slots 0 0 1 none) m)) (sym first) (λ s r _ at _.
    let n : ℕ = get_or s.words 0 0 in
    let st = subst (Stands s r.book r.reach) (first_free k s r id about at r.turn r.stands) r.stands in
    exchanged n 0 1 (λ m. Goes k s 0 m id (first_view about, []) (began (step slots 0 0 1 none) (first_view about, []) n)) (λ hit. begin_at k s r id slots about some_worker at st) (λ miss. absurd (miss st.0)))
