-- The files of a series, looked for one after the other.
use Rattle.std.proofs.Common.{◌≡◌, ◌∙◌, ◌+◌, ◌-◌, ◌^◌, ◌<◌, ◌≤◌, ℕ, zero, suc, Bool, List, [], ◌∷◌, ◌++◌, Option, Some, None, Ok, Err, refl, sym, ap, subst, inl, arith, append_assoc, append-nil}
use Rattle.snb_base.specs.Shelf.{Files}
use Rattle.snb_schema.specs.declared.file.FileId.{FileId}
use Rattle.snb_schema.specs.declared.refusal.Counted.{Counted}
use Rattle.snb_schema.specs.declared.refusal.Refusal.{Refusal}
use Rattle.snb_schema.specs.declared.refusal.Refusal.TheVariants as refusal
use Rattle.snb_input_files.specs.declared.load.Load.{Load}
use Rattle.snb_input_files.specs.declared.load.Load.TheVariants.{Refused, ReadFault, Memory}
use Rattle.snb_input_files.specs.declared.series.Series.{Series}
use Rattle.snb_input_files.specs.declared.walk.Walk.{Walk}
use Rattle.snb_base.specs.FirstOf.{FirstOf}
use Rattle.snb_input_lines.specs.Sinks.{Heard}
use Rattle.snb_input_files.specs.Format.{Format}
use Rattle.snb_input_files.specs.Looking.{Agrees, AreTold, IsFileTold, IsLook, IsSeries, Rises, look_of}
use Rattle.snb_input_files.specs.Places.{FilesSay}
use Rattle.snb_input_files.specs.Ranks.{rank}
use Rattle.snb_input_files.specs.Stages.{Walked}
use Rattle.snb_input_files.specs.Walk.{Before, Held, Look, Role, after_walk, file_at, first_role, look_beyond, looks_from, series_looks, walk_checks}
use Rattle.snb_input_files.specs.Walk.Role.{Further, Beyond}
use Rattle.snb_input_files.proofs.WalkFacts.{after_append, agrees_back, agrees_front, rises_append, rises_wider, snoc_first, snoc_none, told_append, told_one}

-- the looks from one number on, by what the file of that number is
module _ (held : Held) (s : Series) where
  pub from_some : (n i : ℕ) (role : Role) (b : List ℕ) → held (file_at s i) ≡ Some b → looks_from held s (suc n) i role ≡ look_of (file_at s i) role (Some b) ∷ looks_from held s n (i + 1) Further
  unfolding looks_from
  from_some n i role b e = ap (λ (o : Option (List ℕ)). look_of (file_at s i) role o ∷ (elim o [ None ↦ [] | Some b ↦ looks_from held s n (i + 1) Further ])) e

  pub from_none : (n i : ℕ) (role : Role) → held (file_at s i) ≡ None → looks_from held s (suc n) i role ≡ look_of (file_at s i) role None ∷ []
  unfolding looks_from
  from_none n i role e = ap (λ (o : Option (List ℕ)). look_of (file_at s i) role o ∷ (elim o [ None ↦ [] | Some b ↦ looks_from held s n (i + 1) Further ])) e

  pub from_zero : (i : ℕ) (role : Role) (what : Option Counted) → s.what ≡ what → looks_from held s zero i role ≡ look_beyond held s i what
  unfolding looks_from
  from_zero i role what e = ap (look_beyond held s i) e

  pub from_any : (n i : ℕ) (role : Role) (o : Option (List ℕ)) → held (file_at s i) ≡ o → (rest : List Look) × (looks_from held s (suc n) i role ≡ look_of (file_at s i) role o ∷ rest)
  from_any n i role None e = ([], from_none n i role e)
  from_any n i role (Some b) e = (looks_from held s n (i + 1) Further, from_some n i role b e)

  pub from_start : series_looks held s ≡ looks_from held s s.most 0 (first_role s.needed)
  unfolding series_looks
  from_start = refl

-- what is left of a count
left_one : (most i : ℕ) → i < most → most - i ≡ suc (most - (i + 1))
left_one most i h = omega arith

left_none : (most i : ℕ) → most ≤ i → most - i ≡ 0
left_none most i h = omega arith

left_all : (most : ℕ) → most ≡ most - 0
left_all most = omega arith

module _ {P K T : Type 0} (g : Format K T) (heard : Heard P T) (contents : Option Files) (folder : List ℕ) (s : Series) (start : Before) (looked : List Look) where
  -- the files of the series up to one number were looked for
  pub record Along (part : ℕ) (role : Role) (w : Walk P) : Type 0 where
    pub ls : List Look
    pub told : AreTold contents folder ls
    pub rises : Rises (rank (file_at s 0)) ls (rank (file_at s part))
    pub all : (held : Held) → Agrees held ls → series_looks held s ≡ ls ++ looks_from held s (s.most - part) part role
    pub walked : Walked g heard start (looked ++ ls) w

  nothing_told : (c : Option Files) → AreTold c folder []
  nothing_told None = tt
  nothing_told (Some files) = tt

  pub along_first : (w : Walk P) → Walked g heard start looked w → Along 0 (first_role s.needed) w
  along_first w k = record {
    ls = [];
    told = nothing_told contents;
    rises = omega arith;
    all = λ held a. from_start held s ∙ ap (λ n. looks_from held s n 0 (first_role s.needed)) (left_all s.most);
    walked = subst (λ (ls : List Look). Walked g heard start ls w) (sym (append-nil looked)) k;
  }

  module _ (part : ℕ) (role : Role) (w : Walk P) (k : Along part role w) where
    file : FileId
    file = file_at s part

    -- one look more
    told_snoc : (r : Role) (o : Option (List ℕ)) → IsFileTold contents folder (file_at s part) o → AreTold contents folder (k.ls ++ look_of (file_at s part) r o ∷ [])
    told_snoc r o t = told_append contents folder k.ls (look_of (file_at s part) r o ∷ []) k.told (told_one contents folder (file_at s part) r o t)

    rises_snoc : (r : Role) (o : Option (List ℕ)) → Rises (rank (file_at s 0)) (k.ls ++ look_of (file_at s part) r o ∷ []) (rank (file_at s (part + 1)))
    rises_snoc r o = rises_append k.ls (look_of (file_at s part) r o ∷ []) (rank (file_at s 0)) (rank (file_at s part)) (rank (file_at s (part + 1))) k.rises (omega arith, omega arith)

    found_at : (held : Held) (r : Role) (o : Option (List ℕ)) → Agrees held (k.ls ++ look_of (file_at s part) r o ∷ []) → held (file_at s part) ≡ o
    found_at held r o a = (agrees_back held k.ls (look_of (file_at s part) r o ∷ []) a).0

    before : (held : Held) (r : Role) (o : Option (List ℕ)) → Agrees held (k.ls ++ look_of (file_at s part) r o ∷ []) → series_looks held s ≡ k.ls ++ looks_from held s (s.most - part) part role
    before held r o a = k.all held (agrees_front held k.ls (look_of (file_at s part) r o ∷ []) a)

    snoc_again : (l : Look) (ms : List Look) → looked ++ (k.ls ++ l ∷ ms) ≡ (looked ++ k.ls) ++ l ∷ ms
    snoc_again l ms = sym (append_assoc looked k.ls (l ∷ ms))

    joined : (l : Look) (ms : List Look) → k.ls ++ l ∷ ms ≡ (k.ls ++ l ∷ []) ++ ms
    joined l ms = sym (append_assoc k.ls (l ∷ []) ms)

    -- the next file is there
    pub along_more : (b : List ℕ) (next : Walk P) → part < s.most → IsFileTold contents folder (file_at s part) (Some b) → Walked g heard start ((looked ++ k.ls) ++ look_of (file_at s part) role (Some b) ∷ []) next → Along (part + 1) Further next
    along_more b next fits t walked = record {
      ls = k.ls ++ look_of (file_at s part) role (Some b) ∷ [];
      told = told_snoc role (Some b) t;
      rises = rises_snoc role (Some b);
      all = λ held a.
          before held role (Some b) a
          ∙ ap (λ n. k.ls ++ looks_from held s n part role) (left_one s.most part fits)
          ∙ ap (λ (ms : List Look). k.ls ++ ms) (from_some held s (s.most - (part + 1)) part role b (found_at held role (Some b) a))
          ∙ joined (look_of (file_at s part) role (Some b)) (looks_from held s (s.most - (part + 1)) (part + 1) Further);
      walked = subst (λ (ls : List Look). Walked g heard start ls next) (sym (snoc_again (look_of (file_at s part) role (Some b)) [])) walked;
    }

    within_series : (r : Role) (o : Option (List ℕ)) → part ≤ s.most → s.most < 2 ^ 32 → Rises (rank (file_at s 0)) (k.ls ++ look_of (file_at s part) r o ∷ []) (rank (file_at s 0) + 2 ^ 32)
    within_series r o fits few = rises_wider (k.ls ++ look_of (file_at s part) r o ∷ []) (rank (file_at s 0)) (rank (file_at s (part + 1))) (rank (file_at s 0) + 2 ^ 32) (rises_snoc r o) (omega arith)

    -- it isn't
    pub along_absent : (last : Walk P) → part < s.most → s.most < 2 ^ 32 → IsFileTold contents folder (file_at s part) None → Walked g heard start ((looked ++ k.ls) ++ look_of (file_at s part) role None ∷ []) last
        → IsSeries g heard contents folder s start looked (Ok last)
    along_absent last fits few t walked = (
      k.ls ++ look_of (file_at s part) role None ∷ [],
      record {
        told = told_snoc role None t;
        rises = within_series role None (omega arith) few;
        all = λ held a.
            before held role None a ∙ ap (λ n. k.ls ++ looks_from held s n part role) (left_one s.most part fits) ∙ ap (λ (ms : List Look). k.ls ++ ms) (from_none held s (s.most - (part + 1)) part role (found_at held role None a));
      },
      subst (λ (ls : List Look). Walked g heard start ls last) (sym (snoc_again (look_of (file_at s part) role None) [])) walked,
    )

    -- something is wrong there
    pub along_bad : (o : Option (List ℕ)) (r : Refusal) → part < s.most → s.most < 2 ^ 32 → IsFileTold contents folder (file_at s part) o → FirstOf (walk_checks g start ((looked ++ k.ls) ++ look_of (file_at s part) role o ∷ [])) r
        → IsSeries g heard contents folder s start looked (Err (Refused r))
    along_bad o r fits few t bad = (
      k.ls ++ look_of (file_at s part) role o ∷ [],
      record {
        told = told_snoc role o t;
        rises = within_series role o (omega arith) few;
        some = λ held a.
            let rest = from_any held s (s.most - (part + 1)) part role o (found_at held role o a) in (
              rest.0,
              before held role o a ∙ ap (λ n. k.ls ++ looks_from held s n part role) (left_one s.most part fits) ∙ ap (λ (ms : List Look). k.ls ++ ms) rest.1 ∙ joined (look_of (file_at s part) role o) rest.0,
            );
      },
      subst (λ (ls : List Look). FirstOf (walk_checks g start ls) r) (sym (snoc_again (look_of (file_at s part) role o) [])) bad,
    )

    -- all that may be there are, and one is too many or not
    beyond_all : (held : Held) (o : Option (List ℕ)) (what : Counted) → s.what ≡ Some what → part ≡ s.most → Agrees held (k.ls ++ look_of (file_at s part) (Beyond what) o ∷ []) → series_looks held s ≡ k.ls ++ look_of (file_at s part) (Beyond what) o ∷ []
    beyond_all held o what is full a =
        before held (Beyond what) o a
        ∙ ap (λ n. k.ls ++ looks_from held s n part role) (left_none s.most part (omega (arith, full)))
        ∙ ap (λ (ms : List Look). k.ls ++ ms) (from_zero held s part role (Some what) is ∙ ap (λ (x : Option (List ℕ)). look_of (file_at s part) (Beyond what) x ∷ []) (found_at held (Beyond what) o a))

    -- no further one is looked for
    pub along_last : s.what ≡ None → part ≡ s.most → s.most < 2 ^ 32 → IsSeries g heard contents folder s start looked (Ok w)
    along_last is full few = (
      k.ls,
      record {
        told = k.told;
        rises = rises_wider k.ls (rank (file_at s 0)) (rank (file_at s part)) (rank (file_at s 0) + 2 ^ 32) k.rises (omega (arith, full, few));
        all = λ held a.
            k.all held a
            ∙ ap (λ n. k.ls ++ looks_from held s n part role) (left_none s.most part (omega (arith, full)))
            ∙ ap (λ (ms : List Look). k.ls ++ ms) (from_zero held s part role None is)
            ∙ append-nil k.ls;
      },
      k.walked,
    )

    pub along_over : (b : List ℕ) (what : Counted) → s.what ≡ Some what → part ≡ s.most → s.most < 2 ^ 32 → IsFileTold contents folder (file_at s part) (Some b) → IsSeries g heard contents folder s start looked (Err (Refused (refusal.TooMany what)))
    along_over b what is full few t = (
      k.ls ++ look_of (file_at s part) (Beyond what) (Some b) ∷ [],
      record {
        told = told_snoc (Beyond what) (Some b) t;
        rises = within_series (Beyond what) (Some b) (omega (arith, full)) few;
        some = λ held a. ([], beyond_all held (Some b) what is full a ∙ sym (append-nil (k.ls ++ look_of (file_at s part) (Beyond what) (Some b) ∷ [])));
      },
      subst (λ (ls : List Look). FirstOf (walk_checks g start ls) (refusal.TooMany what)) (sym (snoc_again (look_of (file_at s part) (Beyond what) (Some b)) []))
          (snoc_first g start (looked ++ k.ls) (file_at s part) (Beyond what) (Some b) (refusal.TooMany what) k.walked.clean (inl refl)),
    )

    pub along_end : (what : Counted) → s.what ≡ Some what → part ≡ s.most → s.most < 2 ^ 32 → IsFileTold contents folder (file_at s part) None → IsSeries g heard contents folder s start looked (Ok w)
    along_end what is full few t = (
      k.ls ++ look_of (file_at s part) (Beyond what) None ∷ [],
      record {
        told = told_snoc (Beyond what) None t;
        rises = within_series (Beyond what) None (omega (arith, full)) few;
        all = λ held a. beyond_all held None what is full a;
      },
      subst (λ (ls : List Look). Walked g heard start ls w) (sym (snoc_again (look_of (file_at s part) (Beyond what) None) [])) walked,
    )
      where
        same : after_walk g start (looked ++ k.ls) ≡ after_walk g start ((looked ++ k.ls) ++ look_of (file_at s part) (Beyond what) None ∷ [])
        same = sym (after_append g start (looked ++ k.ls) (look_of (file_at s part) (Beyond what) None ∷ []))

        walked : Walked g heard start ((looked ++ k.ls) ++ look_of (file_at s part) (Beyond what) None ∷ []) w
        walked = record {
          clean = snoc_none g start (looked ++ k.ls) (file_at s part) (Beyond what) None k.walked.clean tt;
          bytes_are = k.walked.bytes_are ∙ ap (λ (z : Before). z.bytes) same;
          rows_are = k.walked.rows_are ∙ ap (λ (z : Before). z.rows) same;
          done = k.walked.done;
          said = subst (λ (z : Before). FilesSay g z.past k.walked.done) same k.walked.said;
          fresh = k.walked.fresh;
        }

  -- what stops a look stops the series
  pub along_err : (part : ℕ) (needed : Bool) (w : Walk P) (load : Load) (k : Along part (first_role needed) w) → part < s.most → s.most < 2 ^ 32
      → IsLook g heard contents folder (file_at s part) needed start (looked ++ k.ls) w.used (Err load) → IsSeries g heard contents folder s start looked (Err load)
  along_err part needed w (Refused r) k fits few h = along_bad part (first_role needed) w k h.0 r fits few h.1 h.2
  along_err part needed w ReadFault k fits few h = tt
  along_err part needed w Memory k fits few h = tt
