-- What the program is asked.
use Rattle.std.proofs.Common.{◌≡◌, ◌∙◌, ◌+◌, ◌<◌, ◌++◌, ◌∷◌, ℕ, suc, Bool, true, false, Bor, List, [], OnOk, Result, Ok, Err, Some, ap, arith, get_or, is_err, length, subst, sym, take}
use Rattle.std.proofs.Math.Seq.{take-suc}
use Rattle.std.proofs.lemmas.List.{map-append}
use Rattle.snb_handlers.specs.declared.handler.Handler.{Handler}
use Rattle.snb_handlers.specs.declared.handlers.Handlers.{Handlers}
use Rattle.snb_handlers.specs.Table.{handlers_of, kinds, handled_kinds}
use Rattle.snb_base.specs.declared.outbox.Outbox.{Ghosts as Outboxes}
use Rattle.snb_base.specs.declared.shelf.Shelf.{Ghosts as Shelves}
use Rattle.snb_base.specs.Moments.{Moments}
use Rattle.snb_base.specs.Shelf.{Names}
use Rattle.snb_schema.specs.declared.query.ReadKind.{ReadKind}
use Rattle.snb_tool_outcome.specs.Names.{MayAskFor}
use Rattle.snb_tool_outcome.specs.Outcome.{Asked, with}
use Rattle.snb_tool_outcome.specs.Served.{HasServed}
use Rattle.snb_tool_words.specs.Words.{texts_of}
use Rattle.snb_walk.specs.declared.target.Pick.{Pick}
use Rattle.snb_walk.specs.declared.target.Pick.TheVariants.{Modulo}
use Rattle.snb_schema.specs.ReadKinds.{every_read}
use Rattle.snb_edge.specs.Edge.{started_with}

-- ---- its table

-- what is so where a call gives no error
pub registered : {A E P : Type 0} (result : Result A E) (failed : Bool) → failed ≡ is_err result → failed ≡ false → OnOk result P → P
registered (Ok a) failed is none p = p
registered (Err e) failed is none p = absurd (let both : true ≡ false = sym is ∙ none in cc)

-- a handler more has its kind
pub grown : {I F P : _} → (old new : Handlers I F P) (handler : Handler I F P) (i : ℕ) (d : ReadKind) → handlers_of new ≡ handlers_of old ++ handler ∷ [] → kinds old ≡ take i every_read
    → i < length every_read → handler.kind ≡ get_or every_read i d → kinds new ≡ take (i + 1) every_read
grown old new handler i d more was lt is =
    ap handled_kinds more ∙ map-append (λ h. h.kind) (handlers_of old) (handler ∷ []) ∙ ap (λ (ks : List ReadKind). ks ++ handler.kind ∷ []) was
    ∙ ap (λ (k : ReadKind). take i every_read ++ k ∷ []) is ∙ sym taken
  where
    taken : take (i + 1) every_read ≡ take i every_read ++ get_or every_read i d ∷ []
    taken = let on : i + 1 ≡ suc i = omega arith in ap (λ (n : ℕ). take n every_read) on ∙ take-suc every_read i d lt

-- after the last kind each has one
pub whole : (there : List ReadKind) (i : ℕ) → there ≡ take i every_read → i ≡ 14 → there ≡ every_read
whole there i was end = was ∙ ap (λ (n : ℕ). take n every_read) end

-- ---- what it is asked

module _ (words : List (Bor (List ℕ))) (there : List ReadKind) (pick : Pick) (texts : List (List ℕ)) (lent : texts_of words ≡ texts) (all : there ≡ every_read) (modulo : pick ≡ Modulo) where
  -- it is asked just that
  same_asked : with words there pick ≡ started_with texts
  same_asked = λ i. record { words = lent i; given = Some (record { kinds = all i; pick = modulo i }) }

  pub may_ask : (may : Names) → MayAskFor may (started_with texts) → MayAskFor may (with words there pick)
  may_ask may allowed = λ command asked. subst (MayAskFor may) (sym same_asked) allowed command asked

  pub as_started : {S O : Type 0} (shelves : Shelves S) (outboxes : Outboxes O) (moments : Moments) (shelf shelf_after : S) (out out_after : O) (status : ℕ)
      → HasServed shelves outboxes moments (with words there pick) shelf shelf_after out out_after status
      → HasServed shelves outboxes moments (started_with texts) shelf shelf_after out out_after status
  as_started shelves outboxes moments shelf shelf_after out out_after status served =
      subst (λ (asked : Asked). HasServed shelves outboxes moments asked shelf shelf_after out out_after status) same_asked served
