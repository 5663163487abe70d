-- Histories that are legal, and one more event.
use Rattle.std.proofs.Common.{◌≡◌, ℕ, ◌≤◌, List, [], ◌∷◌, ◌++◌, inl, inr, refl, sym, ap, ◌∙◌, subst, append_assoc}
use Rattle.snb_history.specs.declared.event.Event.{Event}
use Rattle.snb_history.specs.declared.event.Event.TheVariants.{Halt}
use Rattle.snb_schema.specs.declared.limits.TheConstants.{MAX_AT}
use Rattle.snb_history.specs.Schedule.{Schedule}
use Rattle.snb_history.specs.History.{moment}
use Rattle.snb_history.specs.Rules.{Rule, V1, V2, V3, V4, V5, V6, V7, V8, V9, MayAct, Obeys, Fits, IsLegal}
use Rattle.snb_base.proofs.Laws.{push_split}

-- the events before the last are a legal history, and the last fits them
pub IsLegal-front : (s : Schedule) (w : ℕ) (g h : List Event) → IsLegal s w (g ++ h) → IsLegal s w g
IsLegal-front s w g h l =
    record {
      bounded = λ a e rest q. l.bounded a e (rest ++ h) (longer a e rest q);
      fits = λ a e rest q. l.fits a e (rest ++ h) (longer a e rest q);
    }
  where
    longer : (a : List Event) (e : Event) (rest : List Event) → a ++ e ∷ rest ≡ g → a ++ e ∷ (rest ++ h) ≡ g ++ h
    longer a e rest q = let z : (a ++ e ∷ rest) ++ h ≡ g ++ h = ap (λ x. x ++ h) q in sym (append_assoc a (e ∷ rest) h) ∙ z

pub Fits-last : (s : Schedule) (w : ℕ) (h : List Event) (e : Event) → IsLegal s w (h ++ e ∷ []) → Fits s w h e
Fits-last s w h e l = l.fits h e [] refl

-- one more event that fits keeps a history legal
pub IsLegal-push : (s : Schedule) (w : ℕ) (h : List Event) (e : Event) → IsLegal s w h → Fits s w h e → moment e ≤ MAX_AT → IsLegal s w (h ++ e ∷ [])
IsLegal-push s w h e l f small =
    record {
      bounded = λ a x rest q. elim (push_split a x rest h e q) [
        | inl p ↦ subst (λ (y : Event). moment y ≤ MAX_AT) (sym p.1) small
        | inr p ↦ l.bounded a x p.0 p.1
      ];
      fits = λ a x rest q. elim (push_split a x rest h e q) [
        | inl p ↦ subst (λ (y : Event). Fits s w a y) (sym p.1) (subst (λ (b : List Event). Fits s w b e) (sym p.0) f)
        | inr p ↦ l.fits a x p.0 p.1
      ];
    }

-- the empty history is legal
pub IsLegal-nil : (s : Schedule) (w : ℕ) → IsLegal s w []
IsLegal-nil s w = record { bounded = λ a e rest q. absurd (nothing a e rest q); fits = λ a e rest q. absurd (nothing a e rest q) }
  where
    nothing : (a : List Event) (e : Event) (rest : List Event) → a ++ e ∷ rest ≡ [] → ⊥
    nothing [] e rest q = cc
    nothing (x ∷ a) e rest q = cc

-- a Halt fits where the worker may act
pub Fits-halt : (s : Schedule) (w : ℕ) (h : List Event) (worker : ℕ) → MayAct w h worker → Fits s w h (Halt worker)
Fits-halt s w h worker may = record { obeys = by_rule }
  where
    by_rule : (q : Rule) → Obeys s w h (Halt worker) q
    by_rule V1 = may
    by_rule V2 = tt
    by_rule V3 = tt
    by_rule V4 = tt
    by_rule V5 = tt
    by_rule V6 = tt
    by_rule V7 = tt
    by_rule V8 = tt
    by_rule V9 = tt
