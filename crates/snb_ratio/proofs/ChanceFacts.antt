-- What stands on each side of a chance's colon, and that a text spells one chance.
use Rattle.std.proofs.Common.{◌≡◌, ◌≢◌, ◌≤◌, ◌<◌, ◌++◌, ◌∷◌, [], ℕ, List, length, length-append, sym, ap, subst, ◌∙◌, All, arith, get_or}
use Rattle.std.proofs.Math.Seq.{get_or-append_seam}
use Rattle.std.proofs.lemmas.List.Elements.{All-nil, All-cons}
use Rattle.std.specs.List.{AllByRecursion}
use Rattle.snb_base.specs.Calendar.{IsDigit}
use Rattle.snb_base.specs.Spellings.{Num}
use Rattle.snb_base.proofs.Laws.{one_cut}
use Rattle.snb_ratio.specs.Chances.{ChanceFall, OneChance, SpellsChance}

abbrev HasNoColon : List ℕ → Type 0
HasNoColon x = All (λ b. b ≢ 58) x

-- digits are no colons
no_colon : (x : List ℕ) → AllByRecursion IsDigit x → HasNoColon x
no_colon [] h = All-nil (λ b. b ≢ 58)
no_colon (b ∷ bs) h =
    let other : b ≢ 58 = λ e. absurd (let low = h.0 in omega (arith, e)) in
    All-cons (λ b. b ≢ 58) b bs other (no_colon bs h.1)

-- a text without a colon spells no chance
pub no_chance : (x : List ℕ) → HasNoColon x → (chance : ChanceFall) → ¬ SpellsChance x chance
no_chance x h chance s =
    let within : length s.first < length x = omega (arith, ap length s.splits, length-append s.first (58 ∷ s.fall)) in
    h (length s.first) 0 within (ap (λ (t : List ℕ). get_or t (length s.first) 0) s.splits ∙ get_or-append_seam s.first 58 s.fall 0)

-- a text spells what its parts before and after the colon spell
pub parts_spell : (x before after : List ℕ) (chance : ChanceFall) → HasNoColon before → x ≡ before ++ 58 ∷ after → SpellsChance x chance
    → Num before chance.start 1000000 × Num after chance.down 1000000 × (1 ≤ chance.down)
parts_spell x before after chance bare e s =
    let same = one_cut 58 before after s.first s.fall bare (no_colon s.first s.begins.digits) (sym e ∙ s.splits) in (
      subst (λ (t : List ℕ). Num t chance.start 1000000) (sym same.0) s.begins,
      subst (λ (t : List ℕ). Num t chance.down 1000000) (sym same.1) s.goes_down,
      s.falls,
    )

-- a text spells one chance at most
pub one_chance : OneChance
one_chance x one other s t =
    let parts = parts_spell x s.first s.fall other (no_colon s.first s.begins.digits) s.splits t in
    let starts : one.start ≡ other.start = s.begins.value ∙ sym parts.0.value in
    let downs : one.down ≡ other.down = s.goes_down.value ∙ sym parts.1.value in
    λ i. record { start = starts i; down = downs i }
