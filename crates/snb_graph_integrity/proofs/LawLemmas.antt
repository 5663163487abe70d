-- What is wrong with a graph is one thing.
use Rattle.std.proofs.Common.{◌≡◌, List, [], ◌∷◌, refl, sym, ap, ◌∙◌, arith}
use Rattle.snb_graph_integrity.specs.declared.unsound.Unsound.TheVariants.{Lacks, Cycle, Memory}
use Rattle.snb_graph_integrity.specs.Laws.{OneIsWrong, SoundIsNotWrong}
use Rattle.snb_graph_model.specs.Soundness.{Need}

some_none : {X : Type 0} (one : X) (others : List X) → one ∷ others ≡ [] → ⊥
some_none one others e = absurd cc

-- lists that are one have one first element
firsts : (a b : Need) (xs ys : List Need) → a ∷ xs ≡ b ∷ ys → a ≡ b
firsts a b xs ys e = cc

pub sound_not_wrong : SoundIsNotWrong
sound_not_wrong g (Lacks t id edge) some sound wrong = some_none (t, id, edge) wrong.others (sym wrong.first ∙ sound.complete)
sound_not_wrong g (Cycle c) some sound wrong = wrong.1.loose (sound.rooted c wrong.1.held)
sound_not_wrong g Memory some sound wrong = some refl

pub one_wrong : OneIsWrong
one_wrong g (Lacks t id edge) (Lacks u other last) some any a b =
    let same = firsts (t, id, edge) (u, other, last) a.others b.others (sym a.first ∙ b.first) in
    λ i. Lacks (same i).0 (same i).1 (same i).2
one_wrong g (Lacks t id edge) (Cycle d) some any a b = absurd (some_none (t, id, edge) a.others (sym a.first ∙ b.0))
one_wrong g (Cycle c) (Lacks u other last) some any a b = absurd (some_none (u, other, last) b.others (sym b.first ∙ a.0))
one_wrong g (Cycle c) (Cycle d) some any a b =
    ap Cycle (let low = a.1.least d b.1.held b.1.loose in let high = b.1.least c a.1.held a.1.loose in omega (arith, low, high))
one_wrong g Memory f some any a b = absurd (some refl)
one_wrong g (Lacks t id edge) Memory some any a b = absurd (any refl)
one_wrong g (Cycle c) Memory some any a b = absurd (any refl)
