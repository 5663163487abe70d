use Rattle.std.proofs.Common.{inl, refl}
use Rattle.std.proofs.lemmas.List.Elements.{All-contains}
use Rattle.std.specs.List.{Contains}
use Rattle.snb_reach.proofs.LeveledLemmas.{noted_more}
use Rattle.snb_reach.proofs.ids.add.Goals as goal

pub returns-then-is_noted-clause-noted : goal.returns-then-is_noted-clause-noted
returns-then-is_noted-clause-noted c = let (same, here) = rw c.if-is_noted.true at c.is_noted.ensures in rw same c.requires.noted

pub returns-then-is_noted-clause-ids : goal.returns-then-is_noted-clause-ids
returns-then-is_noted-clause-ids c =
    let (same, here) = rw c.if-is_noted.true at c.is_noted.ensures in
    inl (refl, All-contains (Contains c.args.ids.now.items) _ _ c.requires.noted here)

pub returns-clause-noted : goal.returns-clause-noted
returns-clause-noted c = rw c.in_ok-push.ensures.items (noted_more c.args.ids.now.items _ _ c.args.person c.requires.noted (rw c.if-is_noted.false at c.is_noted.ensures))
