use Rattle.std.proofs.Common.{◌≡◌, ℕ, zero, suc, ◌≤◌, true, refl, arith, inl}
use Rattle.snb_read_model.proofs.WorkedFacts.{last_step, no_row_has, no_step, walk_end}
use Rattle.snb_graph_model.specs.Around.{is_friend}
use Rattle.snb_read_model.specs.Distance.{IsDistance, IsPerson, FriendPath}
use Rattle.snb_read_model.specs.Worked.{ring}
use Rattle.snb_read_model.proofs.worked.distances_on_a_ring.Goals as goal

ten : IsPerson ring 10
ten = record { it = _; held = (0, omega arith, refl); keyed = refl }

thirteen : IsPerson ring 13
thirteen = record { it = _; held = (3, omega arith, refl); keyed = refl }

fourteen : IsPerson ring 14
fourteen = record { it = _; held = (4, omega arith, refl); keyed = refl }

-- 14 is neither 10 nor a friend of 10
far : (m : ℕ) → FriendPath ring 10 14 m → 2 ≤ m
far zero w = let same : ◌≡◌ {A = ℕ} 10 14 = no_step ring 10 14 0 w refl in absurd (omega arith)
far (suc zero) w =
    let (b, here, knows) = last_step ring 10 14 1 w 0 refl in
    let same = no_step ring 10 b 0 here refl in
    let not : is_friend ring 10 14 ≡ true = rw (← same) at knows in
    cc
far (suc (suc m)) w = omega arith

two : IsDistance ring 10 14 2
two = record {
  walk = FriendPath.step 10 13 14 1 (FriendPath.step 10 10 13 0 (FriendPath.stay 10 ten) refl thirteen) refl fourteen;
  least = far;
}

pub returns-clause-own : goal.returns-clause-own
returns-clause-own c = record { walk = FriendPath.stay 10 ten; least = λ m w. omega arith }

pub returns-clause-two : goal.returns-clause-two
returns-clause-two c = two

pub returns-clause-absent : goal.returns-clause-absent
returns-clause-absent c n w = no_row_has ring 99 refl (walk_end ring 10 99 n w)

pub returns-clause-length : goal.returns-clause-length
returns-clause-length c = (_, inl (2, two, refl), refl)
