use Rattle.snb_workers_replay.proofs.Agreement.{histories_agree}
use Rattle.snb_workers_replay.proofs.Final.{complete_is_final}
use Rattle.snb_workers_replay.proofs.Prefixes.{prefixes_are_sound}
use Rattle.snb_workers_replay.proofs.Welcome.{welcome_in_turn}
use Rattle.snb_workers_replay.proofs.law.replay_is_welcome.Goals as goal

pub returns-clause-welcome : goal.returns-clause-welcome
returns-clause-welcome c = welcome_in_turn c.prefix_is_legal.ensures

pub returns-clause-last : goal.returns-clause-last
returns-clause-last c = complete_is_final c.once_each.ensures

pub returns-clause-one : goal.returns-clause-one
returns-clause-one c = histories_agree c.graphs_are_their_rows.ensures (complete_is_final c.once_each.ensures)

pub returns-clause-sound : goal.returns-clause-sound
returns-clause-sound c =
    prefixes_are_sound c.prefix_is_legal.ensures c.new_rows_are_gained.ensures c.inserts_are_kept.ensures.fit c.inserts_are_kept.ensures.new c.inserts_are_kept.ensures.sound
    (welcome_in_turn c.prefix_is_legal.ensures)
