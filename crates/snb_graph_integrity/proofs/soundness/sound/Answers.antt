use Rattle.snb_graph_integrity.proofs.CountLemmas.{full_complete}
use Rattle.snb_graph_integrity.proofs.RisingLemmas.{rising_rooted}
use Rattle.snb_graph_integrity.proofs.soundness.sound.Goals as goal

pub returns-then-is_regular-clause-ok : goal.returns-then-is_regular-clause-ok
returns-then-is_regular-clause-ok c refs =
    let (rising, full) = c.is_regular.ensures.0 c.if-is_regular.true in
    let complete = full_complete c.args.tables.now.rows c.known.ensures refs full in
    record { held = refs; complete = complete; rooted = rising_rooted c.args.tables.now.rows c.known.ensures refs complete rising }
