use Rattle.snb_inserts.proofs.Alone.{messages_alone}
use Rattle.snb_inserts.proofs.Fitting.{rows_fit}
use Rattle.snb_inserts.proofs.Newness.{rows_new}
use Rattle.snb_inserts.proofs.Referring.{held_kept}
use Rattle.snb_inserts.proofs.Settling.{sound_kept}
use Rattle.snb_inserts.proofs.law.inserts_are_kept.Goals as goal

pub returns-clause-fit : goal.returns-clause-fit
returns-clause-fit c = rows_fit c.plain_fields.ensures

pub returns-clause-new : goal.returns-clause-new
returns-clause-new c = rows_new c.plain_fields.ensures

pub returns-clause-alone : goal.returns-clause-alone
returns-clause-alone c = messages_alone

pub returns-clause-held : goal.returns-clause-held
returns-clause-held c = held_kept

pub returns-clause-sound : goal.returns-clause-sound
returns-clause-sound c = sound_kept
