use Rattle.std.proofs.Common.{◌<◌, arith}
use Rattle.snb_history.specs.Rules.{V1}
use Rattle.snb_auditor.proofs.Telling.{beside_start, beside_finish, beside_halt, fits_fields}
use Rattle.snb_auditor.proofs.auditor.Auditor.append.Goals as goal

pub index_mut-requires : goal.index_mut-requires
index_mut-requires c =
    let fits = fits_fields _ _ _ c.args.event _ c.self.view_is c.requires.fits c.in-Start.is in
    let known : c.in-Start.worker < c.self.inside.book.workers = (fits.obeys V1).1.known in
    let each = c.self.invariant.1.each in
    omega arith

pub invariant_of-self : goal.invariant_of-self
invariant_of-self c =
    beside_start _ _ _ _ _ _ _ _ _ c.push.ensures c.events.ensures.value c.in-Start.is
    (fits_fields _ _ _ c.args.event _ c.self.view_is c.requires.fits c.in-Start.is) c.self.invariant

pub invariant_of-self-in-Finish : goal.invariant_of-self-in-Finish
invariant_of-self-in-Finish c = beside_finish _ _ _ _ _ _ _ _ _ c.push.ensures c.in-Finish.is c.self.invariant

pub index_mut-requires-in-Halt : goal.index_mut-requires-in-Halt
index_mut-requires-in-Halt c =
    let fits = fits_fields _ _ _ c.args.event _ c.self.view_is c.requires.fits c.in-Halt.is in
    let known : c.in-Halt.worker < c.self.inside.book.workers = (fits.obeys V1).known in
    let each = c.self.invariant.0.each in
    omega arith

pub invariant_of-self-in-Halt : goal.invariant_of-self-in-Halt
invariant_of-self-in-Halt c =
    let fits = fits_fields _ _ _ c.args.event _ c.self.view_is c.requires.fits c.in-Halt.is in
    beside_halt _ _ _ _ _ c.in-Halt.worker c.push.ensures c.in-Halt.is (fits.obeys V1).known c.self.invariant
