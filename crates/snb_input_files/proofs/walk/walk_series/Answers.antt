use Rattle.std.proofs.Common.{rules, ◌≡◌, [], ◌∷◌, ◌++◌, Option, Some, None, Bool, Ok, Err, subst, sym, arith}
use Rattle.snb_base.specs.Shelf.{Files}
use Rattle.snb_base.proofs.Laws.{read_after}
use Rattle.snb_input_files.specs.Format.{format_in}
use Rattle.snb_input_files.specs.declared.found.Found.{Found}
use Rattle.snb_input_files.specs.Loading.{IsWithin}
use Rattle.snb_input_files.specs.Looking.{IsFileTold, IsLook, IsPeek}
use Rattle.snb_input_files.specs.Names.{IsNameIn}
use Rattle.snb_input_files.specs.Walk.{file_at, first_role}
use Rattle.snb_input_files.proofs.NameFacts.{of_part, still_allows}
use Rattle.snb_input_files.proofs.SeriesFacts.{along_absent, along_end, along_err, along_first, along_last, along_more, along_over}
use Rattle.snb_input_files.proofs.walk.walk_series.Goals as goal

pub loop-part-init : goal.loop-part-init
loop-part-init g c = record {
  along = λ begun start looked k. along_first (format_in g.G.Grammar.language g.P.FileSink.stage begun) (g.P.FileSink.stage.heard begun) (g.S.Shelf.contents c.args.shelf.now) c.args.folder.now c.args.series start looked c.args.walk k;
  bytes = search rules;
  rows = search rules;
  room = search rules;
  read = search rules;
}

pub look-requires-clause-allowed : goal.look-requires-clause-allowed
look-requires-clause-allowed g c = of_part c.args.folder.now c.args.series c.loop-part.part (omega arith) (still_allows (IsNameIn (c.args.series ∷ []) c.args.folder.now) c.loop-part.invariant.read.names c.requires.allowed)

pub is_held-requires : goal.is_held-requires
is_held-requires g c = record { allowed = of_part c.args.folder.now c.args.series c.args.series.most (omega arith) (still_allows (IsNameIn (c.args.series ∷ []) c.args.folder.now) c.loop-part.invariant.read.names c.requires.allowed) }

pub returns-in-Err-clause-answer : goal.returns-in-Err-clause-answer
returns-in-Err-clause-answer g c =
    λ begun start looked k.
    let a = c.loop-part.invariant.along begun start looked k in
    along_err (format_in g.G.Grammar.language g.P.FileSink.stage begun) (g.P.FileSink.stage.heard begun) (g.S.Shelf.contents c.args.shelf.now) c.args.folder.now c.args.series start looked c.loop-part.part c.loop-part.needed c.loop-part.so_far c.in-Err.load a (search rules) c.requires.few
    (subst (λ (z : Option Files). IsLook (format_in g.G.Grammar.language g.P.FileSink.stage begun) (g.P.FileSink.stage.heard begun) z c.args.folder.now (file_at c.args.series c.loop-part.part) c.loop-part.needed start (looked ++ a.ls) c.loop-part.so_far.used (Err c.in-Err.load)) c.loop-part.invariant.read.same (c.in-Err.ensures.answer begun start (looked ++ a.ls) a.walked))

pub returns-in-Ok-Absent-clause-answer : goal.returns-in-Ok-Absent-clause-answer
returns-in-Ok-Absent-clause-answer g c =
    λ begun start looked k.
    let a = c.loop-part.invariant.along begun start looked k in
    let h = subst (λ (z : Found g.row.P.Denot). IsLook (format_in g.G.Grammar.language g.P.FileSink.stage begun) (g.P.FileSink.stage.heard begun) (g.S.Shelf.contents c.args.shelf.now) c.args.folder.now (file_at c.args.series c.loop-part.part) c.loop-part.needed start (looked ++ a.ls) c.loop-part.so_far.used (Ok z)) c.in-Ok-Absent.field-0-is
    (subst (λ (z : Option Files). IsLook (format_in g.G.Grammar.language g.P.FileSink.stage begun) (g.P.FileSink.stage.heard begun) z c.args.folder.now (file_at c.args.series c.loop-part.part) c.loop-part.needed start (looked ++ a.ls) c.loop-part.so_far.used (Ok c.in-Ok-Absent.field-0)) c.loop-part.invariant.read.same (c.in-Ok-Absent.ensures.answer begun start (looked ++ a.ls) a.walked)) in
    along_absent (format_in g.G.Grammar.language g.P.FileSink.stage begun) (g.P.FileSink.stage.heard begun) (g.S.Shelf.contents c.args.shelf.now) c.args.folder.now c.args.series start looked c.loop-part.part (first_role c.loop-part.needed) c.loop-part.so_far a (record { used = c.loop-part.so_far.used; file_sink = c.in-Ok-Absent.file_sink }) (search rules) c.requires.few h.0 h.1

pub loop-part-preserved : goal.loop-part-preserved
loop-part-preserved g c = record {
  along =
      λ begun start looked k.
      let a = c.loop-part.invariant.along begun start looked k in
      let h = subst (λ (z : Found g.row.P.Denot). IsLook (format_in g.G.Grammar.language g.P.FileSink.stage begun) (g.P.FileSink.stage.heard begun) (g.S.Shelf.contents c.args.shelf.now) c.args.folder.now (file_at c.args.series c.loop-part.part) c.loop-part.needed start (looked ++ a.ls) c.loop-part.so_far.used (Ok z)) c.in-Ok-Whole.field-0-is
      (subst (λ (z : Option Files). IsLook (format_in g.G.Grammar.language g.P.FileSink.stage begun) (g.P.FileSink.stage.heard begun) z c.args.folder.now (file_at c.args.series c.loop-part.part) c.loop-part.needed start (looked ++ a.ls) c.loop-part.so_far.used (Ok c.in-Ok-Whole.field-0)) c.loop-part.invariant.read.same (c.in-Ok-Whole.ensures.answer begun start (looked ++ a.ls) a.walked)) in
      along_more (format_in g.G.Grammar.language g.P.FileSink.stage begun) (g.P.FileSink.stage.heard begun) (g.S.Shelf.contents c.args.shelf.now) c.args.folder.now c.args.series start looked c.loop-part.part (first_role c.loop-part.needed) c.loop-part.so_far a h.0 (record { used = c.in-Ok-Whole.used; file_sink = c.in-Ok-Whole.file_sink }) (search rules) h.1 h.2;
  bytes = (subst (λ (z : Found g.row.P.Denot). IsWithin g.P.FileSink.stage.limit z) c.in-Ok-Whole.field-0-is c.in-Ok-Whole.ensures.within).0;
  rows = (subst (λ (z : Found g.row.P.Denot). IsWithin g.P.FileSink.stage.limit z) c.in-Ok-Whole.field-0-is c.in-Ok-Whole.ensures.within).1;
  room = search rules;
  read = read_after c.loop-part.invariant.read c.in-Ok-Whole.ensures.read;
}

pub returns-in-Ok-true-clause-answer : goal.returns-in-Ok-true-clause-answer
returns-in-Ok-true-clause-answer g c =
    λ begun start looked k.
    let a = c.loop-part.invariant.along begun start looked k in
    let h = subst (λ (z : Bool). IsPeek (g.S.Shelf.contents c.args.shelf.now) c.args.folder.now (file_at c.args.series c.args.series.most) z) c.in-Ok-true.field-0-test
    (subst (λ (z : Option Files). IsPeek z c.args.folder.now (file_at c.args.series c.args.series.most) c.in-Ok-true.field-0) c.loop-part.invariant.read.same c.in-Ok-true.ensures.told) in
    let full : c.loop-part.part ≡ c.args.series.most = omega arith in
    along_over (format_in g.G.Grammar.language g.P.FileSink.stage begun) (g.P.FileSink.stage.heard begun) (g.S.Shelf.contents c.args.shelf.now) c.args.folder.now c.args.series start looked c.loop-part.part (first_role c.loop-part.needed) c.loop-part.so_far a h.0 c.in-Some.what c.in-Some.is full c.requires.few
    (subst (λ n. IsFileTold (g.S.Shelf.contents c.args.shelf.now) c.args.folder.now (file_at c.args.series n) (Some h.0)) (sym full) h.1)

pub returns-in-Ok-false-clause-answer : goal.returns-in-Ok-false-clause-answer
returns-in-Ok-false-clause-answer g c =
    λ begun start looked k.
    let a = c.loop-part.invariant.along begun start looked k in
    let h = subst (λ (z : Bool). IsPeek (g.S.Shelf.contents c.args.shelf.now) c.args.folder.now (file_at c.args.series c.args.series.most) z) c.in-Ok-false.field-0-test
    (subst (λ (z : Option Files). IsPeek z c.args.folder.now (file_at c.args.series c.args.series.most) c.in-Ok-false.field-0) c.loop-part.invariant.read.same c.in-Ok-false.ensures.told) in
    let full : c.loop-part.part ≡ c.args.series.most = omega arith in
    along_end (format_in g.G.Grammar.language g.P.FileSink.stage begun) (g.P.FileSink.stage.heard begun) (g.S.Shelf.contents c.args.shelf.now) c.args.folder.now c.args.series start looked c.loop-part.part (first_role c.loop-part.needed) c.loop-part.so_far a c.in-Some.what c.in-Some.is full c.requires.few
    (subst (λ n. IsFileTold (g.S.Shelf.contents c.args.shelf.now) c.args.folder.now (file_at c.args.series n) None) (sym full) h)

pub returns-in_default-clause-answer : goal.returns-in_default-clause-answer
returns-in_default-clause-answer g c =
    λ begun start looked k.
    along_last (format_in g.G.Grammar.language g.P.FileSink.stage begun) (g.P.FileSink.stage.heard begun) (g.S.Shelf.contents c.args.shelf.now) c.args.folder.now c.args.series start looked c.loop-part.part (first_role c.loop-part.needed) c.loop-part.so_far (c.loop-part.invariant.along begun start looked k) c.in_default.is
    (omega arith) c.requires.few

pub returns-in-Err-clause-within : goal.returns-in-Err-clause-within
returns-in-Err-clause-within g c = tt

pub returns-in-Ok-true-clause-within : goal.returns-in-Ok-true-clause-within
returns-in-Ok-true-clause-within g c = tt

pub returns-in-Err-clause-read : goal.returns-in-Err-clause-read
returns-in-Err-clause-read g c = read_after c.loop-part.invariant.read c.in-Err.ensures.read

pub returns-in-Ok-Absent-clause-within : goal.returns-in-Ok-Absent-clause-within
returns-in-Ok-Absent-clause-within g c = (c.loop-part.invariant.bytes, c.loop-part.invariant.rows)

pub returns-in-Ok-Absent-clause-read : goal.returns-in-Ok-Absent-clause-read
returns-in-Ok-Absent-clause-read g c = read_after c.loop-part.invariant.read c.in-Ok-Absent.ensures.read

pub returns-in-Ok-true-clause-read : goal.returns-in-Ok-true-clause-read
returns-in-Ok-true-clause-read g c = read_after c.loop-part.invariant.read c.in-Ok-true.ensures.read

pub returns-in-Ok-false-clause-read : goal.returns-in-Ok-false-clause-read
returns-in-Ok-false-clause-read g c = read_after c.loop-part.invariant.read c.in-Ok-false.ensures.read

pub returns-in_default-clause-read : goal.returns-in_default-clause-read
returns-in_default-clause-read g c = c.loop-part.invariant.read
