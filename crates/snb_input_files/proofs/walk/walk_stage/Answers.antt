use Rattle.std.proofs.Common.{rules, ◌+◌, List, Option, Ok, Err, drop, get_or, subst, arith}
use Rattle.std.proofs.lemmas.Grind.{common_steps}
use Rattle.std.proofs.lemmas.List.{drop_all}
use Rattle.std.proofs.lemmas.List.Elements.{Contains-get_or}
use Rattle.snb_base.specs.Shelf.{Files}
use Rattle.snb_base.proofs.Laws.{read_after}
use Rattle.snb_input_files.specs.Format.{format_in}
use Rattle.snb_input_files.specs.declared.series.Series.{Series}
use Rattle.snb_input_files.specs.Looking.{IsSeries}
use Rattle.snb_input_files.specs.Names.{IsNameIn}
use Rattle.snb_input_files.specs.Stages.{before}
use Rattle.snb_input_files.proofs.NameFacts.{of_series, still_allows}
use Rattle.snb_input_files.proofs.StageFacts.{Staged, most_fits, next_series, no_series, staged_end, staged_err, staged_first, staged_more, walked_first}
use Rattle.snb_input_files.proofs.walk.walk_stage.Goals as goal

pub loop-series-init : goal.loop-series-init
loop-series-init g c = record {
  staged =
      λ fresh.
      staged_first (format_in g.G.Grammar.language g.P.FileSink.stage c.args.file_sink) (g.P.FileSink.stage.heard c.args.file_sink) (g.S.Shelf.contents c.args.shelf.now) c.args.folder.now c.args.stage.now (before c.args.used) (record { used = c.args.used; file_sink = c.args.file_sink }) c.requires.rising
      (walked_first (format_in g.G.Grammar.language g.P.FileSink.stage c.args.file_sink) (g.P.FileSink.stage.heard c.args.file_sink) c.args.used c.args.file_sink fresh);
  bytes = search rules;
  rows = search rules;
  room = search rules;
  read = search rules;
}

pub walk_series-requires-clause-few : goal.walk_series-requires-clause-few
walk_series-requires-clause-few g c = most_fits c.args.stage.now 0 c.loop-series.series-index c.requires.rising (search rules)

pub walk_series-requires-clause-allowed : goal.walk_series-requires-clause-allowed
walk_series-requires-clause-allowed g c =
    of_series c.args.stage.now c.args.folder.now (get_or c.args.stage.now c.loop-series.series-index no_series) (Contains-get_or c.args.stage.now c.loop-series.series-index no_series (search rules))
    (still_allows (IsNameIn c.args.stage.now c.args.folder.now) c.loop-series.invariant.read.names c.requires.allowed)

pub returns-in-Err-clause-answer : goal.returns-in-Err-clause-answer
returns-in-Err-clause-answer g c =
    λ fresh.
    let next = next_series c.args.stage.now c.loop-series.series-index (search rules) in
    let one : Series = get_or c.args.stage.now c.loop-series.series-index no_series in
    let k = subst (λ (left : List Series). Staged (format_in g.G.Grammar.language g.P.FileSink.stage c.args.file_sink) (g.P.FileSink.stage.heard c.args.file_sink) (g.S.Shelf.contents c.args.shelf.now) c.args.folder.now c.args.stage.now (before c.args.used) left c.loop-series.so_far) next (c.loop-series.invariant.staged fresh) in
    staged_err (format_in g.G.Grammar.language g.P.FileSink.stage c.args.file_sink) (g.P.FileSink.stage.heard c.args.file_sink) (g.S.Shelf.contents c.args.shelf.now) c.args.folder.now c.args.stage.now (before c.args.used) one (drop (c.loop-series.series-index + 1) c.args.stage.now) c.loop-series.so_far c.in-Err.load k
    (subst (λ (z : Option Files). IsSeries (format_in g.G.Grammar.language g.P.FileSink.stage c.args.file_sink) (g.P.FileSink.stage.heard c.args.file_sink) z c.args.folder.now one (before c.args.used) k.ls (Err c.in-Err.load)) c.loop-series.invariant.read.same (c.in-Err.ensures.answer c.args.file_sink (before c.args.used) k.ls k.walked))

pub loop-series-preserved : goal.loop-series-preserved
loop-series-preserved g c = record {
  staged =
      λ fresh.
      let next = next_series c.args.stage.now c.loop-series.series-index (search rules) in
      let one : Series = get_or c.args.stage.now c.loop-series.series-index no_series in
      let k = subst (λ (left : List Series). Staged (format_in g.G.Grammar.language g.P.FileSink.stage c.args.file_sink) (g.P.FileSink.stage.heard c.args.file_sink) (g.S.Shelf.contents c.args.shelf.now) c.args.folder.now c.args.stage.now (before c.args.used) left c.loop-series.so_far) next (c.loop-series.invariant.staged fresh) in
      staged_more (format_in g.G.Grammar.language g.P.FileSink.stage c.args.file_sink) (g.P.FileSink.stage.heard c.args.file_sink) (g.S.Shelf.contents c.args.shelf.now) c.args.folder.now c.args.stage.now (before c.args.used) one (drop (c.loop-series.series-index + 1) c.args.stage.now) c.loop-series.so_far c.in-Ok.walk k
      (subst (λ (z : Option Files). IsSeries (format_in g.G.Grammar.language g.P.FileSink.stage c.args.file_sink) (g.P.FileSink.stage.heard c.args.file_sink) z c.args.folder.now one (before c.args.used) k.ls (Ok c.in-Ok.walk)) c.loop-series.invariant.read.same (c.in-Ok.ensures.answer c.args.file_sink (before c.args.used) k.ls k.walked));
  bytes = search rules;
  rows = search rules;
  room = grind (arith, common_steps);
  read = read_after c.loop-series.invariant.read c.in-Ok.ensures.read;
}

pub returns-clause-answer : goal.returns-clause-answer
returns-clause-answer g c =
    λ fresh.
    staged_end (format_in g.G.Grammar.language g.P.FileSink.stage c.args.file_sink) (g.P.FileSink.stage.heard c.args.file_sink) (g.S.Shelf.contents c.args.shelf.now) c.args.folder.now c.args.stage.now (before c.args.used) c.loop-series.so_far
    (subst (λ (left : List Series). Staged (format_in g.G.Grammar.language g.P.FileSink.stage c.args.file_sink) (g.P.FileSink.stage.heard c.args.file_sink) (g.S.Shelf.contents c.args.shelf.now) c.args.folder.now c.args.stage.now (before c.args.used) left c.loop-series.so_far) (drop_all c.loop-series.series-index c.args.stage.now (search rules)) (c.loop-series.invariant.staged fresh))

pub returns-in-Err-clause-read : goal.returns-in-Err-clause-read
returns-in-Err-clause-read g c = read_after c.loop-series.invariant.read c.in-Err.ensures.read
