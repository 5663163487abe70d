use Rattle.snb_tool_words.specs.Taken.{given_of}
use Rattle.snb_tool_words.specs.Words.{texts_of}
use Rattle.snb_tool_words.proofs.PartLemmas.{audit_parts, check_parts, expect_parts, latency_parts, read_parts, run_parts, validate_parts, walk_parts}
use Rattle.snb_tool_words.proofs.command.is_command.Goals as goal

pub returns-in-check : goal.returns-in-check
returns-in-check c =
    let line = c.args.line.now in check_parts line.name.now line.plain.now (given_of line.given) c.requires c.suits.result c.in-check.is c.suits.ensures

pub returns-in-run : goal.returns-in-run
returns-in-run c =
    let line = c.args.line.now in run_parts line.name.now line.plain.now (given_of line.given) c.requires c.suits-in-run.result c.in-run.is c.suits-in-run.ensures

pub returns-in-audit : goal.returns-in-audit
returns-in-audit c =
    let line = c.args.line.now in audit_parts line.name.now line.plain.now (given_of line.given) c.requires c.suits-in-audit.result c.in-audit.is c.suits-in-audit.ensures

pub returns-in-expect : goal.returns-in-expect
returns-in-expect c =
    let line = c.args.line.now in expect_parts line.name.now line.plain.now (given_of line.given) c.requires c.suits-in-expect.result c.in-expect.is c.suits-in-expect.ensures

pub returns-in-validate : goal.returns-in-validate
returns-in-validate c =
    let line = c.args.line.now in validate_parts line.name.now line.plain.now (given_of line.given) c.requires c.suits-in-validate.result c.in-validate.is c.suits-in-validate.ensures

pub returns-in-latency : goal.returns-in-latency
returns-in-latency c =
    let line = c.args.line.now in latency_parts line.name.now line.plain.now (given_of line.given) c.requires c.suits-in-latency.result c.in-latency.is c.suits-in-latency.ensures

pub returns-in-read : goal.returns-in-read
returns-in-read c =
    let line = c.args.line.now in read_parts line.name.now (texts_of line.plain.now) (given_of line.given) c.requires c.has_read.result c.in-read.is c.has_read.ensures

pub returns-in-walk : goal.returns-in-walk
returns-in-walk c =
    let line = c.args.line.now in walk_parts line.name.now (texts_of line.plain.now) (given_of line.given) c.requires c.has_read-in-walk.result c.in-walk.is c.has_read-in-walk.ensures
