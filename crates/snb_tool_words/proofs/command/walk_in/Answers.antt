use Rattle.std.proofs.Common.{refl, subst, sym}
use Rattle.snb_schema.specs.declared.query.Query.{Query}
use Rattle.clap.specs.Words.{first_value, found_of}
use Rattle.snb_tool_words.specs.Commands.{IsReadOf}
use Rattle.snb_tool_words.proofs.FoundLemmas.{has_first, walk_found, read_is_found, with_first}
use Rattle.snb_tool_words.proofs.command.walk_in.Goals as goal

pub text_at-requires : goal.text_at-requires
text_at-requires c =
    let f = first_value (found_of c.args.matches.now) in
    let is = walk_found f c.requires in has_first f is.0 _ is.4.is_said.2

pub query_in-requires : goal.query_in-requires
query_in-requires c =
    let f = first_value (found_of c.args.matches.now) in
    let is = walk_found f c.requires in (is.1, read_is_found f is.0 _ _ is.1 is.4.is_said.2 is.4.is_said.3)

pub returns : goal.returns
returns c =
    let f = first_value (found_of c.args.matches.now) in
    let is = walk_found f c.requires in
    let said = is.4.is_said in
    let query = c.in_ok-query.ensures is.1 (read_is_found f is.0 _ _ is.1 said.2 said.3) in
    let read = subst (λ (q : Query). IsReadOf said.0 said.1 q) (sym query) said.3 in
    record {
      named = refl;
      suited = is.4.suited;
      is_said = (said.0, said.1, with_first f is.0 _ said.2 _ c.in_ok-folder.ensures, read, c.chance_in-chance.ensures, c.in_ok-words.ensures);
    }

pub chance_in-chance-requires : goal.chance_in-chance-requires
chance_in-chance-requires c =
    let f = first_value (found_of c.args.matches.now) in
    let is = walk_found f c.requires in (is.2, is.4.is_said.4)

pub words_in-requires : goal.words_in-requires
words_in-requires c =
    let f = first_value (found_of c.args.matches.now) in
    let is = walk_found f c.requires in (is.3, is.4.is_said.5)
