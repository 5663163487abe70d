use Rattle.snb_tool_words.proofs.OptionLemmas.{none_there}
use Rattle.snb_tool_words.proofs.options.with_option.Goals as goal

pub returns : goal.returns
returns c = record {
  option = c.in_ok-option.option;
  named = c.in_ok-option.ensures;
  fresh = none_there c.get.result _ c.get.ensures c.is_some.result c.is_some.ensures c.if-is_some.false;
  valued = c.is_value.ensures.0 c.if-not-is_value.false;
  added = c.with.ensures;
}
