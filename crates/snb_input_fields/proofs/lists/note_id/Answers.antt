use Rattle.std.proofs.Common.{nat_eq}
use Rattle.std.proofs.lemmas.Map.Lookups.{exact_unsigned}
use Rattle.std.specs.Ordering.{nat_cmp}
use Rattle.snb_input_fields.proofs.SeenFacts.{noted_key}
use Rattle.snb_input_fields.proofs.lists.note_id.Goals as goal

pub returns-clause-seen : goal.returns-clause-seen
returns-clause-seen c q = noted_key nat_cmp exact_unsigned (nat_eq q) c.args.seen.now.keys c.insert.new.self.keys c.args.id c.in_ok-insert.ensures.keys
