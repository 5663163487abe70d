use Rattle.std.proofs.Common.{ℕ}
use Rattle.std.specs.Ordering.{nat_cmp, ordering_then}
use Rattle.snb_base.specs.Spellings.{pair_eq}
use Rattle.snb_input_fields.proofs.SeenFacts.{noted_key, pair_exact}
use Rattle.snb_input_fields.proofs.lists.note_pair.Goals as goal

pub returns-clause-seen : goal.returns-clause-seen
returns-clause-seen c q = noted_key (λ (p r : ℕ × ℕ). ordering_then (nat_cmp p.0 r.0) (nat_cmp p.1 r.1)) pair_exact (pair_eq q) c.args.seen.now.keys c.insert.new.self.keys c.args.pair c.in_ok-insert.ensures.keys
