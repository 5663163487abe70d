use Rattle.std.proofs.Common.{Option, ◌∷◌, sym, subst}
use Rattle.std.specs.Option.{option_to_list}
use Rattle.snb_schema.specs.declared.key.Key.{Key}
use Rattle.snb_plan.specs.Added.{HasMore}
use Rattle.snb_plan.proofs.Slots.{has_two}
use Rattle.snb_plan.proofs.added.Added.put_all.Goals as goal

pub returns-in_ok-put-2 : goal.returns-in_ok-put-2
returns-in_ok-put-2 c =
    subst (λ (o : Option Key). HasMore c.args.self.now (c.args.keys.now.one ∷ option_to_list o) c.args.mark c.put-in-Some.new.self) (sym c.in-Some.is)
    (has_two c.args.self.now c.put.new.self c.put-in-Some.new.self c.args.keys.now.one c.in-Some.other c.args.mark c.in_ok-put.ensures c.in_ok-put-2.ensures)
