use Rattle.std.proofs.Common.{◌≡◌, ◌<◌, ◌^◌, ℕ, List, map, take}
use Rattle.std.specs.List.{AllByRecursion}
use Rattle.serde_json.specs.View.{view}
use Rattle.snb_validation.specs.ReplyData.{stay_data}
use Rattle.snb_validation.proofs.reply.stays_value.Given as goal

abbrev pub invariant-stays : goal.invariant-stays
invariant-stays l = record {
  values : map view l.values.items ≡ map stay_data (take l.stay-index l.stays);
  types : AllByRecursion (λ (s : List ℕ × ℕ × List ℕ). s.1 < 2 ^ 32) (take l.stay-index l.stays);
}
