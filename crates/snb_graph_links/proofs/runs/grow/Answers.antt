use Rattle.std.proofs.Common.{◌≡◌, ◌≢◌, true, false, ℕ, refl, rules, nat_eq, arith}
use Rattle.std.proofs.lemmas.Bool.Decides.{nat_tests}
use Rattle.snb_graph_links.proofs.LinkRunLemmas.{grown_none, grown_same, grown_other}
use Rattle.snb_graph_links.proofs.runs.grow.Goals as goal

same_test : {a b : ℕ} → a ≡ b → nat_eq a b ≡ true
same_test {a} {b} e = grind (arith, nat_tests)

other_test : {a b : ℕ} → a ≢ b → nat_eq a b ≡ false
other_test {a} {b} e = grind (arith, nat_tests)

pub returns-in_ok-push-in-None : goal.returns-in_ok-push-in-None
returns-in_ok-push-in-None c = rw c.in_ok-push-in-None.ensures.items (grown_none c.args.heads.now.items c.pop.new.self.items c.args.of (c.args.begin, c.args.end) c.in-None.ensures.items (search rules))

pub returns-in_ok-push-in-Some : goal.returns-in_ok-push-in-Some
returns-in_ok-push-in-Some c = rw c.in_ok-push-in-Some.ensures.items (grown_same c.args.heads.now.items c.pop.new.self.items (c.in-Some.number, (c.in-Some.first, c.in-Some.last)) c.args.of c.args.end (c.args.begin, c.args.end) c.in-Some.ensures.items (same_test c.if-number-of.true) refl)

pub returns-in_ok-push-in-Some-3 : goal.returns-in_ok-push-in-Some-3
returns-in_ok-push-in-Some-3 c = rw (c.in_ok-push-in-Some-3.ensures.items, c.in_ok-push-in-Some-2.ensures.items) (grown_other c.args.heads.now.items c.pop.new.self.items (c.in-Some.number, (c.in-Some.first, c.in-Some.last)) c.args.of (c.args.begin, c.args.end) c.in-Some.ensures.items (other_test c.if-number-of.false))
