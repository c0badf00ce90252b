use Rattle.std.proofs.Common.{ℕ, ◌+◌, map, ap}
use Rattle.prove_facts.specs.Sets.{set_of}
use Rattle.prove_keys.specs.Keys.{call_of}
use Rattle.prove_spots.proofs.SpotLemmas.{called_is}
use Rattle.prove_spots.proofs.spot.Spot.called.Goals as goal

pub returns : goal.returns
returns c t s a =
    called_is s a c.args.self.now c.pushed.new.self c.open.new.self (map set_of c.saved_of-saved.result) (call_of (record { end = c.dt-dt.result + 4; lb = c.lb-lb.result; place = c.at-place.result }))
    c.args.to (ap (λ (n : ℕ). n + 4) c.dt-dt.ensures) c.lb-lb.ensures c.at-place.ensures c.saved_of-saved.ensures
    (c.in_ok-pushed.ensures c.if-not-branch.false s a) c.in_ok-open.ensures
