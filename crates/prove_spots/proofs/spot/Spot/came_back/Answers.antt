use Rattle.std.proofs.Common.{map, length, sym}
use Rattle.std.proofs.lemmas.List.{length-map}
use Rattle.prove_facts.specs.Sets.{set_of}
use Rattle.prove_keys.specs.Keys.{call_of}
use Rattle.prove_spots.proofs.SpotLemmas.{returned_is}
use Rattle.prove_spots.proofs.spot.Spot.came_back.Goals as goal

pub returns : goal.returns
returns c t s a =
    let values = c.args.values.now in
    returned_is s a c.args.self.now c.leave.new.self c.written.new.self c.lowered.new.self (map set_of values) (call_of c.args.call.now) c.args.to (length values)
    c.leave.ensures (sym (length-map values set_of)) (c.in_ok-written.ensures c.if-not-branch.false s a) (c.in_ok-lowered.ensures s a)
