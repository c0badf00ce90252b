use Rattle.std.proofs.Common.{map, length, sym}
use Rattle.std.proofs.lemmas.List.{length-map}
use Rattle.prove_facts.specs.Sets.{set_of}
use Rattle.prove_spots.proofs.SpotLemmas.{pushed_is}
use Rattle.prove_spots.proofs.spot.Spot.pushed.Goals as goal

pub returns : goal.returns
returns c t s a =
    let values = c.args.values.now in
    pushed_is s a c.args.self.now c.written.new.self c.set_dt.new.self (map set_of values) c.dt-dt.result (length values) c.dt-dt.ensures (sym (length-map values set_of))
    (c.in_ok-written.ensures c.if-not-branch.false s a) c.set_dt.ensures
