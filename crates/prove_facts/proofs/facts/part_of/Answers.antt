use Rattle.std.proofs.Common.{arith}
use Rattle.prove_facts.proofs.FactLemmas.{part_is, part_none}
use Rattle.prove_facts.proofs.facts.part_of.Goals as goal

pub returns-then-low-high : goal.returns-then-low-high
returns-then-low-high c s =
    part_none c.args.list.now c.args.from c.args.to c.place_of-low.result c.place_of-high.result c.if-low-high.true
    (c.place_of-low.ensures.below s) (c.place_of-high.ensures.above s)

pub returns : goal.returns
returns c s =
    part_is c.args.list.now c.args.from c.args.to c.place_of-low.result c.place_of-high.result (omega arith) s
    (c.place_of-low.ensures.below s) (c.place_of-low.ensures.above s) (c.place_of-high.ensures.below s) (c.place_of-high.ensures.above s)
