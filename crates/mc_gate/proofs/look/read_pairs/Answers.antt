use Rattle.std.proofs.Common.{arith}
use Rattle.mc_words.specs.model_device.specs.Image.{pairs}
use Rattle.mc_gate.specs.Layouts.{journal_of}
use Rattle.mc_gate.proofs.LookLemmas.{read_value, pairs_on, pairs_end}
use Rattle.mc_gate.proofs.look.read_pairs.Goals as goal

pub loop-i-preserved : goal.loop-i-preserved
loop-i-preserved g c =
    let j = journal_of c.args.layout in
    let m = (g.N.Nvm.state c.args.device.now).words in
    record {
      room = omega (arith, c.push.ensures.len);
      all = pairs_on j m c.loop-i.i c.args.targets.now (pairs j m 0 c.args.targets.now) c.loop-i.list.items c.push.new.self.items c.read.result c.loop-i-test.true c.loop-i.invariant.all
          (read_value j m c.loop-i.i c.place_of_value.result c.read.result c.read.ensures c.place_of_value.ensures.place) c.push.ensures.items;
    }

pub returns : goal.returns
returns g c =
    let j = journal_of c.args.layout in
    let m = (g.N.Nvm.state c.args.device.now).words in
    pairs_end j m c.loop-i.i c.args.targets.now (pairs j m 0 c.args.targets.now) c.loop-i.list.items c.loop-i-test.false c.loop-i.invariant.all
