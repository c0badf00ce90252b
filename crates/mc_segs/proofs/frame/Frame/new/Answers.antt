use Rattle.mc_segs.proofs.FrameLemmas.{new_is}
use Rattle.mc_segs.proofs.frame.Frame.new.Goals as goal

pub returns : goal.returns
returns c = new_is c.args.slot c.args.facts.now.sizes c.new.result c.write.new.into c.bytes-bytes.result.now c.args.session.now c.new.ensures c.bytes-bytes.ensures.value c.requires c.write.ensures
