use Rattle.mc_segs.proofs.FrameLemmas.{keeps_padded}
use Rattle.mc_segs.proofs.session.Session.of.Goals as goal

pub invariant_of-result : goal.invariant_of-result
invariant_of-result c = keeps_padded c.write.new.into c.args.bytes.now c.requires c.write.ensures
